use Rattle.nfg_encode.proofs.TextLemmas.{encoded_if_ok}
use Rattle.nfg_encode.proofs.encode.append_text.Goals as goal

pub returns-clause-ok : goal.returns-clause-ok
returns-clause-ok c =
    encoded_if_ok c.args.e c.args.codes.now c.args.into.now c.append_start.new.into c.append_codes.new.into c.append_codes.result
    c.in_ok-append_start.ensures.ok c.append_codes.ensures.ok
