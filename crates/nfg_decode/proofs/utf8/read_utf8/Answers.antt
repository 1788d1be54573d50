use Rattle.std.proofs.Common.{◌++◌, ◌∙◌, ap}
use Rattle.std.proofs.lemmas.List.{take_rest}
use Rattle.std.specs.Str.{chars}
use Rattle.nfg_decode.proofs.Utf8Text.{reads_behind}
use Rattle.nfg_decode.proofs.utf8.read_utf8.Goals as goal

pub returns-clause-ok : goal.returns-clause-ok
returns-clause-ok c =
    let front = c.in-Ok.ensures.cases in
    let old = c.args.into.now in
    reads_behind c.args.bytes.now old c.append_text.new.into c.read_checked-2.new.into c.whole_len-whole.result c.in_ok-behind.behind.at c.in_ok-behind.behind.is_malformed
    c.whole_len-whole.ensures front.1 (c.in_ok-append_text.ensures.ok ∙ ap (λ t. old ++ chars t) front.0) (rw take_rest at c.in_ok-behind.ensures.ok)
