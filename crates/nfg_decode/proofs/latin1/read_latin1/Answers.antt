use Rattle.std.proofs.Common.{ap, length, arith}
use Rattle.std.proofs.lemmas.List.{take_all}
use Rattle.std.specs.Prelude.{Ok}
use Rattle.nfg_decode.specs.declared.encoding.Encoding.TheVariants.{Latin1}
use Rattle.nfg_decode.specs.Encoding.{decode}
use Rattle.nfg_decode.proofs.ReadsLemmas.{IsUnfinished-end}
use Rattle.nfg_decode.proofs.latin1.read_latin1.Goals as goal

pub returns-clause-ok : goal.returns-clause-ok
unfolding decode
returns-clause-ok c =
    let bytes = c.args.bytes.now in
    record {
      within = omega arith;
      text = bytes;
      front = ap (λ l. Ok l) (take_all (length bytes) bytes (omega arith));
      added = c.in_ok-append_bytes.ensures.ok;
      behind = IsUnfinished-end Latin1 bytes;
    }
