use Rattle.std.proofs.Common.{arith, refl, length-drop}
use Rattle.std.proofs.lemmas.List.{take_rest}
use Rattle.nfg_decode.specs.Utf16.{decode_utf16}
use Rattle.nfg_decode.proofs.Utf16Laws.{sequence_more}
use Rattle.nfg_decode.proofs.utf16.read_run.Goals as goal

pub loop-k-init : goal.loop-k-init
unfolding decode_utf16
loop-k-init c = record { within = omega arith; progress = omega arith; text = refl }

pub loop-k-preserved : goal.loop-k-preserved
loop-k-preserved c =
    let l = c.loop-k in
    let within = rw take_rest at c.in-Some.ensures.within in
    let found = rw take_rest at c.in-Some.ensures.found in
    record {
      within = omega (arith, within.1, length-drop l.at c.args.bytes.now);
      progress = omega (arith, within.0);
      text = sequence_more c.args.order c.args.bytes.now l.codes l.at l.k c.in-Some.code c.in-Some.len (omega arith) l.invariant.text found;
    }
