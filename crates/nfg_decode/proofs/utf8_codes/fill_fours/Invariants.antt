use Rattle.std.proofs.Common.{◌*◌, ◌-◌, length, take}
use Rattle.nfg_decode.specs.Utf8.{IsFront}
use Rattle.nfg_decode.proofs.utf8_codes.fill_fours.Given as goal

abbrev pub invariant-loop-fours : goal.invariant-loop-fours
invariant-loop-fours l = IsFront l.text (l.fours * 12) (take (l.fours * 4) l.codes)

abbrev pub decreases-loop-fours : goal.decreases-loop-fours
decreases-loop-fours l = length l.text - l.fours * 12
