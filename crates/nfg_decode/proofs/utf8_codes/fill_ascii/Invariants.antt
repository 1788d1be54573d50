use Rattle.std.proofs.Common.{◌-◌, length, take}
use Rattle.nfg_decode.specs.Utf8.{IsFront}
use Rattle.nfg_decode.proofs.utf8_codes.fill_ascii.Given as goal

abbrev pub invariant-loop-n : goal.invariant-loop-n
invariant-loop-n l = IsFront l.text l.n (take l.n l.codes)

abbrev pub decreases-loop-n : goal.decreases-loop-n
decreases-loop-n l = length l.text - l.n
