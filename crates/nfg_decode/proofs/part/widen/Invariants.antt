use Rattle.std.proofs.Common.{◌≡◌, take}
use Rattle.nfg_decode.proofs.part.widen.Given as goal

abbrev pub invariant-loop-k : goal.invariant-loop-k
invariant-loop-k l = take l.k l.codes ≡ take l.k l.bytes
