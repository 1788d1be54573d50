use Rattle.std.proofs.Common.{◌≡◌, take}
use Rattle.nfg_encode.proofs.part.fill_bytes.Given as goal

abbrev pub invariant-filling : goal.invariant-filling
invariant-filling l = take l.k l.out ≡ take l.k l.codes
