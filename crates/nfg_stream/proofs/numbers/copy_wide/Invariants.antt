use Rattle.std.proofs.Common.{◌≡◌, take, map, pos}
use Rattle.nfg_stream.proofs.numbers.copy_wide.Given as goal

abbrev pub invariant-codes : goal.invariant-codes
invariant-codes l = take l.k l.into ≡ map (λ c. pos c) (take l.k l.codes)
