use Rattle.std.proofs.Common.{◌≡◌, length, map, take, nat_abs}
use Rattle.nfg_ops.proofs.spelled.copy_codes.Given as goal

-- those before are copied
abbrev pub invariant-loop-k : goal.invariant-loop-k
invariant-loop-k l = record {
  long : length l.into ≡ length l.numbers;
  copied : take l.k l.into ≡ map nat_abs (take l.k l.numbers);
}
