use Rattle.std.proofs.Common.{◌≡◌, ◌++◌, replicate}
use Rattle.std.specs.List.{concat}
use Rattle.std.specs.Prelude.{chars}
use Rattle.nfg_bench.proofs.segment.CodePoints.repeated.Given as goal

abbrev pub invariant-loop-k : goal.invariant-loop-k
invariant-loop-k l = l.text ≡ chars l.front ++ concat (replicate l._k (chars l.sample))
