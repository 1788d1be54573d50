use Rattle.std.proofs.Common.{◌≡◌, ◌++◌, take, true}
use Rattle.std.specs.Fmt.{digits}
use Rattle.std.specs.List.{flat_map}
use Rattle.nfg_work.proofs.Joined.{closed}
use Rattle.nfg_work.proofs.printing.append_cluster.Given as goal

abbrev pub invariant-showing : goal.invariant-showing
invariant-showing l = l.output ≡ l.fn.output ++ flat_map (closed 43 (digits 16 true)) (take l.k l.cluster)
