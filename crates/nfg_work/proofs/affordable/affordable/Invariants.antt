use Rattle.std.proofs.Common.{◌<◌, length}
use Rattle.std.specs.Prelude.{All}
use Rattle.nfg_work.proofs.affordable.affordable.Given as goal

abbrev pub invariant-affording : goal.invariant-affording
invariant-affording g l = All (λ job. job < length l.work.script.now) l.kept.items
