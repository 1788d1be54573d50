use Rattle.std.proofs.Common.{◌≡◌, ◌++◌, [], drop}
use Rattle.nfg_work.specs.Levels.{levels_from}
use Rattle.nfg_work.proofs.level.levels.Given as goal

abbrev pub invariant-leveling : goal.invariant-leveling
invariant-leveling l = l.list ++ levels_from l.names (drop l.k l.script) ≡ levels_from [] l.script
