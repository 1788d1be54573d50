use Rattle.std.proofs.Common.{◌≡◌, false, IsSome}
use Rattle.nfg_io.proofs.tests.read_all.Given as goal

-- a path is open, and no call on it has failed
abbrev pub invariant-loop-reads : goal.invariant-loop-reads
invariant-loop-reads g l = IsSome (g.F.Files.state l.files).open_path × ((g.F.Files.state l.files).broken ≡ false)
