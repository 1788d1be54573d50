use Rattle.nfg_run.proofs.colliding_tests.check_colliding.Given as goal

abbrev pub invariant-marks : goal.invariant-marks
invariant-marks g l = g.T.Synthetics.is_of l.table l.pass
