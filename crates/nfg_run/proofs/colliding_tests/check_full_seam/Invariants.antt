use Rattle.nfg_run.proofs.colliding_tests.check_full_seam.Given as goal

abbrev pub invariant-seams : goal.invariant-seams
invariant-seams g l = g.T.Synthetics.is_of l.table l.pass
