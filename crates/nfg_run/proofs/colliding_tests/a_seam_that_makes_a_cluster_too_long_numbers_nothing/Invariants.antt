use Rattle.nfg_syn.specs.OwnTexts.{IsOwnPass}
use Rattle.nfg_run.proofs.colliding_tests.a_seam_that_makes_a_cluster_too_long_numbers_nothing.Given as goal

abbrev pub invariant-clusters : goal.invariant-clusters
invariant-clusters g l = IsOwnPass l.table l.pass
