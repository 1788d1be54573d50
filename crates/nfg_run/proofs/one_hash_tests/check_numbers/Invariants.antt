use Rattle.nfg_run.proofs.one_hash_tests.check_numbers.Given as goal

abbrev pub invariant-clusters : goal.invariant-clusters
invariant-clusters g l = g.T.Synthetics.is_of l.table l.pass
