use Rattle.nfg_words.specs.Table.{IsWordPass}
use Rattle.nfg_run.proofs.part_tests.check_clusters.Given as goal

abbrev pub invariant-clusters : goal.invariant-clusters
invariant-clusters g l = IsWordPass l.table l.pass
