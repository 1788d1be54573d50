use Rattle.nfg_syn.specs.OwnTexts.{IsOwnPass}
use Rattle.nfg_stream.proofs.tests.malformed_bytes_are_refused_at_every_cut.Given as goal

abbrev pub invariant-rows : goal.invariant-rows
invariant-rows g l = IsOwnPass l.table l.pass
