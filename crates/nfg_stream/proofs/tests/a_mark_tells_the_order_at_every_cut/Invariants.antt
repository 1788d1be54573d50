use Rattle.nfg_syn.specs.OwnTexts.{IsOwnPass}
use Rattle.nfg_stream.proofs.tests.a_mark_tells_the_order_at_every_cut.Given as goal

abbrev pub invariant-rows : goal.invariant-rows
invariant-rows g l = IsOwnPass l.table l.pass
