use Rattle.std.proofs.Common.{◌≡◌, length}
use Rattle.nfg_syn.specs.OwnTexts.{IsOwnPass}
use Rattle.nfg_bench.proofs.pipeline.numbers_of.Given as goal

abbrev pub invariant-numbering : goal.invariant-numbering
invariant-numbering l = record { table : IsOwnPass l.table l.pass; count : length l.numbers.items ≡ l.k }
