use Rattle.std.proofs.Common.{◌≡◌, true}
use Rattle.nfg_words.specs.Table.{IsWordPass, seen_of}
use Rattle.nfg_run.proofs.part_text_tests.check_place.Given as goal

abbrev pub invariant-places : goal.invariant-places
invariant-places g l = record {
  root : (seen_of l.pass).root ≡ true;
  table : IsWordPass l.table l.pass;
}
