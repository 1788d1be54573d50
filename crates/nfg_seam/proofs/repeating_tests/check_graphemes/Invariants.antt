use Rattle.std.proofs.Common.{ℕ, List}
use Rattle.nfg_syn.specs.OwnTexts.{IsOwnPass, known_of}
use Rattle.nfg_syn.specs.Represents.{Represents}
use Rattle.nfg_seam.proofs.repeating_tests.check_graphemes.Given as goal

abbrev pub invariant-loop-k : goal.invariant-loop-k
invariant-loop-k g l = record {
  table : IsOwnPass l.table l.pass;
  clusters : List (List ℕ);
  known : Represents (known_of l.pass.texts) l.numbers.items clusters;
}
