-- The strings of a workbench (this project's own).
use Rattle.std.specs.Prelude.{⊤, List, [], ◌∷◌}
use Rattle.nfg_syn.specs.Known.{Texts}
use Rattle.nfg_syn.specs.OwnTexts.{IsOwnPass, known_of}
use Rattle.nfg_syn.specs.Represents.{AreGraphemes}
use Rattle.nfg_strand.specs.Value.{Rope}
use Rattle.nfg_bench.specs.declared.workbench.Workbench.{Workbench}

-- each stands for the graphemes of some text
abbrev pub AreLawful : Texts → List Rope → Type 0
AreLawful known [] = ⊤
AreLawful known (string ∷ strings) = AreGraphemes known string.graphemes × AreLawful known strings

-- the pass is of the table, and so are the strings
pub record IsReady (bench : Workbench) : Type 0 where
  pub pass : IsOwnPass bench.table bench.pass
  pub strings : AreLawful (known_of bench.pass.texts) bench.strings.items
