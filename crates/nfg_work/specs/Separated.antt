-- Clusters as they are shown one after another, each with a space behind it (this project's own).
use Rattle.std.specs.Prelude.{ℕ, List, [], ◌∷◌, ◌++◌}
use Rattle.nfg_work.specs.Printing.{shown_cluster}

-- the code points of a cluster, and then a space
abbrev pub shown_with_space : List ℕ → List ℕ
shown_with_space cluster = shown_cluster cluster ++ 32 ∷ []
