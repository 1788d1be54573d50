-- The open cluster while it is still a part of a text that is fed (this project's own).
use Rattle.std.specs.Prelude.{◌≡◌, ℕ, List, [], ◌++◌, drop, reverse}
use Rattle.std.specs.List.{slice_range}
use Rattle.nfg_text.specs.Breaks.{Remembers}
use Rattle.nfg_segment.specs.Given.{Given, with_clusters}
use Rattle.nfg_segment.specs.Held.{Unfinished, Keeps, next_all, closed_all}
use Rattle.nfg_segment.specs.declared.open_reach.Reach.{Reach}

-- the cluster is what is held of it, and then the text as far as `at`, from where the cluster reaches into it
pub record Reaches (held : Unfinished) (text : List ℕ) (at : ℕ) (reach : Reach) (cluster : List ℕ) : Type 0 where
  pub before : List ℕ
  pub keeps : Keeps held before
  pub whole : cluster ≡ before ++ slice_range text reach.start at
  pub memory : Remembers reach.memory (reverse cluster)

-- the open cluster has been given out, and the text from `n` on is cut as a text of its own
pub record HasPassed (held : Unfinished) (old_out new_out : Given) (cluster text : List ℕ) (n : ℕ) : Type 0 where
  pub none : Keeps held []
  pub last : next_all cluster text ≡ next_all [] (drop n text)
  pub given : with_clusters new_out (closed_all [] (drop n text)) ≡ with_clusters old_out (closed_all cluster text)
