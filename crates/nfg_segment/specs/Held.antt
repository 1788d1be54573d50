-- What a segmenter holds of a text (this project's own).
use Rattle.std.specs.Prelude.{◌≡◌, ℕ, Bool, true, false, not, ◌&&◌, List, [], ◌∷◌, ◌++◌, take, reverse, if◌then◌else◌}
use Rattle.nfg_text.specs.Grapheme.{is_grapheme_break}
use Rattle.nfg_text.specs.Breaks.{Remembers}
use Rattle.nfg_text.specs.Graphemes.{is_too_long, starts_safely}
use Rattle.nfg_text.specs.declared.breaks.Memory.{Memory}

-- of a cluster that may go on: its first 1,024 code points, whether it has more, and what the rules read of it
pub record Unfinished : Type 0 where
  pub head : List ℕ
  pub is_long : Bool
  pub memory : Memory

-- such a cluster as it is, and as it was when it was last marked
pub record MarkedCluster : Type 0 where
  pub now : Unfinished
  pub marked : Unfinished

-- the cluster at the end of what is composed, and the text after it that is not composed yet
pub record Held : Type 0 where
  pub cluster : Unfinished
  pub tail : List ℕ

-- what is held as it is, and as it was when it was last marked
pub record MarkedHeld : Type 0 where
  pub now : Held
  pub marked : Held

-- what is held of the cluster is true of it
pub record Keeps (held : Unfinished) (cluster : List ℕ) : Type 0 where
  pub head : held.head ≡ take 1024 cluster
  pub long : held.is_long ≡ is_too_long cluster
  pub memory : Remembers held.memory (reverse cluster)

-- there is a cluster
abbrev pub is_some : List ℕ → Bool
is_some [] = false
is_some (c ∷ cs) = true

-- there is a cluster, and it ends before this code point
abbrev pub ends_before : List ℕ → ℕ → Bool
ends_before cluster c = is_some cluster && is_grapheme_break true (reverse cluster) (c ∷ [])

-- the cluster that this code point ends
abbrev pub closed : List ℕ → ℕ → List (List ℕ)
closed cluster c = if ends_before cluster c then cluster ∷ [] else []

-- the cluster that stays open before it
abbrev pub left_open : List ℕ → ℕ → List ℕ
left_open cluster c = if ends_before cluster c then [] else cluster

-- the cluster that is open after it
abbrev pub next : List ℕ → ℕ → List ℕ
next cluster c = left_open cluster c ++ c ∷ []

-- the cluster that is open after some code points more
abbrev pub next_all : List ℕ → List ℕ → List ℕ
next_all cluster [] = cluster
next_all cluster (c ∷ cs) = next_all (next cluster c) cs

-- the clusters that these end, in order
abbrev pub closed_all : List ℕ → List ℕ → List (List ℕ)
closed_all cluster [] = []
closed_all cluster (c ∷ cs) = closed cluster c ++ closed_all (next cluster c) cs

-- the cluster in a list, or the empty list where there is none
abbrev pub as_list : List ℕ → List (List ℕ)
as_list [] = []
as_list (c ∷ cs) = (c ∷ cs) ∷ []

-- no code point of the text starts safely
abbrev pub none_safe : List ℕ → Bool
none_safe [] = true
none_safe (c ∷ cs) = not (starts_safely c) && none_safe cs
