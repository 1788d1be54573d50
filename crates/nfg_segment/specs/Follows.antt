-- What a segmenter has given out of a text, and what it knows of the rest (this project's own).
use Rattle.std.specs.Prelude.{◌≡◌, ℕ, ◌≤◌, List, [], ◌++◌, length, take}
use Rattle.nfg_text.specs.Forms.{nfc}
use Rattle.nfg_text.specs.Graphemes.{clusters, graphemes_of, stable_len, IsStableBetween}
use Rattle.nfg_text.specs.Plain.{AllPlain}
use Rattle.nfg_segment.specs.Given.{Given, with_clusters}
use Rattle.nfg_segment.specs.Held.{Held, Keeps, as_list}

-- what was given are the first graphemes of the text, whatever follows it
abbrev pub IsSettled : List ℕ → List (List ℕ) → Type 0
IsSettled fed given = (u : List ℕ) → (rest : List (List ℕ)) × (graphemes_of (fed ++ u) ≡ given ++ rest)

-- the graphemes before each stable place of the text were given
abbrev pub StableAreOut : List ℕ → List (List ℕ) → Type 0
StableAreOut fed given =
    (x y : List ℕ) → fed ≡ x ++ y → IsStableBetween x y → length (graphemes_of x) ≤ length given

-- Whatever follows the text, its graphemes are those that were given, and then the clusters of an open
-- cluster and the NFC of what is held behind it.
pub record Tracks (held : Held) (fed : List ℕ) (given : List (List ℕ)) : Type 0 where
  pub cluster : List ℕ
  pub keeps : Keeps held.cluster cluster
  pub one : clusters cluster ≡ as_list cluster
  pub goes_on : (u : List ℕ) → graphemes_of (fed ++ u) ≡ given ++ clusters (cluster ++ nfc (held.tail ++ u))

-- and all that is stable was given
pub record Follows (held : Held) (fed : List ℕ) (given : List (List ℕ)) : Type 0 where
  pub tracks : Tracks held fed given
  pub stable : StableAreOut fed given

-- what a call that takes `text` has done: it gave `more` clusters
pub record HasFed (new : Held) (old_out new_out : Given) (fed text : List ℕ) (given : List (List ℕ)) : Type 0 where
  pub more : List (List ℕ)
  pub appended : new_out ≡ with_clusters old_out more
  pub follows : Follows new (fed ++ text) (given ++ more)
  pub settled : IsSettled (fed ++ text) (given ++ more)
  pub stable : length (graphemes_of (take (stable_len (fed ++ text)) (fed ++ text))) ≤ length (given ++ more)

-- what the last call has done: it gave the rest, and the text is the empty one again
pub record HasFinished (new : Held) (old_out new_out : Given) (fed : List ℕ) (given : List (List ℕ)) : Type 0 where
  pub more : List (List ℕ)
  pub appended : new_out ≡ with_clusters old_out more
  pub whole : given ++ more ≡ graphemes_of fed
  pub as_new : Follows new [] []

-- all that is held are plain code points that are not composed yet
pub record IsApart (held : Held) (fed : List ℕ) (given : List (List ℕ)) : Type 0 where
  pub follows : Follows held fed given
  pub none : follows.tracks.cluster ≡ []
  pub plain : AllPlain held.tail
