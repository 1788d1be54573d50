-- What the pass of an `OwnTable` holds, and what contracts see of it (this project's own).
use Rattle.std.specs.Prelude.{◌≡◌, ◌≢◌, ℕ, zero, suc, ◌≤◌, List, length, slice_get, Some, true}
use Rattle.nfg_syn.specs.Known.{Texts, IsRowSize, IsInternable, crlf}
use Rattle.nfg_syn.specs.Seen.{Seen}
use Rattle.nfg_syn.specs.Refusal.{IsTableFull, NeverDrained}

-- the size of the table, and the texts that were interned besides CR LF, in order
pub record OwnTexts : Type 0 where
  pub size : ℕ
  pub texts : List (List ℕ)

-- the texts at the places 0, 1, ..
abbrev pub places_of : List (List ℕ) → Texts
places_of texts k = slice_get texts k

-- CR LF is -1, and the text at place k is -(k + 2)
abbrev pub known_of : List (List ℕ) → Texts
known_of texts zero = Some crlf
known_of texts (suc k) = slice_get texts k

-- the table has one caller, so its pass is a root from which nothing is forked
abbrev pub seen_of : OwnTexts → Seen
seen_of pass = record {
  known = known_of pass.texts;
  places = places_of pass.texts;
  root = true;
  forks = 0;
  meets = 0;
  full = IsTableFull pass.size (places_of pass.texts);
  drained = NeverDrained;
}

-- the texts of a table of this size: at most that many, all different, and none of them CR LF
pub record AreTextsOf (size : ℕ) (texts : List (List ℕ)) : Type 0 where
  pub row_size : IsRowSize size
  pub fit : length texts ≤ size
  pub each : (k : ℕ) (t : List ℕ) → slice_get texts k ≡ Some t → IsInternable t × (t ≢ crlf)
  pub different : (a b : ℕ) (t : List ℕ) → slice_get texts a ≡ Some t → slice_get texts b ≡ Some t → a ≡ b

-- the pass is of a table of this size
pub record IsOwnPass (size : ℕ) (pass : OwnTexts) : Type 0 where
  pub same_size : pass.size ≡ size
  pub lawful : AreTextsOf size pass.texts
