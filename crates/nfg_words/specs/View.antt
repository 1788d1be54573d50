-- The view of a pass: what contracts and proofs see of it (this project's own).
use Rattle.std.specs.Prelude.{◌≡◌, ℕ, ◌==◌, List, [], ◌∷◌, Option, Some, None, ◌⊎◌, true, if◌then◌else◌}
use Rattle.nfg_syn.specs.Known.{Texts}
use Rattle.nfg_words.specs.Layout.{text_named}
use Rattle.nfg_words.specs.declared.view.View.{View}

-- what a list of pairs says of an index, where the first pair counts
abbrev pub entry : List (ℕ × ℕ) → ℕ → Option ℕ
entry [] index = None
entry (pair ∷ pairs) index = if pair.0 == index then Some pair.1 else entry pairs index

-- the list says that the index has the word
abbrev pub Says : List (ℕ × ℕ) → ℕ → ℕ → Type 0
Says pairs index word = entry pairs index ≡ Some word

-- the pair is one of the list's, though an earlier one of its index may count before it
abbrev pub IsIn : List (ℕ × ℕ) → ℕ → ℕ → Type 0
IsIn [] index word = ⊥
IsIn (pair ∷ pairs) index word = ((pair.0 ≡ index) × (pair.1 ≡ word)) ⊎ IsIn pairs index word

-- what the first list says of an index, the second says too
abbrev pub SaysAll : List (ℕ × ℕ) → List (ℕ × ℕ) → Type 0
SaysAll pairs others = (index word : ℕ) → Says pairs index word → Says others index word

-- the number is among the numbers
abbrev pub IsAmong : List ℕ → ℕ → Type 0
IsAmong [] number = ⊥
IsAmong (first ∷ rest) number = (first ≡ number) ⊎ IsAmong rest number

-- the texts at the places that the pass has read or written in full
abbrev pub places_of : View → Texts
places_of view place = text_named (entry view.codes) (entry view.buckets place)

-- the second view records at least the bucket words, code words and taken chunks that the first does
pub record Grows (old new : View) : Type 0 where
  pub buckets : SaysAll old.buckets new.buckets
  pub codes : SaysAll old.codes new.codes
  pub chunks : (chunk : ℕ) → IsAmong old.chunks chunk → IsAmong new.chunks chunk

-- the view of the pass that comes with a table of n buckets
abbrev pub fresh_view : ℕ → View
fresh_view n = record {
  size = n;
  buckets = [];
  codes = [];
  chunks = [];
  unspent = 0;
  end = 0;
  written = [];
  inserted = [];
  numbered = [];
  taken = 0;
  steps = 0;
  root = true;
  forks = 0;
  meets = 0;
}

-- what is left as the view of a pass that was joined away: no size, no records and no unspent code words
abbrev pub emptied : View
emptied = fresh_view 0
