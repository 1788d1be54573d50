-- What contracts see of the pass of a `WordTable` (this project's own).
use Rattle.std.specs.Prelude.{◌≡◌, ℕ, zero, suc, ◌==◌, Bool, false, ◌||◌, List, [], ◌∷◌, Some, None, if◌then◌else◌, ℤ, pos, negsuc}
use Rattle.nfg_syn.specs.Known.{Texts, IsOneToOne, IsRowSize, crlf}
use Rattle.nfg_syn.specs.Refusal.{IsTableFull}
use Rattle.nfg_syn.specs.Seen.{Seen}
use Rattle.nfg_words.specs.Passes.{IsPassOf, PutsAtMost, view_of}
use Rattle.nfg_words.specs.View.{places_of}
use Rattle.nfg_words.specs.Writing.{AreChunksSpent}
use Rattle.nfg_words.specs.declared.pass.WordPass.{WordPass}
use Rattle.nfg_words.specs.declared.table.WordTable.{WordTable}
use Rattle.nfg_words.specs.declared.view.View.{View}

-- the number is one of these
abbrev pub is_among : List ℕ → ℕ → Bool
is_among [] number = false
is_among (first ∷ rest) number = (first == number) || is_among rest number

-- CR LF is -1, and the text at place k is -(k + 2) where the pass knows that number
abbrev pub known_of : View → Texts
known_of view zero = Some crlf
known_of view (suc place) = if is_among view.numbered place then places_of view place else None

-- each place holds another text, no two of them the same
pub record IsFullOf (view : View) (text : List ℕ) : Type 0 where
  pub full : IsTableFull view.size (places_of view) text
  pub different : IsOneToOne (places_of view)

-- The table refuses a text where each place was seen to hold another one, or where each chunk was found taken.
abbrev pub seen_of : WordPass → Seen
seen_of pass = record {
  known = known_of (view_of pass);
  places = places_of (view_of pass);
  root = (view_of pass).root;
  forks = (view_of pass).forks;
  meets = (view_of pass).meets;
  full = IsFullOf (view_of pass);
  drained = AreChunksSpent (view_of pass).size (view_of pass);
}

-- the pass is of this table
pub record IsWordPass (table : WordTable) (pass : WordPass) : Type 0 where
  pub row_size : IsRowSize table.n
  pub key : table.words.shared.key ≡ table.n
  pub of_pass : IsPassOf table.words.shared.table_id table.n pass

-- the pass has put no text, or one, whose number this is
abbrev pub PutsAtMostIts : ℤ → View → View → Type 0
PutsAtMostIts (pos c) old new = new.inserted ≡ old.inserted
PutsAtMostIts (negsuc zero) old new = new.inserted ≡ old.inserted
PutsAtMostIts (negsuc (suc place)) old new = PutsAtMost place old new
