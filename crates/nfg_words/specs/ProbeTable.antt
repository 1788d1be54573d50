-- The table of texts as a machine: places, and the one event that fills a place (this project's own).
use Rattle.std.specs.Prelude.{◌≡◌, ◌≢◌, ℕ, ⊤, ◌+◌, ◌*◌, ◌%◌, ◌^◌, ◌<◌, ◌==◌, List, [], ◌∷◌, fold, Some, None, if◌then◌else◌}
use Rattle.nfg_syn.specs.Known.{Texts, IsInternable, crlf, nothing}

-- a hash after one more code point
abbrev pub next_hash : ℕ → ℕ → ℕ
next_hash hash code = (hash * 31 + code) % 2 ^ 32

-- the hash of a text
unfoldable pub probe_hash : List ℕ → ℕ
probe_hash text = fold next_hash 0 text

-- The place at an index of the text's probe sequence. The sequence has the indices 0 to size - 1.
unfoldable pub probe_sequence : ℕ → List ℕ → ℕ → ℕ
probe_sequence size text index = (probe_hash text + index) % size

-- a text that stands in a place: one of 2 to 1,024 code points, but not CR LF
pub record IsStorable (text : List ℕ) : Type 0 where
  pub internable : IsInternable text
  pub no_line_end : text ≢ crlf

-- a text is put at a place
pub record Insert : Type 0 where
  pub place : ℕ
  pub text : List ℕ

-- A text may be put at an empty place where each place before it on the text's probe sequence holds another text.
-- A state is a finite map from places to the texts that they hold.
pub record IsAllowed (size : ℕ) (texts : Texts) (event : Insert) : Type 0 where
  pub storable : IsStorable event.text
  pub index : ℕ
  pub on_sequence : index < size
  pub reaches : probe_sequence size event.text index ≡ event.place
  pub empty : texts event.place ≡ None
  pub passed : (earlier : ℕ) → earlier < index
      → (other : List ℕ) × (texts (probe_sequence size event.text earlier) ≡ Some other) × (other ≢ event.text)

-- the state after an event
abbrev pub after : Texts → Insert → Texts
after texts event place = if place == event.place then Some event.text else texts place

-- the state that events lead to, the first one first
abbrev pub after_all : Texts → List Insert → Texts
after_all texts [] = texts
after_all texts (event ∷ events) = after_all (after texts event) events

-- each event is allowed in the state that those before it lead to
abbrev pub AreAllowed : ℕ → Texts → List Insert → Type 0
AreAllowed size texts [] = ⊤
AreAllowed size texts (event ∷ events) = IsAllowed size texts event × AreAllowed size (after texts event) events

-- a run of a table of this size: allowed events, from the table whose places are all empty
abbrev pub IsRun : ℕ → List Insert → Type 0
IsRun size events = AreAllowed size nothing events
