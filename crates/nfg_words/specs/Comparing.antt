-- What a pass has read of a text, and how it compares with another one (this project's own).
use Rattle.std.specs.Prelude.{◌≡◌, ◌≢◌, ℕ, ◌+◌, ◌<◌, ◌≤◌, List, ◌∷◌, Some}
use Rattle.nfg_syn.specs.Known.{Texts}
use Rattle.nfg_words.specs.Layout.{pair_at}
use Rattle.nfg_words.specs.ProbeTable.{probe_sequence}
use Rattle.nfg_words.specs.View.{Says, SaysAll, places_of}
use Rattle.nfg_words.specs.declared.view.View.{View}

-- the pass has read more code words, and nothing else of it has changed but the count of its steps
pub record ReadsOn (old new : View) : Type 0 where
  pub same : new ≡ record old { codes = new.codes; steps = new.steps }
  pub codes : SaysAll old.codes new.codes

-- the pass knows the number of one place more
abbrev pub numbered : View → ℕ → View
numbered view place = record view { numbered = place ∷ view.numbered }

-- it has read so many code words from `start` on
abbrev pub AreRecorded : View → ℕ → ℕ → Type 0
AreRecorded view start count = (c : ℕ) → start ≤ c → c < start + count → (word : ℕ) × Says view.codes c word

-- and they are those of the text
abbrev pub AreCodesOf : View → ℕ → ℕ → List ℕ → Type 0
AreCodesOf view start count text = (c j : ℕ) → c ≡ start + j → j < count → Says view.codes c (pair_at text j)

-- and one of them is not that of the text
abbrev pub HasOther : View → ℕ → ℕ → List ℕ → Type 0
HasOther view start count text = (j : ℕ) × (word : ℕ) × (j < count) × Says view.codes (start + j) word × (word ≢ pair_at text j)

-- the places at the first indexes of the text's probe sequence, as many as `count`, hold other texts
abbrev pub ArePassed : ℕ → Texts → List ℕ → ℕ → Type 0
ArePassed n places text count = (earlier : ℕ) → earlier < count
    → (other : List ℕ) × (places (probe_sequence n text earlier) ≡ Some other) × (other ≢ text)

-- the place holds a text that is not this one
abbrev pub HoldsOther : View → ℕ → List ℕ → Type 0
HoldsOther view place text = (other : List ℕ) × (places_of view place ≡ Some other) × (other ≢ text)

-- the text stands at place k, and each place before it on the text's probe sequence holds another text
pub record IsFound (n : ℕ) (places : Texts) (k : ℕ) (text : List ℕ) : Type 0 where
  pub here : places k ≡ Some text
  pub index : ℕ
  pub on_sequence : index < n
  pub reaches : probe_sequence n text index ≡ k
  pub passed : ArePassed n places text index
