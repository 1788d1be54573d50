-- What holds of the words of a table and of the views of all its passes between any two steps (this project's own).
use Rattle.std.specs.Prelude.{◌≡◌, ◌≢◌, ℕ, ◌+◌, ◌-◌, ◌*◌, ◌%◌, ◌<◌, ◌≤◌, nat_lt, List, Option, Some, None, ◌⊎◌, if◌then◌else◌}
use mathlib.Core.Option as maybe
use Rattle.nfg_syn.specs.Known.{Texts, IsOneToOne}
use Rattle.nfg_words.specs.Layout.{chunk_count, chunk_word, code_word, start_of, length_of, stop_of, second_code, text_named}
use Rattle.nfg_words.specs.ProbeTable.{IsStorable, probe_sequence}
use Rattle.nfg_words.specs.View.{IsIn, IsAmong, places_of, emptied}
use Rattle.nfg_words.specs.declared.view.View.{View}

-- the view of each pass, by the number that the table gives it
abbrev pub Views : Type 0
Views = ℕ → maybe.Option View

-- no code word lies in both ranges, each of which ends before its second number
abbrev pub AreApart : ℕ → ℕ → ℕ → ℕ → Type 0
AreApart start stop other_start other_stop = (c : ℕ) → start ≤ c → c < stop → other_start ≤ c → c < other_stop → ⊥

-- the texts of a table of n buckets whose words are `word`
module _ (n : ℕ) (word : ℕ → ℕ) where
  -- the code words as they are
  abbrev pub codes_now : ℕ → Option ℕ
  codes_now c = Some (word (code_word n c))

  -- the bucket words as they are
  abbrev pub bucket_now : ℕ → Option ℕ
  bucket_now place = if nat_lt place n then Some (word place) else None

  -- the state of the machine that the words show: the text in each place
  abbrev pub texts_now : Texts
  texts_now place = text_named codes_now (bucket_now place)

  -- the bucket is not empty
  abbrev pub IsFilled : ℕ → Type 0
  IsFilled place = (place < n) × (word place ≢ 0)

  -- the code words from `start` to before `stop` lie inside one chunk that is taken
  pub record LiesInChunk (start stop : ℕ) : Type 0 where
    pub chunk : ℕ
    pub below : chunk < chunk_count n
    pub from : 512 * chunk ≤ start
    pub to : stop ≤ 512 * chunk + 512
    pub taken : word (chunk_word n chunk) ≡ 1

  -- a filled bucket names the code word
  abbrev pub IsPublished : ℕ → Type 0
  IsPublished c = (place : ℕ) × IsFilled place × (start_of (word place) ≤ c) × (c < stop_of (word place))

  -- Each bucket word is 0 or names a text that may stand in a place, inside one taken chunk. Where its last code word
  -- has one code point alone, the other half is 0. A chunk word is 0 or 1.
  pub record AreWordsValid : Type 0 where
    pub chunks : (chunk : ℕ) → chunk < chunk_count n → word (chunk_word n chunk) ≤ 1
    pub lengths : (place : ℕ) → IsFilled place → (2 ≤ length_of (word place)) × (length_of (word place) ≤ 1024)
    pub storable : (place : ℕ) (text : List ℕ) → texts_now place ≡ Some text → IsStorable text
    pub in_chunk : (place : ℕ) → IsFilled place → LiesInChunk (start_of (word place)) (stop_of (word place))
    pub padded : (place : ℕ) → IsFilled place → length_of (word place) % 2 ≡ 1
        → second_code (word (code_word n (stop_of (word place) - 1))) ≡ 0

  -- The code words of two texts are apart, and so are those of a text and the unspent ones of a pass, and those of two
  -- passes. The unspent code words of a pass lie inside one taken chunk.
  pub record AreRangesApart (views : Views) : Type 0 where
    pub texts : (place other : ℕ) → IsFilled place → IsFilled other → place ≢ other
        → AreApart (start_of (word place)) (stop_of (word place)) (start_of (word other)) (stop_of (word other))
    pub from_unspent : (place pass : ℕ) (view : View) → IsFilled place → views pass ≡ maybe.some view
        → AreApart (start_of (word place)) (stop_of (word place)) view.unspent view.end
    pub unspent : (pass other : ℕ) (view other_view : View) → pass ≢ other → views pass ≡ maybe.some view
        → views other ≡ maybe.some other_view
        → AreApart view.unspent view.end other_view.unspent other_view.end
    pub in_chunk : (pass : ℕ) (view : View) → views pass ≡ maybe.some view → view.unspent < view.end
        → LiesInChunk view.unspent view.end

  -- each place before a filled one, on the probe sequence of the text there, is filled
  abbrev pub IsProbedBefore : Type 0
  IsProbedBefore = (place : ℕ) (text : List ℕ) → texts_now place ≡ Some text
      → (index : ℕ) × (index < n) × (probe_sequence n text index ≡ place)
      × ((earlier : ℕ) → earlier < index → texts_now (probe_sequence n text earlier) ≢ None)

  -- what a pass has recorded is so, and the code words that it has recorded are published
  pub record AreRecordsTrue (view : View) : Type 0 where
    pub buckets : (place found : ℕ) → IsIn view.buckets place found → (place < n) × (found ≢ 0) × (word place ≡ found)
    pub codes : (c found : ℕ) → IsIn view.codes c found → (word (code_word n c) ≡ found) × IsPublished c
    pub chunks : (chunk : ℕ) → IsAmong view.chunks chunk → (chunk < chunk_count n) × (word (chunk_word n chunk) ≡ 1)
    pub inserted : (place : ℕ) → IsAmong view.inserted place → (text : List ℕ) × (places_of view place ≡ Some text)

  -- what a pass has written stands in its unspent code words
  abbrev pub AreWritesTrue : View → Type 0
  AreWritesTrue view = (c written : ℕ) → IsIn view.written c written
      → (view.unspent ≤ c) × (c < view.end) × (word (code_word n c) ≡ written)

-- The pass has seen that no other place can hold the text at this one: each place before it on the text's probe sequence
-- holds another text.
abbrev pub IsJustified : ℕ → View → ℕ → Type 0
IsJustified n view place = (text : List ℕ) × (places_of view place ≡ Some text) × (index : ℕ) × (index < n)
    × (probe_sequence n text index ≡ place)
    × ((earlier : ℕ) → earlier < index
    → (other : List ℕ) × (places_of view (probe_sequence n text earlier) ≡ Some other) × (other ≢ text))

-- so it is for each place whose number the pass knows
abbrev pub AreNumbersJustified : ℕ → View → Type 0
AreNumbersJustified n view = (place : ℕ) → IsAmong view.numbered place → IsJustified n view place

-- between any two steps
pub record Rule (n : ℕ) (word : ℕ → ℕ) (views : Views) : Type 0 where
  pub words_valid : AreWordsValid n word
  pub ranges_apart : AreRangesApart n word views
  pub probed_before : IsProbedBefore n word
  pub texts_distinct : IsOneToOne (texts_now n word)
  pub records_true : (pass : ℕ) (view : View) → views pass ≡ maybe.some view → AreRecordsTrue n word view
  pub writes_true : (pass : ℕ) (view : View) → views pass ≡ maybe.some view → AreWritesTrue n word view
  pub numbers_justified : (pass : ℕ) (view : View) → views pass ≡ maybe.some view → AreNumbersJustified n view
  -- each view has the table's size, or is what is left of a pass that was joined away
  pub one_size : (pass : ℕ) (view : View) → views pass ≡ maybe.some view → (view.size ≡ n) ⊎ (view ≡ emptied)
