-- The rule of an atomic table whose words are those of a table of synthetics, and what each step on it tells its pass
-- (this project's own).
use Rattle.std.specs.Prelude.{◌≡◌, [], ◌≢◌, ℕ, ◌+◌, ◌-◌, length, slice_index}
use lib.ListN.{get_elem?}
use mathlib.Core.Option as maybe
use Rattle.atomic_table.specs.Seated.{TableId}
use Rattle.atomic_table.specs.Table.{State, Me}
use Rattle.atomic_table.specs.Table as atomic
use Rattle.atomic_table.specs.declared.shared.Seat.{Seat}
use Rattle.nfg_words.specs.Layout.{chunk_count, word_count}
use Rattle.nfg_words.specs.Rule.{Rule}
use Rattle.nfg_words.specs.Steps.{chunk_taken, chunk_found, codes_written, bucket_read, bucket_published, codes_read, number_read}
use Rattle.nfg_words.specs.View.{Grows, Says}
use Rattle.nfg_words.specs.declared.view.View.{View}

-- the rule, of a state of the atomic table
abbrev pub IsKept : ℕ → State ℕ View → Type 0
IsKept n state = (length state.words ≡ word_count n) × Rule n (λ index. slice_index state.words index) (get_elem? state.views)

-- some state that keeps the rule has a pass with this view
pub record IsSound (n : ℕ) (view : View) : Type 0 where
  pub state : State ℕ View
  pub kept : IsKept n state
  pub pass : ℕ
  pub at : get_elem? state.views pass ≡ maybe.some view

-- The seat is one at the table of this name, which has n buckets. Its pass was not joined away, and has a sound view.
pub record IsSeatOf (id : TableId) (n : ℕ) (seat : Seat ℕ View) : Type 0 where
  pub table : seat.table_id ≡ id
  pub words : id.words ≡ word_count n
  pub size : seat.me.0.size ≡ n
  pub no_slots : seat.me.1 ≡ []
  pub sound : IsSound n seat.me.0

-- What each step leaves: the pass is of the same table, records no less, and has a sound view.
pub record Stays (before later : Me ℕ View) : Type 0 where
  pub slots : later.1 ≡ before.1
  pub size : later.0.size ≡ before.0.size
  pub grows : Grows before.0 later.0
  pub sound : IsSound before.0.size later.0

-- what an exchange of a chunk word from 0 to 1 tells: of the step, the seat before, the word that was found and the seat after
abbrev pub TellsChunk : atomic.Step ℕ → Me ℕ View → ℕ → Me ℕ View → Type 0
TellsChunk step before found later = (found ≡ 0 → later.0 ≡ chunk_taken before.0 (step.word - before.0.size))
    × (found ≢ 0 → later.0 ≡ chunk_found before.0 (step.word - before.0.size))
    × Stays before later

-- what a store of a code word tells
abbrev pub TellsWriting : atomic.Step ℕ → Me ℕ View → ℕ → Me ℕ View → Type 0
TellsWriting step before written later = (later.0 ≡ codes_written before.0 (step.word - (before.0.size + chunk_count before.0.size)) written)
    × Stays before later

-- what a load of a bucket word tells: what was recorded of it is what is found
abbrev pub TellsBucket : atomic.Step ℕ → Me ℕ View → ℕ → Me ℕ View → Type 0
TellsBucket step before found later = (later.0 ≡ bucket_read before.0 step.word found)
    × ((recorded : ℕ) → Says before.0.buckets step.word recorded → found ≡ recorded)
    × Stays before later

-- what an exchange of a bucket word from 0 tells
abbrev pub TellsPublishing : atomic.Step ℕ → Me ℕ View → ℕ → Me ℕ View → Type 0
TellsPublishing step before found later = (found ≡ 0 → later.0 ≡ bucket_published before.0 step.word step.second)
    × (found ≢ 0 → later.0 ≡ bucket_read before.0 step.word found)
    × Stays before later

-- the code word that a step is at
abbrev pub code_at : atomic.Step ℕ → View → ℕ
code_at step view = step.word - (view.size + chunk_count view.size)

-- what a load of a code word tells
abbrev pub TellsCodes : atomic.Step ℕ → Me ℕ View → ℕ → Me ℕ View → Type 0
TellsCodes step before found later = (later.0 ≡ codes_read before.0 (code_at step before.0) found) × Stays before later

-- the same of a load that gives the pass the number of a place where it finds a certain word
abbrev pub TellsNumber : ℕ → ℕ → atomic.Step ℕ → Me ℕ View → ℕ → Me ℕ View → Type 0
TellsNumber place wanted step before found later = (found ≡ wanted → later.0 ≡ number_read before.0 (code_at step before.0) found place)
    × (found ≢ wanted → later.0 ≡ codes_read before.0 (code_at step before.0) found)
    × Stays before later

-- What a load after a join tells: the view is as before, and sound.
abbrev pub TellsSight : atomic.Step ℕ → Me ℕ View → ℕ → Me ℕ View → Type 0
TellsSight step before found later = (later ≡ before) × IsSound before.0.size later.0
