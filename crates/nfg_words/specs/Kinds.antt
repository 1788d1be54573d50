-- The kinds of step, one atomic event each: what a step needs, and what it makes of the words and the views (this
-- project's own).
use Rattle.std.specs.Prelude.{◌≡◌, ◌≢◌, ℕ, ◌<◌, ◌≤◌, List, ◌⊎◌}
use mathlib.Core.Option as maybe
use Rattle.nfg_words.specs.Layout.{chunk_count, chunk_word, code_word}
use Rattle.nfg_words.specs.Rule.{Views, IsJustified}
use Rattle.nfg_words.specs.Steps.{CanPublish, IsNamed, chunk_taken, chunk_found, codes_written, bucket_read, codes_read, number_read, bucket_published, split, split_off, joined}
use Rattle.nfg_words.specs.View.{emptied}
use Rattle.nfg_words.specs.declared.view.View.{View}

-- one word becomes `value`, and the others are as before
pub record Changes (word next : ℕ → ℕ) (place value : ℕ) : Type 0 where
  pub here : next place ≡ value
  pub elsewhere : (other : ℕ) → other ≢ place → next other ≡ word other

-- after a step one pass has a new view, and each other pass the one that it had
abbrev pub OneMoves : Views → Views → ℕ → View → Type 0
OneMoves views later pass view = (other : ℕ) (its : View) → later other ≡ maybe.some its
    → ((other ≡ pass) × (view ≡ its)) ⊎ ((other ≢ pass) × (views other ≡ maybe.some its))

-- the pass has this view, and was not joined away
pub record Has (n : ℕ) (views : Views) (pass : ℕ) (view : View) : Type 0 where
  pub at : views pass ≡ maybe.some view
  pub size : view.size ≡ n

-- One step at a table of n buckets. An exchange of a bucket word that finds another word than 0 is a step of the kind
-- `reads_bucket`.
pub data Step (n : ℕ) (word : ℕ → ℕ) (views : Views) (next : ℕ → ℕ) (later : Views) : Type 0 where
  takes_chunk : (pass : ℕ) (view : View) (chunk : ℕ) → Has n views pass view → chunk < chunk_count n
      → word (chunk_word n chunk) ≡ 0
      → Changes word next (chunk_word n chunk) 1 → OneMoves views later pass (chunk_taken view chunk)
      → Step n word views next later
  finds_chunk : (pass : ℕ) (view : View) (chunk : ℕ) → Has n views pass view → chunk < chunk_count n
      → word (chunk_word n chunk) ≢ 0
      → word ≡ next → OneMoves views later pass (chunk_found view chunk) → Step n word views next later
  writes_codes : (pass : ℕ) (view : View) (c written : ℕ) → Has n views pass view → view.unspent ≤ c → c < view.end
      → Changes word next (code_word n c) written → OneMoves views later pass (codes_written view c written)
      → Step n word views next later
  reads_bucket : (pass : ℕ) (view : View) (place : ℕ) → Has n views pass view → place < n
      → word ≡ next → OneMoves views later pass (bucket_read view place (word place)) → Step n word views next later
  reads_codes : (pass : ℕ) (view : View) (c : ℕ) → Has n views pass view → IsNamed view c
      → word ≡ next → OneMoves views later pass (codes_read view c (word (code_word n c))) → Step n word views next later
  numbers_place : (pass : ℕ) (view : View) (c place : ℕ) → Has n views pass view → IsNamed view c
      → IsJustified n (codes_read view c (word (code_word n c))) place
      → word ≡ next → OneMoves views later pass (number_read view c (word (code_word n c)) place) → Step n word views next later
  publishes_bucket : (pass : ℕ) (view : View) (place bucket : ℕ) (text : List ℕ) → Has n views pass view
      → CanPublish n view place bucket text
      → word place ≡ 0 → Changes word next place bucket
      → OneMoves views later pass (bucket_published view place bucket) → Step n word views next later
  splits_view : (pass : ℕ) (view : View) (new_pass : ℕ) (between : Views) → Has n views pass view
      → word ≡ next → OneMoves views between pass (split view) → between pass ≡ maybe.some (split view)
      → OneMoves between later new_pass (split_off view) → Step n word views next later
  joins_views : (pass : ℕ) (view : View) (other : ℕ) (its : View) (between : Views) → Has n views pass view
      → views other ≡ maybe.some its
      → word ≡ next → OneMoves views between pass (joined view its) → OneMoves between later other emptied
      → Step n word views next later
