-- Each kind of step keeps the rule, and makes of the texts what the machine does or nothing.
use Rattle.std.proofs.Common.{◌≡◌, ℕ, ◌⊎◌, inl, inr, refl, sym, subst, ap}
use Rattle.nfg_words.proofs.KeepsChunks.{chunk_taken_keeps, chunk_found_keeps, codes_written_keeps, taking_leaves, writing_leaves}
use Rattle.nfg_words.proofs.KeepsPublish.{bucket_published_keeps, texts_after, event_allowed}
use Rattle.nfg_words.proofs.KeepsViews.{read_keeps, codes_read_keeps, number_read_keeps, split_keeps, split_off_keeps, joined_keeps, emptied_keeps}
use Rattle.nfg_words.proofs.Moved.{texts_same}
use Rattle.nfg_words.specs.Kinds.{Step, takes_chunk, finds_chunk, writes_codes, reads_bucket, reads_codes, numbers_place, publishes_bucket, splits_view, joins_views}
use Rattle.nfg_words.specs.Layout.{code_word}
use Rattle.nfg_words.specs.ProbeTable.{Insert, IsAllowed, after}
use Rattle.nfg_words.specs.Rule.{Views, Rule, texts_now}
use Rattle.nfg_words.specs.Steps.{split}

module _ (n : ℕ) (word : ℕ → ℕ) (views : Views) (next : ℕ → ℕ) (later : Views) (rule : Rule n word views) where
  -- a step that changes no word
  same_words : word ≡ next → Rule n word later → Rule n next later
  same_words same kept = subst (λ (w : ℕ → ℕ). Rule n w later) same kept

  pub step_keeps : Step n word views next later → Rule n next later
  step_keeps (takes_chunk pass view chunk has fits free changes moves) =
      chunk_taken_keeps n word views rule pass view has.at has.size next later chunk fits free changes moves
  step_keeps (finds_chunk pass view chunk has fits taken same moves) =
      same_words same (chunk_found_keeps n word views rule pass view has.at has.size next later chunk fits taken moves)
  step_keeps (writes_codes pass view c written has low high changes moves) =
      codes_written_keeps n word views rule pass view has.at has.size next later c written low high changes moves
  step_keeps (reads_bucket pass view place has below same moves) =
      same_words same (read_keeps n word views rule pass view has.at has.size later place (word place) below refl moves)
  step_keeps (reads_codes pass view c has named same moves) =
      same_words same (codes_read_keeps n word views rule pass view has.at has.size later c (word (code_word n c)) named refl moves)
  step_keeps (numbers_place pass view c place has named justified same moves) =
      same_words same (number_read_keeps n word views rule pass view has.at has.size later c (word (code_word n c)) place named refl justified moves)
  step_keeps (publishes_bucket pass view place bucket text has can free changes moves) =
      bucket_published_keeps n word next views later rule pass view has.at has.size place bucket text can free changes moves
  step_keeps (splits_view pass view new_pass between has same first at second) =
      same_words same (split_off_keeps n word between (split_keeps n word views rule pass view has.at has.size between first) pass (split view) at has.size later new_pass second)
  step_keeps (joins_views pass view other its between has its_at same first second) =
      same_words same (emptied_keeps n word between later other (joined_keeps n word views rule pass view has.at has.size between other its its_at first) second)

  abbrev Insertion : Type 0
  Insertion = (event : Insert) × IsAllowed n (texts_now n word) event × (texts_now n next ≡ after (texts_now n word) event)

  unchanged : word ≡ next → (texts_now n next ≡ texts_now n word) ⊎ Insertion
  unchanged same = inl (sym (ap (texts_now n) same))

  pub step_of_machine : Step n word views next later → (texts_now n next ≡ texts_now n word) ⊎ Insertion
  step_of_machine (takes_chunk pass view chunk has fits free changes moves) =
      inl (texts_same n word next (taking_leaves n word views rule pass view has.at has.size next later chunk fits free changes))
  step_of_machine (finds_chunk pass view chunk has fits taken same moves) = unchanged same
  step_of_machine (writes_codes pass view c written has low high changes moves) =
      inl (texts_same n word next (writing_leaves n word views rule pass view has.at has.size next later c written low high changes))
  step_of_machine (reads_bucket pass view place has below same moves) = unchanged same
  step_of_machine (reads_codes pass view c has named same moves) = unchanged same
  step_of_machine (numbers_place pass view c place has named justified same moves) = unchanged same
  step_of_machine (publishes_bucket pass view place bucket text has can free changes moves) =
      inr (
        record { place = place; text = text },
        event_allowed n word next views later rule pass view has.at has.size place bucket text can free changes,
        texts_after n word next views later rule pass view has.at has.size place bucket text can free changes,
      )
  step_of_machine (splits_view pass view new_pass between has same first at second) = unchanged same
  step_of_machine (joins_views pass view other its between has its_at same first second) = unchanged same
