-- Laws of views: what a pass of a sound view has read stands in a table, so it knows knowledge.
use Rattle.std.proofs.Common.{◌≡◌, ℕ, ◌*◌, ◌<◌, ◌≤◌, List, [], ◌∷◌, Some, None, inl, inr, ⊎_elim, if◌then◌else◌, get_or, sym, ap, ◌∙◌, subst, arith}
use Rattle.std.proofs.lemmas.Bool.Decides.{eqb_tells, nat_tests}
use lib.ListN.{get_elem?}
use Rattle.nfg_words.specs.Layout.{chunk_count, stop_of}
use Rattle.nfg_words.specs.Reading.{text_named-more}
use Rattle.nfg_words.specs.Rule.{Rule, AreRecordsTrue, codes_now, bucket_now, texts_now}
use Rattle.nfg_words.specs.Steps.{IsNamed}
use Rattle.nfg_words.specs.View.{entry, Says, IsIn, places_of}
use Rattle.nfg_words.specs.Words.{IsSound}
use Rattle.nfg_words.specs.declared.view.View.{View}

pub same_word : (a b : ℕ) → Some a ≡ Some b → a ≡ b
same_word a b e = cc

pub none_is_not_some : (word : ℕ) → None ≡ Some word → ⊥
none_is_not_some word e = cc

-- what a list says is one of its pairs
pub says_in : (pairs : List (ℕ × ℕ)) (k found : ℕ) → Says pairs k found → IsIn pairs k found
says_in [] k found says = absurd (none_is_not_some found says)
says_in (pair ∷ pairs) k found says = ⊎_elim
    (λ here. inl (here.1, same_word pair.1 found (sym (ap (λ b. if b then Some pair.1 else entry pairs k) here.0) ∙ says)))
    (λ past. inr (says_in pairs k found (sym (ap (λ b. if b then Some pair.1 else entry pairs k) past.0) ∙ says)))
    (eqb_tells pair.0 k)

pub bucket_below : (n : ℕ) (word : ℕ → ℕ) (place : ℕ) → place < n → bucket_now n word place ≡ Some (word place)
bucket_below n word place below = grind (arith, nat_tests)

pub bucket_beyond : (n : ℕ) (word : ℕ → ℕ) (place : ℕ) → n ≤ place → bucket_now n word place ≡ None
bucket_beyond n word place beyond = grind (arith, nat_tests)

-- what a pass has read stands in the table
pub places_true : (n : ℕ) (word : ℕ → ℕ) (view : View) → AreRecordsTrue n word view
    → (place : ℕ) (text : List ℕ) → places_of view place ≡ Some text → texts_now n word place ≡ Some text
places_true n word view records place text read =
    text_named-more (entry view.codes) (codes_now n word) (entry view.buckets place) (bucket_now n word place) text
    (λ c found says. ap Some (records.codes c found (says_in view.codes c found says)).0)
    (λ found says. let is = records.buckets place found (says_in view.buckets place found says) in bucket_below n word place is.0 ∙ ap Some is.2)
    read

pub no_text : (text : List ℕ) → None ≡ Some text → ⊥
no_text text e = cc

-- the state in which a view is sound
module _ (n : ℕ) (view : View) (sound : IsSound n view) where
  abbrev pub its_word : ℕ → ℕ
  its_word index = get_or sound.state.words index 0

  abbrev pub its_rule : Rule n its_word (get_elem? sound.state.views)
  its_rule = sound.kept.1

  abbrev pub its_records : AreRecordsTrue n its_word view
  its_records = its_rule.records_true sound.pass view sound.at

  -- a code word that a recorded bucket word names is one of the table's
  pub named_inside : (c : ℕ) → IsNamed view c → c < 512 * chunk_count n
  named_inside c named =
      let is = its_records.buckets named.0 named.1 (says_in view.buckets named.0 named.1 named.2) in
      let chunk = its_rule.words_valid.in_chunk named.0 (is.0, λ empty. is.1 (sym is.2 ∙ empty)) in
      let low = chunk.below in
      let high = chunk.to in
      let under : c < stop_of (its_word named.0) = subst (λ b. c < stop_of b) (sym is.2) named.4 in
      omega arith
