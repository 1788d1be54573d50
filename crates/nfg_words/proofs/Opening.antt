-- The words of a new table keep the rule, and passes agree wherever the rule holds.
use Rattle.std.proofs.Common.{◌≡◌, ℕ, ◌<◌, List, Some, None, inl, sym, ap, ◌∙◌, subst, arith}
use Rattle.std.proofs.Math.Decide.{dec_lt}
use mathlib.Core.Logic.{dite}
use mathlib.Core.Option as maybe
use Rattle.nfg_syn.specs.Known.{nothing}
use Rattle.nfg_syn.specs.KnownLaws.{same_text}
use Rattle.nfg_words.specs.Layout.{chunk_word, text_named}
use Rattle.nfg_words.specs.Rule.{Views, Rule, IsFilled, LiesInChunk, AreApart, AreRecordsTrue, AreWritesTrue, AreNumbersJustified, codes_now, texts_now}
use Rattle.nfg_words.specs.View.{fresh_view, places_of}
use Rattle.nfg_words.specs.declared.view.View.{View}
use Rattle.nfg_words.specs.SoundLaws.{bucket_below, bucket_beyond, no_text, places_true}

module _ (n : ℕ) (word : ℕ → ℕ) (zeros : (index : ℕ) → word index ≡ 0) where
  text_is_none : (place : ℕ) → texts_now n word place ≡ None
  text_is_none place = dite (dec_lt place n)
      (λ low. ap (text_named (codes_now n word)) (bucket_below n word place low ∙ ap Some (zeros place)))
      (λ high. ap (text_named (codes_now n word)) (bucket_beyond n word place (omega arith)))

  pub nothing_shown : texts_now n word ≡ nothing
  nothing_shown = λ i place. text_is_none place i

  none_filled : (place : ℕ) → IsFilled n word place → ⊥
  none_filled place filled = filled.1 (zeros place)

  pub opening_rule : (views : Views) → ((pass : ℕ) (view : View) → views pass ≡ maybe.some view → view ≡ fresh_view n) → Rule n word views
  opening_rule views fresh = record {
    words_valid = record {
      chunks = λ chunk fits. let is = zeros (chunk_word n chunk) in omega arith;
      lengths = λ place filled. absurd (none_filled place filled);
      storable = λ place text holds. absurd (no_text text (sym (text_is_none place) ∙ holds));
      in_chunk = λ place filled. absurd (none_filled place filled);
      padded = λ place filled odd. absurd (none_filled place filled);
    };
    ranges_apart = record {
      texts = λ place other filled other_filled differ. absurd (none_filled place filled);
      from_unspent = λ place pass view filled at. absurd (none_filled place filled);
      unspent = λ pass other view its differ at its_at.
          subst (λ (v : View). AreApart v.unspent v.end its.unspent its.end) (sym (fresh pass view at)) (λ c low high its_low its_high. absurd (omega arith));
      in_chunk = λ pass view at. subst (λ (v : View). v.unspent < v.end → LiesInChunk n word v.unspent v.end) (sym (fresh pass view at)) (λ some. absurd (omega arith));
    };
    probed_before = λ place text holds. absurd (no_text text (sym (text_is_none place) ∙ holds));
    texts_distinct = λ a b text at_a at_b. absurd (no_text text (sym (text_is_none a) ∙ at_a));
    records_true = λ pass view at. subst (AreRecordsTrue n word) (sym (fresh pass view at)) (record {
      buckets = λ place found says. absurd says;
      codes = λ c found says. absurd says;
      chunks = λ chunk among. absurd among;
      inserted = λ place among. absurd among;
    });
    writes_true = λ pass view at. subst (AreWritesTrue n word) (sym (fresh pass view at)) (λ c written says. absurd says);
    numbers_justified = λ pass view at. subst (AreNumbersJustified n) (sym (fresh pass view at)) (λ place among. absurd among);
    one_size = λ pass view at. inl (ap (λ (v : View). v.size) (fresh pass view at));
  }

module _ (n : ℕ) (word : ℕ → ℕ) (views : Views) (rule : Rule n word views) where
  pub read_stands : (pass : ℕ) (view : View) → views pass ≡ maybe.some view
      → (place : ℕ) (text : List ℕ) → places_of view place ≡ Some text → texts_now n word place ≡ Some text
  read_stands pass view at = places_true n word view (rule.records_true pass view at)

  pub one_text : (pass other : ℕ) (view its : View) → views pass ≡ maybe.some view → views other ≡ maybe.some its
      → (place : ℕ) (text its_text : List ℕ) → places_of view place ≡ Some text → places_of its place ≡ Some its_text → text ≡ its_text
  one_text pass other view its at its_at place text its_text read its_read =
      same_text text its_text (sym (read_stands pass view at place text read) ∙ read_stands other its its_at place its_text its_read)

  pub one_place : (pass other : ℕ) (view its : View) → views pass ≡ maybe.some view → views other ≡ maybe.some its
      → (place its_place : ℕ) (text : List ℕ) → places_of view place ≡ Some text → places_of its its_place ≡ Some text → place ≡ its_place
  one_place pass other view its at its_at place its_place text read its_read =
      rule.texts_distinct place its_place text (read_stands pass view at place text read) (read_stands other its its_at its_place text its_read)
