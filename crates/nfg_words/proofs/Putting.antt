-- What publishing a text asks of the pass that has it ready, and what it leaves.
use Rattle.std.proofs.Common.{◌≡◌, ◌≢◌, ℕ, ◌+◌, ◌-◌, ◌*◌, ◌/◌, ◌%◌, ◌^◌, ◌<◌, ◌≤◌, List, length, get_or, Some, ⊎_elim, sym, ap, ◌∙◌, subst, arith}
use Rattle.std.proofs.lemmas.Nat.{div-mul-add, mod-mul-add}
use Rattle.std.proofs.lemmas.List.{get_or_past}
use Rattle.nfg_words.proofs.Comparing.{spelled, second_of_pair, text_named-at}
use Rattle.nfg_words.proofs.Entries.{says-cons, says-first, append_keeps_left, entry-below, places_more}
use Rattle.nfg_words.specs.Comparing.{ArePassed}
use Rattle.nfg_words.specs.Layout.{bucket_word, start_of, length_of, stop_of, second_code, pair_at, text_named, read_codes}
use Rattle.nfg_words.specs.Passes.{AreReadInFull, Finds}
use Rattle.nfg_words.specs.ProbeTable.{IsStorable, probe_sequence}
use Rattle.nfg_words.specs.Reading.{text_named-within}
use Rattle.nfg_words.specs.Steps.{CanPublish, bucket_published, below}
use Rattle.nfg_words.specs.View.{entry, Says, Grows, places_of}
use Rattle.nfg_words.specs.Writing.{HasWritten}
use Rattle.nfg_words.specs.declared.view.View.{View}

module _ (bucket start : ℕ) (text : List ℕ) (is : bucket ≡ bucket_word start (length text)) (storable : IsStorable text) where
  pub start_again : start_of bucket ≡ start
  start_again = let most = storable.internable.within_limit in ap start_of is ∙ div-mul-add start 65536 (length text) (omega arith)

  pub length_again : length_of bucket ≡ length text
  length_again = let most = storable.internable.within_limit in ap length_of is ∙ mod-mul-add start 65536 (length text) (omega arith)

  pub stop_again : stop_of bucket ≡ start + (length text + 1) / 2
  stop_again = λ i. start_again i + (length_again i + 1) / 2

  some_bucket : bucket ≢ 0
  some_bucket empty =
      let long = length_again in let least = storable.internable.several in
      let nothing : length_of 0 ≡ length text = ap length_of (sym empty) ∙ long in omega arith

  module _ (view : View) (fits : (i : ℕ) → get_or text i 0 < 2 ^ 32) (written : HasWritten view start ((length text + 1) / 2) text) where
    pub bucket_spelled : text_named (entry view.written) (Some bucket) ≡ Some text
    bucket_spelled = text_named-at (entry view.written) bucket some_bucket ∙ ((λ i. read_codes (entry view.written) (start_again i) (length_again i))
        ∙ spelled (entry view.written) start text fits written)

    last_half : length_of bucket % 2 ≡ 1 → (last : ℕ) × Says view.written (stop_of bucket - 1) last × (second_code last ≡ 0)
    last_half odd =
        let count : ℕ = (length text + 1) / 2 - 1 in
        let long = length_again in
        let odd_text : length text % 2 ≡ 1 = ap (λ m. m % 2) (sym long) ∙ odd in
        let stop = stop_again in
        let least = storable.internable.several in (
          pair_at text count,
          written (stop_of bucket - 1) count (omega arith) (omega arith),
          second_of_pair (get_or text (2 * count) 0) (get_or text (2 * count + 1) 0) (fits (2 * count)) ∙ get_or_past text (2 * count + 1) 0 (omega arith),
        )

    pub can_publish : (n place index : ℕ) → view.unspent ≡ start → start + (length text + 1) / 2 ≤ view.end → index < n → probe_sequence n text index ≡ place
        → ArePassed n (places_of view) text index → CanPublish n view place bucket text
    can_publish n place index begins room low reaches passed = record {
      storable = storable;
      lengths = let long = length_again in let least = storable.internable.several in let most = storable.internable.within_limit in (omega arith, omega arith);
      begins = start_again ∙ sym begins;
      ends = let stop = stop_again in omega arith;
      spelled = bucket_spelled;
      padded = last_half;
      index = index;
      on_sequence = low;
      reaches = reaches;
      passed = passed;
    }

    -- where it was published, it is read
    pub published_here : (place : ℕ) → places_of (bucket_published view place bucket) place ≡ Some text
    published_here place =
        let seen : View = bucket_published view place bucket in
        ap (text_named (entry seen.codes)) (says-first place bucket view.buckets)
        ∙ text_named-within (entry view.written) (entry seen.codes) bucket text
        (λ c found low high says. append_keeps_left (below (stop_of bucket) view.written) view.codes c found (⊎_elim
        (λ inside. inside.1 ∙ says)
        (λ outside. let beyond = outside.0 in absurd (omega arith))
        (entry-below (stop_of bucket) view.written c)))
        bucket_spelled

    pub finds_published : (new : View) (place : ℕ) → new ≡ bucket_published view place bucket → Grows view new → Finds place text view new
    finds_published new place same grows = record {
      grows = grows;
      here = ap (λ (v : View). places_of v place) same ∙ published_here place;
      numbered = ap (λ (v : View). v.numbered) same;
      origin = record { root = ap (λ (v : View). v.root) same; forks = ap (λ (v : View). v.forks) same; meets = ap (λ (v : View). v.meets) same };
    }

    pub full_published : (new : View) (place : ℕ) → new ≡ bucket_published view place bucket → Grows view new → AreReadInFull view → AreReadInFull new
    full_published new place same grows full other found says = ⊎_elim
        (λ here. (text, ap (places_of new) (sym here.0) ∙ (finds_published new place same grows).here))
        (λ old. let was = full other found old in (was.0, places_more 0 view new grows.codes grows.buckets other was.0 was.1))
        (says-cons place bucket view.buckets other found (subst (λ (v : View). Says v.buckets other found) same says))
