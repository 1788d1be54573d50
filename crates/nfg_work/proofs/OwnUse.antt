-- Over a table of one caller the clusters that have numbers are those in use.
use Rattle.std.proofs.Common.{◌≡◌, ◌≢◌, ℕ, zero, suc, ◌+◌, ◌<◌, ◌≤◌, Bool, true, false, ◌||◌, ◌⊎◌, inl, inr, nat_lt, List, [], ◌∷◌, ◌++◌, length, slice_get, filter, bytes_eq, Some, IsSome, sym, refl, ap, ◌∙◌, length-append, append_assoc, arith}
use Rattle.std.proofs.lemmas.Bool.{lt-ltb, cases_lt, false_from_ne_true, and_from}
use Rattle.std.proofs.lemmas.List.Elements.{filter-append}
use Rattle.std.proofs.lemmas.List.Folds.{list_any-append}
use Rattle.std.specs.Set.{is_member, distinct_count}
use Rattle.nfg_syn.specs.Known.{IsUnknown, crlf}
use Rattle.nfg_syn.specs.KnownLaws.{same_text}
use Rattle.nfg_syn.specs.OwnTexts.{AreTextsOf, known_of}
use Rattle.nfg_syn.specs.Learned.{HasLearned, several}
use Rattle.nfg_work.specs.Evaluation.{takes_place}
use Rattle.nfg_work.specs.Holding.{AreNumbered, Grows}
use Rattle.nfg_work.proofs.InUse.{takes_place-other, learned_back, kept_place}
use Rattle.nfg_work.proofs.Members.{both_ways, is_member-at, is_member-place, is_member-front, is_member-back, is_member-kept, IsDistinct-from_places, IsDistinct-more, length-le_distinct}

-- the texts of the table are those that are in use
pub record AreInUse (texts used : List (List ℕ)) : Type 0 where
  pub members : (t : List ℕ) → is_member bytes_eq texts t ≡ is_member bytes_eq used t

-- they are so behind a command
pub AreInUse-next : (old new used next : List (List ℕ)) → AreInUse old used → Grows (known_of old) (known_of new) used next → AreNumbered (known_of new) next
    → AreInUse new next
AreInUse-next old new used next in_use grows numbered = record {
  members = λ t. both_ways _ _
      (λ holds. let at = is_member-place new t holds in by t at.0 (grows.known at.0 t at.1))
      (λ holds. let number = numbered t holds in is_member-at new t number.0 number.1);
}
  where
    by : (t : List ℕ) (k : ℕ) → (slice_get old k ≡ Some t) ⊎ (is_member bytes_eq next t ≡ true) → is_member bytes_eq next t ≡ true
    by t k (inl before) = grows.used t (sym (in_use.members t) ∙ is_member-at old t k before)
    by t k (inr among) = among

takes_place-in : (size : ℕ) (texts : List (List ℕ)) → AreTextsOf size texts → (k : ℕ) (t : List ℕ) → slice_get texts k ≡ Some t → takes_place t ≡ true
takes_place-in size texts are k t e = let each = are.each k t e in takes_place-other t each.0.several each.1

-- a text of the new table is in use, where the table has learned these clusters
used_back : (size : ℕ) (old new used clusters : List (List ℕ)) → AreTextsOf size new → AreInUse old used
    → HasLearned (known_of old) (several clusters) (known_of new) → (t : List ℕ) → is_member bytes_eq new t ≡ true
    → is_member bytes_eq (used ++ filter takes_place clusters) t ≡ true
used_back size old new used clusters are in_use learned t holds =
    let place = is_member-place new t holds in
    by (learned_back (several clusters) (known_of old) (known_of new) learned (suc place.0) t place.1) (takes_place-in size new are place.0 t place.1)
  where
    by : (slice_get old (is_member-place new t holds).0 ≡ Some t) ⊎ (is_member bytes_eq (several clusters) t ≡ true) → takes_place t ≡ true
        → is_member bytes_eq (used ++ filter takes_place clusters) t ≡ true
    by (inl before) place = is_member-front used (filter takes_place clusters) t (sym (in_use.members t) ∙ is_member-at old t (is_member-place new t holds).0 before)
    by (inr among) place = is_member-back used (filter takes_place clusters) t (kept_place clusters t among place)

none_some : (xs : List (List ℕ)) → IsSome (slice_get xs (length xs)) → ⊥
none_some [] here = cc
none_some (x ∷ xs) here = none_some xs here

-- where each place is taken there are as many texts as places
full_length : (size : ℕ) (texts : List (List ℕ)) → ((k : ℕ) → k < size → IsSome (slice_get texts k)) → size ≤ length texts
full_length size texts taken = elim (cases_lt (length texts) size) [
  | inl less ↦ absurd (let here : IsSome (slice_get texts (length texts)) = taken (length texts) less in none_some texts here)
  | inr le ↦ le
]

in_front : (used front back : List (List ℕ)) (q : List ℕ) → is_member bytes_eq (used ++ filter takes_place front) q ≡ true
    → is_member bytes_eq (used ++ filter takes_place (front ++ back)) q ≡ true
in_front used front back q holds =
    let parts : used ++ filter takes_place (front ++ back) ≡ (used ++ filter takes_place front) ++ filter takes_place back =
    ap (λ v. used ++ v) (filter-append takes_place front back) ∙ sym (append_assoc used (filter takes_place front) (filter takes_place back)) in
    ap (λ v. is_member bytes_eq v q) parts ∙ is_member-front (used ++ filter takes_place front) (filter takes_place back) q holds

-- a cluster that is not a text of the full table is one too many
pub used_over : (size : ℕ) (old new used front rest : List (List ℕ)) (cluster : List ℕ) → AreTextsOf size new → AreInUse old used
    → HasLearned (known_of old) (several front) (known_of new) → IsUnknown (known_of new) cluster → 1 < length cluster
    → ((k : ℕ) → k < size → IsSome (slice_get new k))
    → nat_lt size (distinct_count bytes_eq (used ++ filter takes_place (front ++ cluster ∷ rest))) ≡ true
used_over size old new used front rest cluster are in_use learned unknown needs taken =
    let other : cluster ≢ crlf = λ same. unknown 0 (ap Some (sym same)) in
    let place = takes_place-other cluster needs other in
    let absent : is_member bytes_eq new cluster ≡ false = false_from_ne_true _ (λ holds. let at = is_member-place new cluster holds in unknown (suc at.0) at.1) in
    let distinct = IsDistinct-more new cluster (IsDistinct-from_places new are.different) absent in
    let many = length-le_distinct (new ++ cluster ∷ []) (used ++ filter takes_place (front ++ cluster ∷ rest)) distinct
    (λ q holds. among q place (sym (list_any-append (bytes_eq q) new (cluster ∷ [])) ∙ holds)) in
    let long = full_length size new taken in
    let more : length (new ++ cluster ∷ []) ≡ length new + 1 = length-append new (cluster ∷ []) in
    lt-ltb size _ (omega (arith, many, long, more))
  where
    here : (q : List ℕ) → takes_place cluster ≡ true → is_member bytes_eq (cluster ∷ []) q ≡ true → is_member bytes_eq (filter takes_place (front ++ cluster ∷ rest)) q ≡ true
    here q place holds = is_member-kept takes_place (front ++ cluster ∷ rest) q ∙ and_from _ _
        (is_member-back front (cluster ∷ rest) q (is_member-front (cluster ∷ []) rest q holds))
        (is_place q (is_member-place (cluster ∷ []) q holds) place)
      where
        is_place : (q : List ℕ) → (k : ℕ) × (slice_get (cluster ∷ []) k ≡ Some q) → takes_place cluster ≡ true → takes_place q ≡ true
        is_place q (zero, e) place = ap takes_place (sym (same_text cluster q e)) ∙ place
        is_place q (suc k, e) place = cc

    among : (q : List ℕ) → takes_place cluster ≡ true → (is_member bytes_eq new q || is_member bytes_eq (cluster ∷ []) q) ≡ true
        → is_member bytes_eq (used ++ filter takes_place (front ++ cluster ∷ rest)) q ≡ true
    among q place holds = by (is_member bytes_eq new q) refl holds
      where
        by : (b : Bool) → is_member bytes_eq new q ≡ b → (b || is_member bytes_eq (cluster ∷ []) q) ≡ true
            → is_member bytes_eq (used ++ filter takes_place (front ++ cluster ∷ rest)) q ≡ true
        by true e more = in_front used front (cluster ∷ rest) q (used_back size old new used front are in_use learned q e)
        by false e more = is_member-back used (filter takes_place (front ++ cluster ∷ rest)) q (here q place more)
