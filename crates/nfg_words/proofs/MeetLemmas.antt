-- What a pass knows that was joined of two.
use Rattle.std.proofs.Common.{◌≡◌, ℕ, zero, suc, ◌<◌, ◌≤◌, ◌==◌, ◌⊎◌, Bool, true, false, ◌||◌, List, [], ◌∷◌, ◌++◌, Some, None, Option, if◌then◌else◌, inl, inr, ⊎_elim, refl, sym, ap, ◌∙◌, subst}
use Rattle.atomic_table.specs.Seated.{TableId}
use Rattle.atomic_table.specs.declared.shared.Seat.{Seat}
use Rattle.nfg_syn.specs.Known.{IsUnion, or_else}
use Rattle.nfg_syn.specs.KnownLaws.{same_text}
use Rattle.nfg_syn.specs.Seen.{Keeps, Meets}
use Rattle.nfg_words.proofs.Entries.{append_keeps_left, append_keeps_right, entry-append, places_more, says-append}
use Rattle.nfg_words.proofs.KnownLemmas.{full_kept, justified_text, kept, spent_kept}
use Rattle.nfg_words.specs.Layout.{chunk_count, text_named}
use Rattle.nfg_words.specs.Passes.{AreReadInFull, IsPassOf, view_of}
use Rattle.nfg_words.specs.SoundLaws.{its_records, says_in}
use Rattle.nfg_words.specs.Steps.{joined}
use Rattle.nfg_words.specs.Table.{is_among, known_of, seen_of}
use Rattle.nfg_words.specs.TableLaws.{known_read}
use Rattle.nfg_words.specs.View.{entry, Says, IsIn, IsAmong, Grows, places_of}
use Rattle.nfg_words.specs.Words.{IsSeatOf, IsSound}
use Rattle.nfg_words.specs.declared.pass.WordPass.{WordPass}
use Rattle.nfg_words.specs.declared.view.View.{View}

in_left : (pairs others : List (ℕ × ℕ)) (k found : ℕ) → IsIn pairs k found → IsIn (pairs ++ others) k found
in_left [] others k found is = absurd is
in_left (pair ∷ pairs) others k found is = ⊎_elim (λ here. inl here) (λ later. inr (in_left pairs others k found later)) is

in_right : (pairs others : List (ℕ × ℕ)) (k found : ℕ) → IsIn others k found → IsIn (pairs ++ others) k found
in_right [] others k found is = is
in_right (pair ∷ pairs) others k found is = inr (in_right pairs others k found is)

among_left : (numbers others : List ℕ) (k : ℕ) → IsAmong numbers k → IsAmong (numbers ++ others) k
among_left [] others k is = absurd is
among_left (first ∷ rest) others k is = ⊎_elim (λ here. inl here) (λ later. inr (among_left rest others k later)) is

among_right : (numbers others : List ℕ) (k : ℕ) → IsAmong others k → IsAmong (numbers ++ others) k
among_right [] others k is = is
among_right (first ∷ rest) others k is = inr (among_right rest others k is)

or_again : (a b c : Bool) → (a || (b || c)) ≡ ((a || b) || c)
or_again true b c = refl
or_again false b c = refl

among_both : (numbers others : List ℕ) (k : ℕ) → is_among (numbers ++ others) k ≡ (is_among numbers k || is_among others k)
among_both [] others k = refl
among_both (first ∷ rest) others k = ap (λ b. (first == k) || b) (among_both rest others k) ∙ or_again (first == k) (is_among rest k) (is_among others k)

-- two views, of which one was joined that is sound
module _ (n : ℕ) (one other : View) (sound : IsSound n (joined one other)) where
  abbrev both : View
  both = joined one other

  buckets_agree : (k a b : ℕ) → Says one.buckets k a → Says other.buckets k b → a ≡ b
  buckets_agree k a b says also =
      let records = its_records n both sound in
      sym (records.buckets k a (in_left one.buckets other.buckets k a (says_in one.buckets k a says))).2 ∙ (records.buckets k b (in_right one.buckets other.buckets k b (says_in other.buckets k b also))).2

  codes_agree : (k a b : ℕ) → Says one.codes k a → Says other.codes k b → a ≡ b
  codes_agree k a b says also =
      let records = its_records n both sound in
      sym (records.codes k a (in_left one.codes other.codes k a (says_in one.codes k a says))).0 ∙ (records.codes k b (in_right one.codes other.codes k b (says_in other.codes k b also))).0

  pub grows_left : Grows one both
  grows_left = record {
    buckets = append_keeps_left one.buckets other.buckets;
    codes = append_keeps_left one.codes other.codes;
    chunks = among_left one.chunks other.chunks;
  }

  pub grows_right : Grows other both
  grows_right = record {
    buckets = append_keeps_right one.buckets other.buckets buckets_agree;
    codes = append_keeps_right one.codes other.codes codes_agree;
    chunks = among_right one.chunks other.chunks;
  }

  left_text : (k : ℕ) (t : List ℕ) → places_of one k ≡ Some t → places_of both k ≡ Some t
  left_text k t e = places_more n one both grows_left.codes grows_left.buckets k t e

  right_text : (k : ℕ) (t : List ℕ) → places_of other k ≡ Some t → places_of both k ≡ Some t
  right_text k t e = places_more n other both grows_right.codes grows_right.buckets k t e

  module _ (one_full : AreReadInFull one) (other_full : AreReadInFull other) where
    by_entries : (k : ℕ) (a b : Option ℕ) → entry one.buckets k ≡ a → entry other.buckets k ≡ b → places_of both k ≡ or_else (places_of one k) (places_of other k)
    by_entries k (Some word) b is its = let read = one_full k word is in left_text k read.0 read.1 ∙ sym (ap (λ (at : Option (List ℕ)). or_else at (places_of other k)) read.1)
    by_entries k None (Some word) is its =
        let read = other_full k word its in
        let none : places_of one k ≡ None = ap (text_named (entry one.codes)) is in
        right_text k read.0 read.1 ∙ sym (ap (λ (at : Option (List ℕ)). or_else at (places_of other k)) none ∙ read.1)
    by_entries k None None is its =
        let none : places_of one k ≡ None = ap (text_named (entry one.codes)) is in
        let also : places_of other k ≡ None = ap (text_named (entry other.codes)) its in
        let neither : entry both.buckets k ≡ None = ⊎_elim
        (λ left. absurd (some_none left.0 (sym left.1 ∙ is)))
        (λ right. right.1 ∙ its)
        (entry-append one.buckets other.buckets k) in
        ap (text_named (entry both.codes)) neither ∙ sym (ap (λ (at : Option (List ℕ)). or_else at (places_of other k)) none ∙ also)
      where
        some_none : (word : ℕ) → Some word ≡ None → ⊥
        some_none word e = cc

    pub places_union : IsUnion (places_of one) (places_of other) (places_of both)
    places_union = record {
      entries = λ k. by_entries k (entry one.buckets k) (entry other.buckets k) refl refl;
      agree = λ k t u e f. same_text t u (sym (left_text k t e) ∙ right_text k u f);
    }

    pub full_joined : AreReadInFull both
    full_joined place found says = ⊎_elim
        (λ left. let read = one_full place found left in (read.0, left_text place read.0 read.1))
        (λ right. let read = other_full place found right in (read.0, right_text place read.0 read.1))
        (says-append one.buckets other.buckets place found says)

    module _ (one_sound : IsSound n one) (other_sound : IsSound n other) where
      by_marks : (k : ℕ) (a b c : Bool) → is_among one.numbered k ≡ a → is_among other.numbered k ≡ b → c ≡ (a || b)
          → (if c then places_of both k else None) ≡ or_else (if a then places_of one k else None) (if b then places_of other k else None)
      by_marks k true b c left right is = let at = justified_text n one one_sound k left in
          rw is (left_text k at.0 at.1 ∙ sym (ap (λ (x : Option (List ℕ)). or_else x (if b then places_of other k else None)) at.1))
      by_marks k false true c left right is = let at = justified_text n other other_sound k right in rw is (right_text k at.0 at.1 ∙ sym at.1)
      by_marks k false false c left right is = rw is refl

      known_entries : (k : ℕ) → known_of both k ≡ or_else (known_of one k) (known_of other k)
      known_entries zero = refl
      known_entries (suc k) = by_marks k (is_among one.numbered k) (is_among other.numbered k) (is_among both.numbered k) refl refl (among_both one.numbered other.numbered k)

      known_agree : (k : ℕ) (t u : List ℕ) → known_of one k ≡ Some t → known_of other k ≡ Some u → t ≡ u
      known_agree zero t u e f = same_text t u (sym e ∙ f)
      known_agree (suc k) t u e f = places_union.agree k t u (known_read one k t e).1 (known_read other k u f).1

      pub known_union : IsUnion (known_of one) (known_of other) (known_of both)
      known_union = record { entries = known_entries; agree = known_agree }

-- a pass that has become what two were
module _ (id : TableId) (n : ℕ) (into from new : WordPass) (is_into : IsPassOf id n into) (is_from : IsPassOf id n from) (is_new : IsPassOf id n new) (is : view_of new ≡ joined (view_of into) (view_of from)) where
  sound : IsSound n (joined (view_of into) (view_of from))
  sound = subst (IsSound n) is is_new.held.seat.sound

  grown_into : Grows (view_of into) (view_of new)
  grown_into = subst (Grows (view_of into)) (sym is) (grows_left n (view_of into) (view_of from) sound)

  grown_from : Grows (view_of from) (view_of new)
  grown_from = subst (Grows (view_of from)) (sym is) (grows_right n (view_of into) (view_of from) sound)

  places : IsUnion (places_of (view_of into)) (places_of (view_of from)) (places_of (view_of new))
  places = subst (λ (v : View). IsUnion (places_of (view_of into)) (places_of (view_of from)) (places_of v)) (sym is) (places_union n (view_of into) (view_of from) sound is_into.in_full is_from.in_full)

  known : IsUnion (known_of (view_of into)) (known_of (view_of from)) (known_of (view_of new))
  known = subst (λ (v : View). IsUnion (known_of (view_of into)) (known_of (view_of from)) (known_of v)) (sym is)
      (known_union n (view_of into) (view_of from) sound is_into.in_full is_from.in_full is_into.held.seat.sound is_from.held.seat.sound)

  pub keeps_met : Keeps (seen_of into) (seen_of new)
  keeps_met = kept id n into new is_into is_new grown_into (λ k t e. known.entries k ∙ ap (λ (at : Option (List ℕ)). or_else at (known_of (view_of from) k)) e) (ap (λ (v : View). v.root) is)

  pub meets_met : Meets (seen_of into) (seen_of from) (seen_of new)
  meets_met = record {
    known = known;
    places = places;
    meets = ap (λ (v : View). v.meets) is;
    full = full_kept id n from new is_from is_new grown_from;
    drained = spent_kept id n from new is_from is_new grown_from;
  }

-- a pass to which another was joined is of their table
pub pass_joined : (id : TableId) (n : ℕ) (into from : WordPass) (holder : Seat ℕ View) (tried : ℕ) → IsPassOf id n into → IsPassOf id n from → IsSeatOf id n holder
    → holder.me.0 ≡ joined (view_of into) (view_of from) → (tried ≡ into.tried) ⊎ (tried ≡ from.tried)
    → IsPassOf id n (record into { holder = holder; tried = tried })
pass_joined id n into from holder tried is_into is_from seat is which = record {
  held = record {
    seat = seat;
    unspent = ap (λ (v : View). v.unspent) is ∙ is_into.held.unspent;
    end = ap (λ (v : View). v.end) is ∙ is_into.held.end;
    ordered = is_into.held.ordered;
    inside = is_into.held.inside;
    tried = λ chunk low. subst (λ (v : View). IsAmong v.chunks chunk) (sym is) (⊎_elim
        (λ left. among_left (view_of into).chunks (view_of from).chunks chunk (is_into.held.tried chunk (subst (λ (m : ℕ). chunk < m) left low)))
        (λ right. among_right (view_of into).chunks (view_of from).chunks chunk (is_from.held.tried chunk (subst (λ (m : ℕ). chunk < m) right low)))
        which);
    tried_within = ⊎_elim
        (λ left. subst (λ (m : ℕ). m ≤ chunk_count n) (sym left) is_into.held.tried_within)
        (λ right. subst (λ (m : ℕ). m ≤ chunk_count n) (sym right) is_from.held.tried_within)
        which;
  };
  in_full = subst AreReadInFull (sym is) (full_joined n (view_of into) (view_of from) (subst (IsSound n) is seat.sound) is_into.in_full is_from.in_full);
}
