-- What two passes know of one row, place after place.
use Rattle.std.proofs.Common.{◌≡◌, ◌<◌, ◌≤◌, ◌+◌, ◌||◌, ℕ, zero, suc, List, [], ◌∷◌, length, slice_get, slice_set, get_or, Option, Some, None, is_some, IfSome, refl, sym, ap, ap₂, ◌∙◌, arith}
use Rattle.std.proofs.lemmas.Grind.{common_steps}
use Rattle.std.proofs.lemmas.Option.{slice_get_past}
use Rattle.std.specs.declared.alloc.Global.{Global}
use Rattle.once_cell.specs.Once.{Agrees}
use mathlib.Core.Logic.{dite}
use native.Mathlib.Decide.{ℕ_discrete, dec_lt}
use lib.Seq.{set-get_or}
use Rattle.nfg_syn.specs.Known.{IsUnion, or_else}
use Rattle.nfg_syn.specs.KnownLaws.{same_text}
use Rattle.nfg_cells.specs.declared.place.Cluster.{Cluster}
use Rattle.nfg_cells.specs.declared.place.Place.{Place}
use Rattle.nfg_cells.specs.Notes.{AreMarked, AreNotesOf, is_named, is_seen, named_flag, places_of, seen_at, seen_flag, text_of}
use Rattle.nfg_cells.specs.NotesLaws.{places_within}
use Rattle.nfg_cells.specs.ProbeLaws.{AreAgreedBelow}
use Rattle.nfg_cells.proofs.OfferLemmas.{get_here, get_else}

some_at : {A : Type 0} (xs : List A) (k : ℕ) → k < length xs → (x : A) × (slice_get xs k ≡ Some x)
some_at [] k inside = absurd (omega arith)
some_at (x ∷ xs) zero inside = (x, refl)
some_at (x ∷ xs) (suc k) inside = some_at xs k (grind (arith, common_steps))

length-set : (notes : List Place) (k : ℕ) (place : Place) → length (slice_set notes k place) ≡ length notes
length-set [] k place = refl
length-set (x ∷ xs) zero place = grind (arith, common_steps)
length-set (x ∷ xs) (suc k) place = let shorter = length-set xs k place in grind (arith, common_steps, shorter)

same_place : (p q : Place) → Some p ≡ Some q → p ≡ q
same_place p q e = cc

-- notes of one row are of one cell at each place
pub alike : (cells : List (Global × ℕ)) (into from : List Place) (k : ℕ) (p q : Place) → AreNotesOf cells into → AreNotesOf cells from → k < length cells → slice_get into k ≡ Some p → slice_get from k ≡ Some q → p.note.cell ≡ q.note.cell
alike cells into from k p q one other inside at there = let cell = some_at cells k inside in one.each k p cell.0 at cell.1 ∙ sym (other.each k q cell.0 there cell.1)

-- a place is marked as seen where its text is known
pub marked_at : (notes : List Place) (k : ℕ) (p : Place) → AreMarked notes → slice_get notes k ≡ Some p → p.seen ≡ is_some (text_of p.note.known)
marked_at notes k p marked at = sym (ap seen_flag at) ∙ (marked k ∙ ap (λ o. is_some (seen_at o)) at)

agreed_texts : (x y : Option Cluster) (t u : List ℕ) → IfSome y (Agrees x) → text_of x ≡ Some t → text_of y ≡ Some u → t ≡ u
agreed_texts (Some c) (Some d) t u agree e f = same_text t u (sym e ∙ (ap (λ (z : Cluster). Some z.codes.items) agree ∙ f))
agreed_texts (Some c) None t u agree e f = cc
agreed_texts None y t u agree e f = cc

-- `into` has become `now`, which has joined what `from` knows of the places before k
pub record AreJoined (cells : List (Global × ℕ)) (into from now : List Place) (k : ℕ) : Type 0 where
  pub notes : AreNotesOf cells now
  pub marked : AreMarked now
  pub joined : (j : ℕ) → j < k → places_of now j ≡ or_else (places_of into j) (places_of from j)
  pub left : (j : ℕ) → k ≤ j → places_of now j ≡ places_of into j
  pub agreed : AreAgreedBelow k (places_of into) (places_of from)
  pub named : (j : ℕ) → j < k → is_named now j ≡ (is_named into j || is_named from j)
  pub unnamed : (j : ℕ) → k ≤ j → is_named now j ≡ is_named into j

module _ (cells : List (Global × ℕ)) (into from now : List Place) (k : ℕ) (p q new : Place) (inside : k < length now) (at : slice_get now k ≡ Some p) (there : slice_get from k ≡ Some q)
    (so_far : AreJoined cells into from now k) (cell : new.note.cell ≡ p.note.cell) (marked : new.seen ≡ is_some (text_of new.note.known)) (agree : IfSome q.note.known (Agrees p.note.known))
    (text : text_of new.note.known ≡ or_else (text_of p.note.known) (text_of q.note.known)) (named : new.named ≡ (p.named || q.named)) where
  abbrev after : List Place
  after = slice_set now k new

  was : text_of p.note.known ≡ places_of into k
  was = sym (ap seen_at at) ∙ so_far.left k (omega arith)

  was_named : p.named ≡ is_named into k
  was_named = sym (ap named_flag at) ∙ so_far.unnamed k (omega arith)

  each_note : (j : ℕ) (place : Place) (c : Global × ℕ) → slice_get after j ≡ Some place → slice_get cells j ≡ Some c → place.note.cell ≡ c.1
  each_note j place c e f = dite (ℕ_discrete j k)
      (λ same.
      let is : place ≡ new = same_place place new (sym e ∙ (ap (slice_get after) same ∙ get_here now k new inside)) in
      ap (λ (x : Place). x.note.cell) is ∙ (cell ∙ so_far.notes.each k p c at (ap (slice_get cells) (sym same) ∙ f)))
      (λ differ. so_far.notes.each j place c (sym (get_else now k new j differ) ∙ e) f)

  pub AreJoined-more : AreJoined cells into from after (k + 1)
  AreJoined-more = record {
    notes = record { as_many = length-set now k new ∙ so_far.notes.as_many; each = each_note };
    marked = λ j. dite (ℕ_discrete j k)
        (λ same. ap (is_seen after) same ∙ (ap seen_flag (get_here now k new inside) ∙ (marked ∙ (sym (ap (λ o. is_some (seen_at o)) (get_here now k new inside)) ∙ ap (λ i. is_some (places_of after i)) (sym same)))))
        (λ differ. ap seen_flag (get_else now k new j differ) ∙ (so_far.marked j ∙ sym (ap (λ o. is_some (seen_at o)) (get_else now k new j differ))));
    joined = λ j low. dite (ℕ_discrete j k)
        (λ same. ap (places_of after) same ∙ (ap seen_at (get_here now k new inside) ∙ (text ∙ (ap₂ or_else was (sym (ap seen_at there)) ∙ ap (λ i. or_else (places_of into i) (places_of from i)) (sym same)))))
        (λ differ. ap seen_at (get_else now k new j differ) ∙ so_far.joined j (omega arith));
    left = λ j high. ap seen_at (get_else now k new j (omega arith)) ∙ so_far.left j (omega arith);
    agreed = λ j t u low e f. dite (ℕ_discrete j k)
        (λ same. agreed_texts p.note.known q.note.known t u agree (was ∙ (ap (places_of into) (sym same) ∙ e)) (sym (ap seen_at there) ∙ (ap (places_of from) (sym same) ∙ f)))
        (λ differ. so_far.agreed j t u (omega arith) e f);
    named = λ j low. dite (ℕ_discrete j k)
        (λ same. ap (is_named after) same ∙ (ap named_flag (get_here now k new inside) ∙ (named ∙ (ap₂ (λ a b. a || b) was_named (sym (ap named_flag there)) ∙ ap (λ i. is_named into i || is_named from i) (sym same)))))
        (λ differ. ap named_flag (get_else now k new j differ) ∙ so_far.named j (omega arith));
    unnamed = λ j high. ap named_flag (get_else now k new j (omega arith)) ∙ so_far.unnamed j (omega arith);
  }

-- once all places are joined, what is seen is the union
pub IsUnion-joined : (cells : List (Global × ℕ)) (into from now : List Place) (k : ℕ) → AreJoined cells into from now k → length into ≤ k → length from ≤ k → IsUnion (places_of into) (places_of from) (places_of now)
IsUnion-joined cells into from now k all one other = record {
  entries = λ j. dite (dec_lt j k)
      (λ low. all.joined j low)
      (λ high. all.left j (omega arith) ∙ by (places_of into j) (places_of from j) (nothing_past into j (omega arith)) (nothing_past from j (omega arith)));
  agree = λ j t u e f. let within = places_within into j t e in all.agreed j t u (omega arith) e f;
} where
  nothing_past : (notes : List Place) (j : ℕ) → length notes ≤ j → places_of notes j ≡ None
  nothing_past notes j past = ap seen_at (slice_get_past notes j past)

  by : (x y : Option (List ℕ)) → x ≡ None → y ≡ None → x ≡ or_else x y
  by x y e f = rw (e, f) refl

pub put_back : (notes : List Place) (k : ℕ) (place new : Place) → new ≡ get_or notes k place → slice_set notes k new ≡ notes
put_back notes k place new is = ap (slice_set notes k) is ∙ set-get_or notes k place
