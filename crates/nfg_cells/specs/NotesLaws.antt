-- Laws of the notes of a pass: what it knows is knowledge, and why a table is full.
use Rattle.std.proofs.Common.{◌≡◌, ◌≢◌, ℕ, zero, suc, ◌<◌, ◌≤◌, List, length, slice_get, Option, Some, None, Bool, true, false, negsuc, subst, refl, sym, ap, ◌∙◌, arith, if◌then◌else◌}
use Rattle.std.proofs.lemmas.Option.{slice_get_within}
use Rattle.nfg_syn.specs.Known.{IsInternable, IsSame, IsWithin, IsKnowledge, IsOneToOne, crlf, MapsBesides}
use mathlib.Core.Logic.{dite}
use native.Mathlib.Decide.{ℕ_discrete}
use Rattle.nfg_syn.specs.KnownLaws.{same_text}
use Rattle.nfg_cells.specs.declared.place.Cluster.{Cluster}
use Rattle.nfg_cells.specs.declared.place.Place.{Place}
use Rattle.nfg_cells.specs.Probe.{IsFound}
use Rattle.nfg_cells.specs.ProbeLaws.{IsFound-one, IsFound-grows}
use Rattle.nfg_cells.specs.Notes.{AreFound, known_of, is_named, places_of, seen_at, text_of}

lawful_text : (known : Option Cluster) (t : List ℕ) → text_of known ≡ Some t → IsInternable t × (t ≢ crlf)
lawful_text (Some cluster) t e = let same = same_text cluster.codes.items t e in rw (sym same) (cluster.is, cluster.other)
lawful_text None t e = cc

lawful_seen : (at : Option Place) (t : List ℕ) → seen_at at ≡ Some t → IsInternable t × (t ≢ crlf)
lawful_seen (Some place) t e = lawful_text place.note.known t e
lawful_seen None t e = cc

-- each text that is seen is a lawful one, and none is CR LF
pub places_lawful : (notes : List Place) (k : ℕ) (t : List ℕ) → places_of notes k ≡ Some t → IsInternable t × (t ≢ crlf)
places_lawful notes k t e = lawful_seen (slice_get notes k) t e

within_places : (notes : List Place) (k : ℕ) (at : Option Place) → slice_get notes k ≡ at → (t : List ℕ) → seen_at at ≡ Some t → k < length notes
within_places notes k (Some place) is t e = slice_get_within notes k place is
within_places notes k None is t e = cc

pub places_within : (notes : List Place) (k : ℕ) (t : List ℕ) → places_of notes k ≡ Some t → k < length notes
places_within notes k t e = within_places notes k (slice_get notes k) refl t e

by_mark : (named : Bool) (text : Option (List ℕ)) (t : List ℕ) → (if named then text else None) ≡ Some t → (named ≡ true) × (text ≡ Some t)
by_mark true text t e = (refl, e)
by_mark false text t e = cc

-- the number of a place that is known has the text that is seen there
pub known_seen : (notes : List Place) (k : ℕ) (t : List ℕ) → known_of notes (suc k) ≡ Some t → (is_named notes k ≡ true) × (places_of notes k ≡ Some t)
known_seen notes k t e = by_mark (is_named notes k) (places_of notes k) t e

-- the text of a number that is known is found at its place
pub known_found : (n : ℕ) (notes : List Place) → AreFound n notes → (k : ℕ) (t : List ℕ) → known_of notes (suc k) ≡ Some t → IsFound n (places_of notes) k t
known_found n notes found k t e =
    let seen = known_seen notes k t e in
    let at = found k seen.0 in
    subst (IsFound n (places_of notes) k) (same_text at.0 t (sym at.1.here ∙ seen.1)) at.1

one_to_one_of : (n : ℕ) (notes : List Place) → AreFound n notes → IsOneToOne (known_of notes)
one_to_one_of n notes found zero zero t e f = refl
one_to_one_of n notes found zero (suc b) t e f = absurd ((places_lawful notes b t (known_found n notes found b t f).here).1 (sym (same_text crlf t e)))
one_to_one_of n notes found (suc a) zero t e f = absurd ((places_lawful notes a t (known_found n notes found a t e).here).1 (sym (same_text crlf t f)))
one_to_one_of n notes found (suc a) (suc b) t e f =
    ap (λ k. suc k) (IsFound-one n (places_of notes) (places_of notes) t a b (λ k u v g h. same_text u v (sym g ∙ h)) (known_found n notes found a t e) (known_found n notes found b t f))

crlf_internable : IsInternable crlf
crlf_internable = record { text = refl; several = omega arith; within_limit = omega arith }

numbers_of : (n : ℕ) (notes : List Place) → length notes ≡ n → (m : ℕ) (t : List ℕ) → known_of notes m ≡ Some t → (m ≤ n) × IsInternable t
numbers_of n notes long zero t e = (omega arith, let same = same_text crlf t e in rw (sym same) crlf_internable)
numbers_of n notes long (suc k) t e = let seen = (known_seen notes k t e).1 in let within = places_within notes k t seen in (omega arith, (places_lawful notes k t seen).0)

-- what the pass knows is knowledge
pub knowledge_of : (n : ℕ) (notes : List Place) → length notes ≡ n → AreFound n notes → IsKnowledge n (known_of notes) (places_of notes)
knowledge_of n notes long found = record {
  line_end = refl;
  one_to_one = one_to_one_of n notes found;
  numbers = numbers_of n notes long;
  rows = λ k t e. let within = places_within notes k t e in (omega arith, (places_lawful notes k t e).0);
  tied = λ k t e. (known_seen notes k t e).1;
}

same_by_mark : (old new : Bool) (before after : Option (List ℕ)) → new ≡ old → (old ≡ true → after ≡ before) → (if new then after else None) ≡ (if old then before else None)
same_by_mark true new before after same kept = rw same (kept refl)
same_by_mark false new before after same kept = rw same refl

-- where more places are seen and no number more is named, the same is known
pub known-same : (n : ℕ) (old new : List Place) → AreFound n old → IsWithin (places_of old) (places_of new) → ((k : ℕ) → is_named new k ≡ is_named old k) → IsSame (known_of old) (known_of new)
known-same n old new found grown same zero = refl
known-same n old new found grown same (suc k) = same_by_mark (is_named old k) (is_named new k) (places_of old k) (places_of new k) (same k)
    (λ named. let at = found k named in grown k at.0 at.1.here ∙ sym at.1.here)

-- the same numbers are found among more places
pub AreFound-grows : (n : ℕ) (old new : List Place) → AreFound n old → IsWithin (places_of old) (places_of new) → ((k : ℕ) → is_named new k ≡ is_named old k) → AreFound n new
AreFound-grows n old new found grown same k named =
    let at = found k (sym (same k) ∙ named) in
    (at.0, IsFound-grows n (places_of old) (places_of new) k at.0 grown at.1)

known_at : (notes : List Place) (k : ℕ) (t : List ℕ) → is_named notes k ≡ true → places_of notes k ≡ Some t → known_of notes (suc k) ≡ Some t
known_at notes k t named seen = by (is_named notes k) named where
  by : (mark : Bool) → mark ≡ true → (if mark then places_of notes k else None) ≡ Some t
  by true is = seen
  by false is = cc

-- what is known after one more number is named
module _ (n : ℕ) (old new : List Place) (k : ℕ) (t : List ℕ) (found : AreFound n old) (grown : IsWithin (places_of old) (places_of new)) (named : is_named new k ≡ true) (others : (j : ℕ) → j ≢ k → is_named new j ≡ is_named old j) where
  pub known-besides : places_of new k ≡ Some t → MapsBesides (known_of old) (negsuc (suc k)) t (known_of new)
  known-besides here = (known_at new k t named here, other) where
    other : (m : ℕ) → m ≢ suc k → known_of new m ≡ known_of old m
    other zero differ = refl
    other (suc j) differ = same_by_mark (is_named old j) (is_named new j) (places_of old j) (places_of new j) (others j (λ same. differ (ap (λ i. suc i) same)))
        (λ mark. let at = found j mark in grown j at.0 at.1.here ∙ sym at.1.here)

  still_named : (j : ℕ) → is_named old j ≡ true → is_named new j ≡ true
  still_named j mark = dite (ℕ_discrete j k) (λ same. ap (is_named new) same ∙ named) (λ differ. others j differ ∙ mark)

  pub known-kept : IsWithin (known_of old) (known_of new)
  known-kept zero u e = e
  known-kept (suc j) u e = let seen = known_seen old j u e in known_at new j u (still_named j seen.0) (grown j u seen.1)

  pub AreFound-named : IsFound n (places_of new) k t → AreFound n new
  AreFound-named here j mark = dite (ℕ_discrete j k)
      (λ same. (t, subst (λ i. IsFound n (places_of new) i t) (sym same) here))
      (λ differ. let at = found j (sym (others j differ) ∙ mark) in (at.0, IsFound-grows n (places_of old) (places_of new) j at.0 grown at.1))
