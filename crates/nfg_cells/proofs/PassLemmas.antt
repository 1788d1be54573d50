-- What a call keeps of a pass: knowledge that grows, and a full table that stays full.
use Rattle.std.proofs.Common.{◌≡◌, ℕ, zero, suc, ◌+◌, ◌<◌, List, length, Option, Some, None, IsSome, is_some, Bool, true, false, ◌||◌, if◌then◌else◌, ◌⊎◌, inl, inr, refl, sym, ap, ap₂, ◌∙◌, arith, subst}
use Rattle.std.specs.declared.alloc.Global.{Global}
use Rattle.nfg_syn.specs.Known.{Texts, IsSame, IsUnion, IsWithin, or_else}
use Rattle.nfg_syn.specs.KnownLaws.{same_text, IsWithin-same}
use Rattle.nfg_syn.specs.Refusal.{IsTableFull}
use Rattle.nfg_syn.specs.Seen.{Keeps, Meets}
use Rattle.nfg_cells.specs.declared.place.Place.{Place}
use Rattle.nfg_cells.specs.Cells.{CellNotes, IsCellPass, seen_of}
use Rattle.nfg_cells.specs.Notes.{AreFound, AreMarked, AreNotesOf, HaveSameMarks, is_named, known_of, places_of}
use Rattle.nfg_cells.specs.NotesLaws.{AreFound-grows, known_seen, places_within}
use Rattle.nfg_cells.specs.ProbeLaws.{IsFound-grows}

some_at : (at : Option (List ℕ)) → IsSome at → (t : List ℕ) × (at ≡ Some t)
some_at (Some t) is = (t, refl)
some_at None is = cc

is_some_at : (at : Option (List ℕ)) (t : List ℕ) → at ≡ Some t → IsSome at
is_some_at at t e = subst (λ o. IsSome o) (sym e) refl

-- a full table stays full for a text where more of its places are seen
pub IsTableFull-grows : (n : ℕ) (old new : Texts) (t : List ℕ) → IsWithin old new → ((k : ℕ) (u : List ℕ) → new k ≡ Some u → k < n) → IsTableFull n old t → IsTableFull n new t
IsTableFull-grows n old new t within rows full = record {
  taken = λ k inside. let at = some_at (old k) (full.taken k inside) in is_some_at (new k) at.0 (within k at.0 at.1);
  absent = λ k here.
      let at = some_at (old k) (full.taken k (rows k t here)) in
      let same = same_text at.0 t (sym (within k at.0 at.1) ∙ here) in
      full.absent k (at.1 ∙ ap Some same);
}

-- the same for the notes of one row
pub full_kept : (old new : List Place) (t : List ℕ) → length new ≡ length old → IsWithin (places_of old) (places_of new) → IsTableFull (length old) (places_of old) t → IsTableFull (length new) (places_of new) t
full_kept old new t long within full =
    let P : ℕ → Type 0 = λ n. IsTableFull n (places_of new) t in
    subst P (sym long) (IsTableFull-grows (length old) (places_of old) (places_of new) t within (λ k u e. let inside = places_within new k u e in omega arith) full)

-- what is known through the same marks of the same places is the same
pub known-read : (old new : List Place) → IsSame (places_of old) (places_of new) → HaveSameMarks old new → IsSame (known_of old) (known_of new)
known-read old new places marks zero = refl
known-read old new places marks (suc k) = ap₂ (λ (mark : Bool) (at : Option (List ℕ)). if mark then at else None) (marks.named k) (places k)

-- the notes `old` of these cells have become `new` by reading what was known
pub record HasRead (cells : List (Global × ℕ)) (old new : List Place) : Type 0 where
  pub notes : AreNotesOf cells new
  pub places : IsSame (places_of old) (places_of new)
  pub marks : HaveSameMarks old new

-- the notes `old` of these cells have become `new`, which knows no less
pub record HasGrown (cells : List (Global × ℕ)) (old new : List Place) : Type 0 where
  pub notes : AreNotesOf cells new
  pub known : IsWithin (known_of old) (known_of new)
  pub places : IsWithin (places_of old) (places_of new)

-- the notes `into` of these cells have become `new`, which has joined what `from` knows
pub record HasJoined (cells : List (Global × ℕ)) (into from new : List Place) : Type 0 where
  pub notes : AreNotesOf cells new
  pub marked : AreMarked new
  pub places : IsUnion (places_of into) (places_of from) (places_of new)
  pub named : (k : ℕ) → is_named new k ≡ (is_named into k || is_named from k)

-- each is said of notes and cells under other names
pub HasRead-as : (row cells : List (Global × ℕ)) (was old now new : List Place) → row ≡ cells → was ≡ old → new ≡ now → HasRead row was now → HasRead cells old new
HasRead-as row cells was old now new of_table of_old of_new has = subst (λ cs. HasRead cs old new) of_table (subst (λ notes. HasRead row notes new) of_old (subst (HasRead row was) (sym of_new) has))

pub HasGrown-as : (row cells : List (Global × ℕ)) (was old now new : List Place) → row ≡ cells → was ≡ old → new ≡ now → HasGrown row was now → HasGrown cells old new
HasGrown-as row cells was old now new of_table of_old of_new has = subst (λ cs. HasGrown cs old new) of_table (subst (λ notes. HasGrown row notes new) of_old (subst (HasGrown row was) (sym of_new) has))

pub HasJoined-as : (row cells : List (Global × ℕ)) (was into other from now new : List Place) → row ≡ cells → was ≡ into → other ≡ from → new ≡ now → HasJoined row was other now → HasJoined cells into from new
HasJoined-as row cells was into other from now new of_table of_into of_from of_new has =
    subst (λ cs. HasJoined cs into from new) of_table (subst (λ notes. HasJoined row notes from new) of_into (subst (λ notes. HasJoined row was notes new) of_from (subst (HasJoined row was other) (sym of_new) has)))

-- a pass that has read what it knew is of its table as before
pub IsCellPass-read : (cells : List (Global × ℕ)) (old new : CellNotes) → IsCellPass cells old → HasRead cells old.notes new.notes → IsCellPass cells new
IsCellPass-read cells old new is has = record {
  row_size = is.row_size;
  notes = has.notes;
  marked = λ k. has.marks.seen k ∙ (is.marked k ∙ sym (ap is_some (has.places k)));
  found = AreFound-grows (length cells) old.notes new.notes is.found (IsWithin-same (places_of old.notes) (places_of new.notes) has.places) has.marks.named;
}

-- what contracts see of a pass that knows no less is kept
pub Keeps-grown : (cells : List (Global × ℕ)) (old new : CellNotes) → IsCellPass cells old → HasGrown cells old.notes new.notes → new.root ≡ old.root → Keeps (seen_of old) (seen_of new)
Keeps-grown cells old new is has root = record {
  known = has.known;
  places = has.places;
  root = root;
  full = λ t full. full_kept old.notes new.notes t (has.notes.as_many ∙ sym is.notes.as_many) has.places full;
  drained = λ never. never;
}

pub Keeps-read : (cells : List (Global × ℕ)) (old new : CellNotes) → IsCellPass cells old → HasRead cells old.notes new.notes → new.root ≡ old.root → Keeps (seen_of old) (seen_of new)
Keeps-read cells old new is has root = Keeps-grown cells old new is (record {
  notes = has.notes;
  known = IsWithin-same (known_of old.notes) (known_of new.notes) (known-read old.notes new.notes has.places has.marks);
  places = IsWithin-same (places_of old.notes) (places_of new.notes) has.places;
}) root

-- each of two maps lies within their union
within_left : (one other both : Texts) → IsUnion one other both → IsWithin one both
within_left one other both union k t e = union.entries k ∙ ap (λ (at : Option (List ℕ)). or_else at (other k)) e

pub within_right : (one other both : Texts) → IsUnion one other both → IsWithin other both
within_right one other both union k t e = union.entries k ∙ by (one k) refl where
  by : (at : Option (List ℕ)) → one k ≡ at → or_else at (other k) ≡ Some t
  by (Some u) is = ap Some (union.agree k u t is e)
  by None is = e

-- two passes of one table, and the notes that have joined what they know
module _ (cells : List (Global × ℕ)) (into from new : CellNotes) (is_into : IsCellPass cells into) (is_from : IsCellPass cells from) (has : HasJoined cells into.notes from.notes new.notes) where
  from_into : IsWithin (places_of into.notes) (places_of new.notes)
  from_into = within_left (places_of into.notes) (places_of from.notes) (places_of new.notes) has.places

  from_from : IsWithin (places_of from.notes) (places_of new.notes)
  from_from = within_right (places_of into.notes) (places_of from.notes) (places_of new.notes) has.places

  -- a number that is named was named by one of the two
  either : (a b : Bool) → (a || b) ≡ true → (a ≡ true) ⊎ (b ≡ true)
  either true b is = inl refl
  either false b is = inr is

  found : AreFound (length cells) new.notes
  found k mark = elim (either (is_named into.notes k) (is_named from.notes k) (sym (has.named k) ∙ mark)) [
    | inl one ↦ (let at = is_into.found k one in (at.0, IsFound-grows (length cells) (places_of into.notes) (places_of new.notes) k at.0 from_into at.1))
    | inr other ↦ (let at = is_from.found k other in (at.0, IsFound-grows (length cells) (places_of from.notes) (places_of new.notes) k at.0 from_from at.1))
  ]

  pub IsCellPass-joined : IsCellPass cells new
  IsCellPass-joined = record { row_size = is_into.row_size; notes = has.notes; marked = has.marked; found = found }

  by_marks : (k : ℕ) (a b c : Bool) → is_named into.notes k ≡ a → is_named from.notes k ≡ b → c ≡ (a || b)
      → (if c then places_of new.notes k else None) ≡ or_else (if a then places_of into.notes k else None) (if b then places_of from.notes k else None)
  by_marks k true b c one other is = let at = is_into.found k one in rw is (from_into k at.0 at.1.here ∙ sym (ap (λ (x : Option (List ℕ)). or_else x (if b then places_of from.notes k else None)) at.1.here))
  by_marks k false true c one other is = let at = is_from.found k other in rw is (from_from k at.0 at.1.here ∙ sym at.1.here)
  by_marks k false false c one other is = rw is refl

  entries : (k : ℕ) → known_of new.notes k ≡ or_else (known_of into.notes k) (known_of from.notes k)
  entries zero = refl
  entries (suc k) = by_marks k (is_named into.notes k) (is_named from.notes k) (is_named new.notes k) refl refl (has.named k)

  agree : (k : ℕ) (t u : List ℕ) → known_of into.notes k ≡ Some t → known_of from.notes k ≡ Some u → t ≡ u
  agree zero t u e f = same_text t u (sym e ∙ f)
  agree (suc k) t u e f = has.places.agree k t u (known_seen into.notes k t e).1 (known_seen from.notes k u f).1

  known : IsUnion (known_of into.notes) (known_of from.notes) (known_of new.notes)
  known = record { entries = entries; agree = agree }

  pub Keeps-joined : new.root ≡ into.root → Keeps (seen_of into) (seen_of new)
  Keeps-joined root = Keeps-grown cells into new is_into (record { notes = has.notes; known = within_left (known_of into.notes) (known_of from.notes) (known_of new.notes) known; places = from_into }) root

  pub Meets-joined : new.meets ≡ into.meets + from.meets + 1 → Meets (seen_of into) (seen_of from) (seen_of new)
  Meets-joined meets = record {
    known = known;
    places = has.places;
    meets = meets;
    full = λ t full. full_kept from.notes new.notes t (has.notes.as_many ∙ sym is_from.notes.as_many) from_from full;
    drained = λ never. never;
  }
