-- The table of texts: what each event keeps, and what its probe sequences go through.
use Rattle.std.proofs.Common.{◌≡◌, ◌≢◌, ℕ, zero, suc, ◌+◌, ◌-◌, ◌*◌, ◌/◌, ◌%◌, ◌<◌, ◌≤◌, List, [], ◌∷◌, slice_get, Option, Some, None, ◌⊎◌, inl, inr, ⊎_elim, if◌then◌else◌, sym, ap, ◌∙◌, subst, arith}
use Rattle.std.proofs.Math.Nat.{add-mod-mod, mod-add-mod, add-mod_right, div-add-mod'}
use Rattle.std.proofs.lemmas.Nat.{mod-mul-add, mod_below}
use Rattle.std.proofs.lemmas.Bool.Decides.{eqb_tells}
use mathlib.Core.Logic.{dite}
use native.Mathlib.Decide.{ℕ_discrete}
use Rattle.std.proofs.Math.Decide.{dec_lt}
use Rattle.nfg_syn.specs.Known.{Texts, IsOneToOne, IsWithin, nothing}
use Rattle.nfg_syn.specs.KnownLaws.{same_text}
use Rattle.nfg_words.specs.ProbeTable.{Insert, IsAllowed, AreAllowed, IsRun, IsStorable, after, after_all, probe_sequence, probe_hash}

-- what an event leaves at a place: its own text there, and elsewhere what stood there
pub after_tells : (texts : Texts) (event : Insert) (place : ℕ)
    → ((place ≡ event.place) × (after texts event place ≡ Some event.text)) ⊎ ((place ≢ event.place) × (after texts event place ≡ texts place))
after_tells texts event place = ⊎_elim
    (λ here. inl (here.1, ap (λ b. if b then Some event.text else texts place) here.0))
    (λ past. inr (past.1, ap (λ b. if b then Some event.text else texts place) past.0))
    (eqb_tells place event.place)

pub some_is_not_none : (found : Option (List ℕ)) (text : List ℕ) → found ≡ Some text → found ≡ None → ⊥
some_is_not_none found text e f = cc

-- a text that stands in a place stays there at an allowed event
pub text_stays : (size : ℕ) (texts : Texts) (event : Insert) → IsAllowed size texts event → IsWithin texts (after texts event)
text_stays size texts event allowed place text holds = ⊎_elim
    (λ here. absurd (some_is_not_none (texts place) text holds (ap texts here.0 ∙ allowed.empty)))
    (λ past. past.1 ∙ holds)
    (after_tells texts event place)

pub texts_stay : (size : ℕ) (texts : Texts) (events : List Insert) → AreAllowed size texts events → IsWithin texts (after_all texts events)
texts_stay size texts [] allowed place text holds = holds
texts_stay size texts (event ∷ events) allowed place text holds =
    texts_stay size (after texts event) events allowed.1 place text (text_stays size texts event allowed.0 place text holds)

-- if a place is empty after an event, it was before
empty_before : (size : ℕ) (texts : Texts) (event : Insert) → IsAllowed size texts event
    → (place : ℕ) → after texts event place ≡ None → (texts place ≡ None) × (event.place ≢ place)
empty_before size texts event allowed place empty = ⊎_elim
    (λ here. absurd (some_is_not_none (after texts event place) event.text here.1 empty))
    (λ past. (sym past.1 ∙ empty, λ same. past.0 (sym same)))
    (after_tells texts event place)

-- the place of an event is empty before it, and so it was in each earlier state
empty_at_first : (size : ℕ) (texts : Texts) (events : List Insert) → AreAllowed size texts events
    → (index : ℕ) (event : Insert) → slice_get events index ≡ Some event → texts event.place ≡ None
empty_at_first size texts [] allowed index event at = absurd cc
empty_at_first size texts (first ∷ events) allowed zero event at =
    let same : first ≡ event = cc in subst (λ (e : Insert). texts e.place ≡ None) same allowed.0.empty
empty_at_first size texts (first ∷ events) allowed (suc index) event at =
    (empty_before size texts first allowed.0 event.place (empty_at_first size (after texts first) events allowed.1 index event at)).0

pub filled_once : (size : ℕ) (texts : Texts) (events : List Insert) → AreAllowed size texts events
    → (i j : ℕ) (earlier later : Insert) → i < j → slice_get events i ≡ Some earlier → slice_get events j ≡ Some later
    → earlier.place ≢ later.place
filled_once size texts [] allowed i j earlier later before at_i at_j = absurd cc
filled_once size texts (first ∷ events) allowed i zero earlier later before at_i at_j = absurd (omega arith)
filled_once size texts (first ∷ events) allowed zero (suc j) earlier later before at_i at_j =
    let same : first ≡ earlier = cc in
    let empty = empty_at_first size (after texts first) events allowed.1 j later at_j in
    subst (λ (e : Insert). e.place ≢ later.place) same (empty_before size texts first allowed.0 later.place empty).1
filled_once size texts (first ∷ events) allowed (suc i) (suc j) earlier later before at_i at_j =
    filled_once size (after texts first) events allowed.1 i j earlier later (omega arith) at_i at_j

-- The state of every run: its texts are storable, each was put where its probe sequence led past filled places, and
-- no text stands in two places.
pub record IsSettled (size : ℕ) (texts : Texts) : Type 0 where
  pub storable : (place : ℕ) (text : List ℕ) → texts place ≡ Some text → (place < size) × IsStorable text
  pub probed : (place : ℕ) (text : List ℕ) → texts place ≡ Some text
      → (index : ℕ) × (index < size) × (probe_sequence size text index ≡ place)
      × ((earlier : ℕ) → earlier < index → texts (probe_sequence size text earlier) ≢ None)
  pub distinct : IsOneToOne texts

pub empty_is_settled : (size : ℕ) → IsSettled size nothing
empty_is_settled size = record {
  storable = λ place text holds. absurd cc;
  probed = λ place text holds. absurd cc;
  distinct = λ a b text at_a at_b. absurd cc;
}

pub within_size : (size : ℕ) (text : List ℕ) (index : ℕ) → index < size → probe_sequence size text index < size
unfolding probe_sequence
within_size size text index below = mod_below (probe_hash text + index) size (omega arith)

module _ (size : ℕ) (texts : Texts) (event : Insert) (settled : IsSettled size texts) (allowed : IsAllowed size texts event) where
  -- the text of the event stands in no place before it
  pub text_is_new : (place : ℕ) → texts place ≢ Some event.text
  text_is_new place holds =
      let probed = settled.probed place event.text holds in
      let index = probed.0 in
      let is_here : event.place ≢ place = λ same. some_is_not_none (texts place) event.text holds (ap texts (sym same) ∙ allowed.empty) in
      dite (ℕ_discrete index allowed.index)
      (λ same. is_here (sym allowed.reaches ∙ (ap (probe_sequence size event.text) (sym same) ∙ probed.2)))
      (λ differ. dite (dec_lt index allowed.index)
      (λ earlier. let other = allowed.passed index earlier in
      other.2 (same_text other.0 event.text (sym other.1 ∙ (ap texts probed.2 ∙ holds))))
      (λ later. probed.3 allowed.index (omega arith) (ap texts allowed.reaches ∙ allowed.empty)))

  -- what stands in a place after the event
  tells : (place : ℕ) (text : List ℕ) → after texts event place ≡ Some text
      → ((place ≡ event.place) × (event.text ≡ text)) ⊎ (texts place ≡ Some text)
  tells place text holds = ⊎_elim
      (λ here. inl (here.0, same_text event.text text (sym here.1 ∙ holds)))
      (λ past. inr (sym past.1 ∙ holds))
      (after_tells texts event place)

  -- a place that is filled stays so
  stays_filled : (place : ℕ) → texts place ≢ None → after texts event place ≢ None
  stays_filled place filled empty = filled (empty_before size texts event allowed place empty).0

  -- the places before that of the event are filled
  event_probed : (index : ℕ) × (index < size) × (probe_sequence size event.text index ≡ event.place)
      × ((earlier : ℕ) → earlier < index → after texts event (probe_sequence size event.text earlier) ≢ None)
  event_probed = (
    allowed.index,
    allowed.on_sequence,
    allowed.reaches,
    λ earlier below.
        let other = allowed.passed earlier below in
        stays_filled (probe_sequence size event.text earlier) (λ empty. some_is_not_none (texts (probe_sequence size event.text earlier)) other.0 other.1 empty),
  )

  event_within : event.place < size
  event_within = subst (λ (place : ℕ). place < size) allowed.reaches (within_size size event.text allowed.index allowed.on_sequence)

  pub stays_settled : IsSettled size (after texts event)
  stays_settled = record {
    storable = λ place text holds. ⊎_elim
        (λ here. subst (λ (at : ℕ × List ℕ). (at.0 < size) × IsStorable at.1) (λ i. (sym here.0 i, here.1 i)) (event_within, allowed.storable))
        (λ past. settled.storable place text past)
        (tells place text holds);
    probed = λ place text holds. ⊎_elim
        (λ here. subst (λ (at : ℕ × List ℕ). (index : ℕ) × (index < size) × (probe_sequence size at.1 index ≡ at.0)
        × ((earlier : ℕ) → earlier < index → after texts event (probe_sequence size at.1 earlier) ≢ None))
        (λ i. (sym here.0 i, here.1 i)) event_probed)
        (λ past. let probed = settled.probed place text past in
        (probed.0, probed.1, probed.2, λ earlier below. stays_filled (probe_sequence size text earlier) (probed.3 earlier below)))
        (tells place text holds);
    distinct = λ a b text at_a at_b. ⊎_elim
        (λ here_a. ⊎_elim
        (λ here_b. here_a.0 ∙ sym here_b.0)
        (λ past_b. absurd (text_is_new b (past_b ∙ ap Some (sym here_a.1))))
        (tells b text at_b))
        (λ past_a. ⊎_elim
        (λ here_b. absurd (text_is_new a (past_a ∙ ap Some (sym here_b.1))))
        (λ past_b. settled.distinct a b text past_a past_b)
        (tells b text at_b))
        (tells a text at_a);
  }

settled_after : (size : ℕ) (texts : Texts) (events : List Insert) → IsSettled size texts → AreAllowed size texts events → IsSettled size (after_all texts events)
settled_after size texts [] settled allowed = settled
settled_after size texts (event ∷ events) settled allowed =
    settled_after size (after texts event) events (stays_settled size texts event settled allowed.0) allowed.1

pub run_is_settled : (size : ℕ) (events : List Insert) → IsRun size events → IsSettled size (after_all nothing events)
run_is_settled size events run = settled_after size nothing events (empty_is_settled size) run

-- the index is what the place is beyond the first one, around the end
pub goes_everywhere : (size : ℕ) (text : List ℕ) (place : ℕ) → place < size
    → (index : ℕ) × (index < size) × (probe_sequence size text index ≡ place)
unfolding probe_sequence
goes_everywhere size text place below =
    let hash = probe_hash text in
    let first : hash % size < size = mod_below hash size (omega arith) in
    let whole : hash / size * size + hash % size ≡ hash = div-add-mod' hash size in
    let ahead = place + (size - hash % size) in
    let around : hash + ahead ≡ hash / size * size + place + size = omega arith in (
      ahead % size,
      mod_below ahead size (omega arith),
      add-mod-mod hash ahead size ∙ (ap (λ n. n % size) around ∙ (add-mod_right (hash / size * size + place) size ∙ mod-mul-add (hash / size) size place below)),
    )

-- what is below the size is its own remainder
mod-small : (n size : ℕ) → n < size → n % size ≡ n
mod-small n size below = let whole : n ≡ 0 * size + n = omega arith in ap (λ m. m % size) whole ∙ mod-mul-add 0 size n below

-- a place less than two tables ahead
ahead_of : (size first index : ℕ) → first < size → index < size
    → ((first + index < size) × ((first + index) % size ≡ first + index)) ⊎ ((size ≤ first + index) × ((first + index) % size ≡ first + index - size))
ahead_of size first index first_below index_below = dite (dec_lt (first + index) size)
    (λ below. inl (below, mod-small (first + index) size below))
    (λ beyond. let rest = first + index - size in
    let around : first + index ≡ rest + size = omega arith in
    inr (omega arith, ap (λ n. n % size) around ∙ (add-mod_right rest size ∙ mod-small rest size (omega arith))))

pub goes_once : (size : ℕ) (text : List ℕ) (i j : ℕ) → i < size → j < size
    → probe_sequence size text i ≡ probe_sequence size text j → i ≡ j
unfolding probe_sequence
goes_once size text i j i_below j_below same =
    let first = probe_hash text % size in
    let first_below : first < size = mod_below (probe_hash text) size (omega arith) in
    let at_i : (first + i) % size ≡ (probe_hash text + i) % size = mod-add-mod (probe_hash text) size i in
    let at_j : (first + j) % size ≡ (probe_hash text + j) % size = mod-add-mod (probe_hash text) size j in
    ⊎_elim
    (λ i_here. ⊎_elim (λ j_here. let a = i_here.1 in let b = j_here.1 in omega arith) (λ j_there. let a = i_here.1 in let b = j_there.1 in let c = j_there.0 in omega arith) (ahead_of size first j first_below j_below))
    (λ i_there. ⊎_elim (λ j_here. let a = i_there.1 in let b = j_here.1 in let c = i_there.0 in omega arith) (λ j_there. let a = i_there.1 in let b = j_there.1 in let c = i_there.0 in let d = j_there.0 in omega arith) (ahead_of size first j first_below j_below))
    (ahead_of size first i first_below i_below)
