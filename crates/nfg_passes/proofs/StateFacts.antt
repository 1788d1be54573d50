-- A state holds what the rules read of the text before a place.
use Rattle.std.proofs.Common.{◌≡◌, ℕ, ◌+◌, ◌*◌, ◌<◌, ◌%◌, slice_index, arith, true, not, ◌&&◌, ◌||◌, List, [], ◌∷◌, map, unwrap_or, refl, sym, ap, ap₂, subst, ◌∙◌, lit<}
use Rattle.ucd_breaks.specs.GraphemeClusterBreak.{grapheme_cluster_break}
use Rattle.ucd_breaks.specs.declared.GraphemeClusterBreak.{GraphemeClusterBreak}
use Rattle.ucd_breaks.specs.declared.GraphemeClusterBreak.TheVariants.{Control}
use Rattle.ucd_derived.specs.IndicConjunctBreak.{indic_conjunct_break}
use Rattle.ucd_derived.specs.declared.IndicConjunctBreak.{IndicConjunctBreak}
use Rattle.ucd_derived.specs.declared.IndicConjunctBreak.TheVariants.{Linker, Extend}
use Rattle.unicode_segmentation.specs.Grapheme.{break_by_pair, ends_in_linker, ends_in_pictograph, ends_in_half_flag, is_consonant, is_extend, is_zwj, is_regional, is_grapheme_break}
use Rattle.nfg_text.specs.Breaks.{is_linked_after}
use Rattle.nfg_text.specs.Properties.{bit}
use Rattle.nfg_passes.specs.Ids.{id_number, class_of_id}
use Rattle.nfg_passes.specs.Rows.{next_in_rows, break_in_rows}
use Rattle.nfg_passes.specs.States.{LookBack, look_back, state_of, automaton_state}
use Rattle.nfg_passes.specs.declared.rows.TheConstants.{ROWS}
use Rattle.nfg_passes.proofs.IdFacts.{ids_tell}
use Rattle.nfg_passes.proofs.RowFacts.{row_holds-at, seen_at, left_at, seen_then, next_state, joins_by_id, breaks_by_id}

-- the rules on neighbors take a class for that of the last code point, where there is one
abbrev StandsForLast : GraphemeClusterBreak → List ℕ → Type 0
StandsForLast left [] = left ≡ Control
StandsForLast left (last ∷ before) = (next : GraphemeClusterBreak) → break_by_pair true left next ≡ break_by_pair true (grapheme_cluster_break last) next

record IsShown (before : List ℕ) : Type 0 where
  bound : automaton_state before < 13
  seen : seen_at (automaton_state before) ≡ look_back before
  left : StandsForLast (left_at (automaton_state before)) before

same_look_back : (a b : LookBack) → a.linker ≡ b.linker → a.pictograph ≡ b.pictograph → a.joiner ≡ b.joiner → a.flag ≡ b.flag → a ≡ b
same_look_back a b l p j f =
    λ i. record { linker = l i; pictograph = p i; joiner = j i; flag = f i }

linked : (v : IndicConjunctBreak) (vs : List IndicConjunctBreak) → ends_in_linker (v ∷ vs) ≡ is_linked_after v (ends_in_linker vs)
unfolding ends_in_linker
linked Linker vs = refl
linked Extend vs = refl
linked _ vs = refl

-- what is seen with a next code point
look_back-cons : (c : ℕ) (before : List ℕ) → look_back (c ∷ before) ≡ seen_then (look_back before) (id_number c)
unfolding ends_in_pictograph ends_in_half_flag
look_back-cons c before =
    let told = ids_tell c in
    same_look_back _ _
    (linked (indic_conjunct_break c) (map indic_conjunct_break before) ∙ ap (λ v. is_linked_after v (ends_in_linker (map indic_conjunct_break before))) (sym told.conjunct))
    (ap₂ (λ p v. p || (is_extend v && ends_in_pictograph before)) (sym told.pictograph) (sym told.class))
    (ap (λ v. is_zwj v && ends_in_pictograph before) (sym told.class))
    (ap (λ v. is_regional v && not (ends_in_half_flag before)) (sym told.class))

automaton_state-cons : (c : ℕ) (before : List ℕ) → seen_at (automaton_state before) ≡ look_back before → automaton_state (c ∷ before) ≡ next_state (automaton_state before) (id_number c)
automaton_state-cons c before seen =
    ap₂ state_of (sym (ids_tell c).class) (look_back-cons c before ∙ ap (λ s. seen_then s (id_number c)) (sym seen))

shown : (before : List ℕ) → IsShown before
unfolding ends_in_linker ends_in_pictograph ends_in_half_flag
shown [] = record { bound = lit< tt; seen = refl; left = refl }
shown (c ∷ before) =
    let so_far = shown before in
    let holds = row_holds-at (automaton_state before) (id_number c) so_far.bound (ids_tell c).bound in
    let next = automaton_state-cons c before so_far.seen in
    record {
      bound = subst (λ s. s < 13) (sym next) holds.bound;
      seen =
          ap seen_at next ∙ same_look_back _ _ holds.linker holds.pictograph holds.joiner holds.flag
          ∙ ap (λ s. seen_then s (id_number c)) so_far.seen ∙ sym (look_back-cons c before);
      left = λ v. ap (λ s. break_by_pair true (left_at s) v) next ∙ holds.left v ∙ ap (λ k. break_by_pair true k v) (ids_tell c).class;
    }

pub state_below : (before : List ℕ) → automaton_state before < 13
state_below before = (shown before).bound

breaks_by : (before : List ℕ) (c : ℕ) (after : List ℕ) → seen_at (automaton_state before) ≡ look_back before → StandsForLast (left_at (automaton_state before)) before
    → breaks_by_id (automaton_state before) (id_number c) ≡ is_grapheme_break true before (c ∷ after)
unfolding is_grapheme_break
breaks_by [] c after seen left = ap (λ k. unwrap_or (break_by_pair true k (class_of_id (id_number c))) (not (joins_by_id (seen_at 0) (id_number c)))) left
breaks_by (last ∷ before) c after seen left =
    let told = ids_tell c in
    ap₂ unwrap_or (left (class_of_id (id_number c)) ∙ ap (break_by_pair true (grapheme_cluster_break last)) told.class)
    (ap not (ap (λ s. joins_by_id s (id_number c)) seen
    ∙ ap₂ (λ j f. j || f)
    (ap₂ (λ v p. ((look_back (last ∷ before)).linker && is_consonant v) || ((look_back (last ∷ before)).joiner && p)) told.conjunct told.pictograph)
    (ap (λ v. (look_back (last ∷ before)).flag && is_regional v) told.class)))

known : (c : ℕ) → id_number c % 128 ≡ id_number c
known c = omega (arith, (ids_tell c).bound)

-- what the rows hold: the state with the next code point
pub next_gives : (before : List ℕ) (c : ℕ) → next_in_rows (automaton_state before) (id_number c) ≡ automaton_state (c ∷ before)
unfolding next_in_rows
next_gives before c =
    let so_far = shown before in
    let holds = row_holds-at (automaton_state before) (id_number c) so_far.bound (ids_tell c).bound in
    ap (λ id. slice_index ROWS (id * 32 + automaton_state before)) (known c) ∙ holds.next ∙ sym (automaton_state-cons c before so_far.seen)

-- and whether the rules put a boundary before it
pub break_gives : (before : List ℕ) (c : ℕ) (after : List ℕ) → break_in_rows (automaton_state before) (id_number c) ≡ bit (is_grapheme_break true before (c ∷ after))
unfolding break_in_rows
break_gives before c after =
    let so_far = shown before in
    let holds = row_holds-at (automaton_state before) (id_number c) so_far.bound (ids_tell c).bound in
    ap (λ id. slice_index ROWS (id * 32 + 16 + automaton_state before)) (known c) ∙ holds.break ∙ ap bit (breaks_by before c after so_far.seen so_far.left)
