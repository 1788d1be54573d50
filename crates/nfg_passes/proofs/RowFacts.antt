-- The rows of the automaton, against the rules at every pair of a state and an id.
use Rattle.std.proofs.Common.{◌≡◌, ℕ, ◌+◌, ◌*◌, ◌<◌, Bool, true, false, not, ◌&&◌, ◌||◌, ◌==◌, nat_lt, [], ◌∷◌, slice_index, slice_index_or, Option, Some, None, unwrap_or, refl, subst, eqb-true, ltb-true}
use Rattle.std.proofs.lemmas.Bool.{and_parts}
use Rattle.std.proofs.lemmas.List.Elements.{All-get_or}
use Rattle.std.proofs.lemmas.List.Sums.{AllPass-from_list_all}
use Rattle.std.specs.Bool.{beq}
use Rattle.std.specs.List.{list_all}
use Rattle.ucd_breaks.specs.GraphemeClusterBreak.{grapheme_cluster_break_number, grapheme_cluster_break_from_number}
use Rattle.ucd_breaks.specs.declared.GraphemeClusterBreak.{GraphemeClusterBreak}
use Rattle.ucd_breaks.specs.declared.GraphemeClusterBreak.TheVariants.{Control, Cr, L, Prepend, T, V, Other}
use Rattle.ucd_breaks.proofs.GraphemeClusterBreakLemmas.{grapheme_cluster_break_number-lt, grapheme_cluster_break_from_number-grapheme_cluster_break_number}
use Rattle.ucd_table.proofs.Facts.{same_from_beq}
use Rattle.ucd_table.proofs.TrieCheck.{all_below, all_below-at}
use Rattle.unicode_segmentation.specs.Grapheme.{break_by_pair, is_consonant, is_extend, is_zwj, is_regional}
use Rattle.nfg_text.specs.Breaks.{is_linked_after, rule_number}
use Rattle.nfg_text.specs.Properties.{bit}
use Rattle.nfg_passes.specs.Attributes.{attributes_in_order}
use Rattle.nfg_passes.specs.Ids.{attributes_of_id, class_of_id, conjunct_of_id, is_pictograph_id}
use Rattle.nfg_passes.specs.States.{LookBack, state_of}
use Rattle.nfg_passes.specs.declared.rows.TheConstants.{ROWS}

-- what a state says of the text before it
abbrev pub seen_at : ℕ → LookBack
seen_at s =
    record {
      linker = (s == 3) || (s == 10) || (s == 12);
      pictograph = (s == 9) || (s == 10);
      joiner = (s == 11) || (s == 12);
      flag = s == 8;
    }

-- a break class that the rules on neighbors take for the last one
abbrev pub left_at : ℕ → GraphemeClusterBreak
left_at s = slice_index_or (Control ∷ Cr ∷ Other ∷ Other ∷ L ∷ V ∷ T ∷ Prepend ∷ []) s Other

-- what is seen after a code point of the id
abbrev pub seen_then : LookBack → ℕ → LookBack
seen_then seen id =
    record {
      linker = is_linked_after (conjunct_of_id id) seen.linker;
      pictograph = is_pictograph_id id || (is_extend (class_of_id id) && seen.pictograph);
      joiner = is_zwj (class_of_id id) && seen.pictograph;
      flag = is_regional (class_of_id id) && not seen.flag;
    }

abbrev pub next_state : ℕ → ℕ → ℕ
next_state s id = state_of (class_of_id id) (seen_then (seen_at s) id)

-- a rule that looks back holds a code point of the id to a text of which this is seen
abbrev pub joins_by_id : LookBack → ℕ → Bool
joins_by_id seen id =
    (seen.linker && is_consonant (conjunct_of_id id)) || (seen.joiner && is_pictograph_id id) || (seen.flag && is_regional (class_of_id id))

-- the rules put a boundary between a text at the state and such a code point
abbrev pub breaks_by_id : ℕ → ℕ → Bool
breaks_by_id s id = unwrap_or (break_by_pair true (left_at s) (class_of_id id)) (not (joins_by_id (seen_at s) id))

same_rules : GraphemeClusterBreak → GraphemeClusterBreak → ℕ → Bool
same_rules a b n =
    rule_number (break_by_pair true a (grapheme_cluster_break_from_number n)) == rule_number (break_by_pair true b (grapheme_cluster_break_from_number n))

same_seen : LookBack → LookBack → Bool
same_seen a b = beq a.linker b.linker && (beq a.pictograph b.pictograph && (beq a.joiner b.joiner && beq a.flag b.flag))

-- what is computed of each pair
row_holds : ℕ → ℕ → Bool
row_holds id s =
    let next = next_state s id in
    ((slice_index ROWS (id * 32 + s) == next) && (slice_index ROWS (id * 32 + 16 + s) == bit (breaks_by_id s id)))
    && (nat_lt next 13 && (same_seen (seen_at next) (seen_then (seen_at s) id) && all_below (same_rules (left_at next) (class_of_id id)) 14))

rows_hold : all_below (λ id. all_below (row_holds id) 13) 88 ≡ true
unfolding all_below row_holds same_rules same_seen attributes_of_id attributes_in_order
rows_hold = refl

rule_from_number : (x y : Option Bool) → (rule_number x == rule_number y) ≡ true → x ≡ y
rule_from_number None None same = refl
rule_from_number None (Some true) same = cc
rule_from_number None (Some false) same = cc
rule_from_number (Some true) None same = cc
rule_from_number (Some true) (Some true) same = refl
rule_from_number (Some true) (Some false) same = cc
rule_from_number (Some false) None same = cc
rule_from_number (Some false) (Some true) same = cc
rule_from_number (Some false) (Some false) same = refl

-- the same, as facts
pub record RowHolds (s id : ℕ) : Type 0 where
  pub next : slice_index ROWS (id * 32 + s) ≡ next_state s id
  pub break : slice_index ROWS (id * 32 + 16 + s) ≡ bit (breaks_by_id s id)
  pub bound : next_state s id < 13
  pub linker : (seen_at (next_state s id)).linker ≡ (seen_then (seen_at s) id).linker
  pub pictograph : (seen_at (next_state s id)).pictograph ≡ (seen_then (seen_at s) id).pictograph
  pub joiner : (seen_at (next_state s id)).joiner ≡ (seen_then (seen_at s) id).joiner
  pub flag : (seen_at (next_state s id)).flag ≡ (seen_then (seen_at s) id).flag
  pub left : (next : GraphemeClusterBreak) → break_by_pair true (left_at (next_state s id)) next ≡ break_by_pair true (class_of_id id) next

pub row_holds-at : (s id : ℕ) → s < 13 → id < 88 → RowHolds s id
unfolding row_holds same_rules same_seen
row_holds-at s id state known =
    let row = all_below-at (λ id. all_below (row_holds id) 13) 88 id rows_hold known in
    let cell = and_parts _ _ (all_below-at (row_holds id) 13 s row state) in
    let values = and_parts _ _ cell.0 in
    let rest = and_parts _ _ cell.1 in
    let kept = and_parts _ _ rest.1 in
    let first = and_parts _ _ kept.0 in
    let second = and_parts _ _ first.1 in
    let third = and_parts _ _ second.1 in
    record {
      next = eqb-true _ _ values.0;
      break = eqb-true _ _ values.1;
      bound = ltb-true _ _ rest.0;
      linker = same_from_beq _ _ first.0;
      pictograph = same_from_beq _ _ second.0;
      joiner = same_from_beq _ _ third.0;
      flag = same_from_beq _ _ third.1;
      left = λ next.
          let n = grapheme_cluster_break_number next in
          let same = rule_from_number _ _ (all_below-at (same_rules (left_at (next_state s id)) (class_of_id id)) 14 n kept.1 (grapheme_cluster_break_number-lt next)) in
          subst (λ v. break_by_pair true (left_at (next_state s id)) v ≡ break_by_pair true (class_of_id id) v) (grapheme_cluster_break_from_number-grapheme_cluster_break_number next) same;
    }

-- ---- a state is below 16

states_small : list_all (λ entry. nat_lt entry 16) ROWS ≡ true
states_small = refl

pub entry_small : (k : ℕ) → k < 4096 → slice_index ROWS k < 16
entry_small k inside = ltb-true _ _ (All-get_or (λ entry. nat_lt entry 16 ≡ true) ROWS k 0 inside (AllPass-from_list_all (λ entry. nat_lt entry 16) ROWS states_small))
