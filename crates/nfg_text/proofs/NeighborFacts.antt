-- The rules on two neighbors are those of the table, and the parts of a number say what the rules ask of a value.
use Rattle.std.proofs.Common.{◌≡◌, ℕ, ◌+◌, ◌*◌, ◌%◌, Bool, true, false, not, ◌||◌, ◌&&◌, ◌==◌, Option, Some, None, unwrap_or, get_or, refl, ap, ap₂, ◌∙◌, arith, eqb-true, div-add-mod'}
use Rattle.std.proofs.lemmas.Nat.{mod_below}
use Rattle.ucd_breaks.specs.GraphemeClusterBreak.{grapheme_cluster_break_number, grapheme_cluster_break_from_number}
use Rattle.ucd_breaks.specs.declared.GraphemeClusterBreak.{GraphemeClusterBreak}
use Rattle.ucd_breaks.specs.declared.GraphemeClusterBreak.TheVariants as Class
use Rattle.ucd_breaks.proofs.GraphemeClusterBreakLemmas.{grapheme_cluster_break_from_number-grapheme_cluster_break_number, grapheme_cluster_break_number-lt}
use Rattle.ucd_derived.specs.IndicConjunctBreak.{indic_conjunct_break_number}
use Rattle.ucd_derived.specs.declared.IndicConjunctBreak.{IndicConjunctBreak}
use Rattle.ucd_derived.specs.declared.IndicConjunctBreak.TheVariants as Conjunct
use Rattle.ucd_table.proofs.TrieCheck.{all_below, all_below-at}
use Rattle.unicode_segmentation.specs.Grapheme.{break_by_pair, is_consonant, is_extend, is_zwj, is_regional}
use Rattle.nfg_text.specs.Breaks.{is_linked_after, rule_number}
use Rattle.nfg_text.specs.declared.neighbors.TheConstants.{NEIGHBORS}

rule_of : ℕ → ℕ → ℕ
rule_of l r = rule_number (break_by_pair true (grapheme_cluster_break_from_number l) (grapheme_cluster_break_from_number r))

holds_at : ℕ → ℕ → Bool
holds_at l r = get_or NEIGHBORS (l * 16 + r) 0 == rule_of l r

table_holds : all_below (λ l. all_below (holds_at l) 14) 14 ≡ true
unfolding all_below holds_at rule_of
table_holds = refl

rule_in_table : (a b : GraphemeClusterBreak) → get_or NEIGHBORS (grapheme_cluster_break_number a * 16 + grapheme_cluster_break_number b) 0 ≡ rule_number (break_by_pair true a b)
unfolding holds_at rule_of
rule_in_table a b =
    let row = all_below-at (λ l. all_below (holds_at l) 14) 14 (grapheme_cluster_break_number a) table_holds (grapheme_cluster_break_number-lt a) in
    let cell = all_below-at (holds_at (grapheme_cluster_break_number a)) 14 (grapheme_cluster_break_number b) row (grapheme_cluster_break_number-lt b) in
    eqb-true _ _ cell
    ∙ ap₂ (λ v w. rule_number (break_by_pair true v w))
    (grapheme_cluster_break_from_number-grapheme_cluster_break_number a) (grapheme_cluster_break_from_number-grapheme_cluster_break_number b)

mod_number : (a : GraphemeClusterBreak) → grapheme_cluster_break_number a % 16 ≡ grapheme_cluster_break_number a
mod_number a =
    let n = grapheme_cluster_break_number a in
    omega (arith, div-add-mod' n 16, mod_below n 16 (omega arith), grapheme_cluster_break_number-lt a)

pub by_table : (l r : ℕ) (a b : GraphemeClusterBreak) → l ≡ grapheme_cluster_break_number a → r ≡ grapheme_cluster_break_number b → get_or NEIGHBORS (l % 16 * 16 + r % 16) 0 ≡ rule_number (break_by_pair true a b)
by_table l r a b left right =
    ap₂ (λ x y. get_or NEIGHBORS (x * 16 + y) 0) (ap (λ n. n % 16) left ∙ mod_number a) (ap (λ n. n % 16) right ∙ mod_number b) ∙ rule_in_table a b

pub by_rule : (rule : Option Bool) (joins : Bool) → ((rule_number rule == 1) || ((rule_number rule == 2) && not joins)) ≡ unwrap_or rule (not joins)
by_rule (Some true) joins = refl
by_rule (Some false) joins = refl
by_rule None true = refl
by_rule None false = refl

pub extend_by_number : (v : GraphemeClusterBreak) → (grapheme_cluster_break_number v == 2) ≡ is_extend v
extend_by_number Class.Extend = refl
extend_by_number _ = refl

pub regional_by_number : (v : GraphemeClusterBreak) → (grapheme_cluster_break_number v == 8) ≡ is_regional v
regional_by_number Class.RegionalIndicator = refl
regional_by_number _ = refl

pub zwj_by_number : (v : GraphemeClusterBreak) → (grapheme_cluster_break_number v == 13) ≡ is_zwj v
zwj_by_number Class.Zwj = refl
zwj_by_number _ = refl

pub consonant_by_number : (v : IndicConjunctBreak) → (indic_conjunct_break_number v == 0) ≡ is_consonant v
consonant_by_number Conjunct.Consonant = refl
consonant_by_number _ = refl

pub linked_by_number : (v : IndicConjunctBreak) (before : Bool) → ((indic_conjunct_break_number v == 2) || ((indic_conjunct_break_number v == 1) && before)) ≡ is_linked_after v before
linked_by_number Conjunct.Linker before = refl
linked_by_number Conjunct.Extend before = refl
linked_by_number _ before = refl
