-- What an id tells of its code points.
use Rattle.std.proofs.Common.{◌≡◌, ℕ, suc, ◌/◌, ◌%◌, Bool, true, ◌&&◌, ◌||◌, ◌==◌, nat_lt, nat_le, slice_index, refl, sym, ap, ◌∙◌, arith, eqb-true, ltb-true, leb-true, le-ltb}
use Rattle.std.specs.Bool.{beq}
use Rattle.ucd_breaks.specs.GraphemeClusterBreak.{grapheme_cluster_break, grapheme_cluster_break_number, grapheme_cluster_break_from_number}
use Rattle.ucd_breaks.proofs.GraphemeClusterBreakLemmas.{grapheme_cluster_break_stepped, grapheme_cluster_break_from_number-grapheme_cluster_break_number}
use Rattle.ucd_derived.specs.IndicConjunctBreak.{indic_conjunct_break, indic_conjunct_break_number, indic_conjunct_break_from_number}
use Rattle.ucd_derived.proofs.IndicConjunctBreakLemmas.{indic_conjunct_break_stepped, indic_conjunct_break_from_number-indic_conjunct_break_number}
use Rattle.ucd_emoji.specs.Binary.{is_extended_pictographic}
use Rattle.ucd_emoji.proofs.BinaryLemmas.{is_extended_pictographic_stepped}
use Rattle.ucd_normal.specs.CanonicalCombiningClass.{canonical_combining_class}
use Rattle.ucd_normal.specs.QuickCheck.{quick_check}
use Rattle.ucd_normal.specs.declared.forms.Form.TheVariants.{Nfc}
use Rattle.ucd_normal.proofs.CanonicalCombiningClassLemmas.{canonical_combining_class_stepped}
use Rattle.ucd_normal.proofs.QuickCheckLemmas.{quick_check_stepped}
use Rattle.ucd_table.proofs.Computing.{tables}
use Rattle.ucd_table.proofs.Facts.{same_from_beq, Stepped-everywhere}
use Rattle.ucd_table.proofs.Stepped.{map_stepped, zip_stepped}
use Rattle.ucd_table.proofs.TrieCheck.{all_below, all_below-at}
use Rattle.nfg_text.specs.Graphemes.{is_yes, starts_safely}
use Rattle.nfg_passes.specs.Attributes.{attributes, attributes_in_order}
use Rattle.nfg_passes.specs.Ids.{id_number, attributes_of_id, combining_class_of_id, IdsTell, MarksRise}
use Rattle.nfg_passes.proofs.IdTable.{rules_stepped, attributes_stepped, ids_stepped, place_of}

-- ---- the attributes

told_test : (c : ℕ) → (slice_index attributes_in_order (place_of (attributes c)) == attributes c) ≡ true
unfolding tables attributes_stepped attributes_in_order rules_stepped grapheme_cluster_break_stepped indic_conjunct_break_stepped is_extended_pictographic_stepped canonical_combining_class_stepped quick_check_stepped
told_test =
    Stepped-everywhere _ (map_stepped (λ a. slice_index attributes_in_order (place_of a) == a) attributes attributes_stepped) refl

attributes_told : (c : ℕ) → attributes_of_id (id_number c) ≡ attributes c
unfolding id_number attributes_of_id
attributes_told c = eqb-true _ _ (told_test c)

bound_test : (c : ℕ) → nat_lt (place_of (attributes c)) 88 ≡ true
unfolding tables attributes_stepped attributes_in_order rules_stepped grapheme_cluster_break_stepped indic_conjunct_break_stepped is_extended_pictographic_stepped canonical_combining_class_stepped quick_check_stepped
bound_test = Stepped-everywhere _ (map_stepped (λ a. nat_lt (place_of a) 88) attributes attributes_stepped) refl

-- ---- their digits

class_digit : (c : ℕ) → (attributes c % 16 == grapheme_cluster_break_number (grapheme_cluster_break c)) ≡ true
unfolding tables attributes_stepped rules_stepped grapheme_cluster_break_stepped indic_conjunct_break_stepped is_extended_pictographic_stepped canonical_combining_class_stepped quick_check_stepped
class_digit =
    Stepped-everywhere _ (zip_stepped (λ a v. a % 16 == grapheme_cluster_break_number v) attributes grapheme_cluster_break attributes_stepped grapheme_cluster_break_stepped) refl

conjunct_digit : (c : ℕ) → (attributes c / 16 % 4 == indic_conjunct_break_number (indic_conjunct_break c)) ≡ true
unfolding tables attributes_stepped rules_stepped grapheme_cluster_break_stepped indic_conjunct_break_stepped is_extended_pictographic_stepped canonical_combining_class_stepped quick_check_stepped
conjunct_digit =
    Stepped-everywhere _ (zip_stepped (λ a v. a / 16 % 4 == indic_conjunct_break_number v) attributes indic_conjunct_break attributes_stepped indic_conjunct_break_stepped) refl

pictograph_digit : (c : ℕ) → beq (attributes c / 64 % 2 == 1) (is_extended_pictographic c) ≡ true
unfolding tables attributes_stepped rules_stepped grapheme_cluster_break_stepped indic_conjunct_break_stepped is_extended_pictographic_stepped canonical_combining_class_stepped quick_check_stepped
pictograph_digit =
    Stepped-everywhere _ (zip_stepped (λ a p. beq (a / 64 % 2 == 1) p) attributes is_extended_pictographic attributes_stepped is_extended_pictographic_stepped) refl

mark_digit : (c : ℕ) → (attributes c / 128 % 256 == canonical_combining_class c) ≡ true
unfolding tables attributes_stepped rules_stepped grapheme_cluster_break_stepped indic_conjunct_break_stepped is_extended_pictographic_stepped canonical_combining_class_stepped quick_check_stepped
mark_digit =
    Stepped-everywhere _ (zip_stepped (λ a n. a / 128 % 256 == n) attributes canonical_combining_class attributes_stepped canonical_combining_class_stepped) refl

-- ---- the order of the ids

safe_test : (c : ℕ) → beq (nat_lt (id_number c) 18) (starts_safely c) ≡ true
unfolding tables ids_stepped attributes_stepped attributes_in_order rules_stepped grapheme_cluster_break_stepped indic_conjunct_break_stepped is_extended_pictographic_stepped canonical_combining_class_stepped quick_check_stepped
safe_test =
    let safe = zip_stepped (λ n v. (n == 0) && is_yes v) canonical_combining_class (quick_check Nfc) canonical_combining_class_stepped (quick_check_stepped Nfc) in
    Stepped-everywhere _ (zip_stepped (λ id b. beq (nat_lt id 18) b) id_number starts_safely ids_stepped safe) refl

yes_test : (c : ℕ) → beq (nat_lt (id_number c) 71) (is_yes (quick_check Nfc c)) ≡ true
unfolding tables ids_stepped attributes_stepped attributes_in_order rules_stepped grapheme_cluster_break_stepped indic_conjunct_break_stepped is_extended_pictographic_stepped canonical_combining_class_stepped quick_check_stepped
yes_test =
    Stepped-everywhere _ (zip_stepped (λ id v. beq (nat_lt id 71) (is_yes v)) id_number (quick_check Nfc) ids_stepped (quick_check_stepped Nfc)) refl

pub ids_tell : IdsTell
unfolding id_number
ids_tell c =
    record {
      bound = ltb-true _ _ (bound_test c);
      class =
          ap (λ a. grapheme_cluster_break_from_number (a % 16)) (attributes_told c)
          ∙ ap grapheme_cluster_break_from_number (eqb-true _ _ (class_digit c))
          ∙ grapheme_cluster_break_from_number-grapheme_cluster_break_number (grapheme_cluster_break c);
      conjunct =
          ap (λ a. indic_conjunct_break_from_number (a / 16 % 4)) (attributes_told c)
          ∙ ap indic_conjunct_break_from_number (eqb-true _ _ (conjunct_digit c))
          ∙ indic_conjunct_break_from_number-indic_conjunct_break_number (indic_conjunct_break c);
      pictograph = ap (λ a. a / 64 % 2 == 1) (attributes_told c) ∙ same_from_beq _ _ (pictograph_digit c);
      combining_class = ap (λ a. a / 128 % 256) (attributes_told c) ∙ eqb-true _ _ (mark_digit c);
      safe = same_from_beq _ _ (safe_test c);
      yes = same_from_beq _ _ (yes_test c);
    }

-- ---- the marks

rises : ℕ → ℕ → Bool
rises b a = nat_lt a 18 || nat_le (combining_class_of_id a) (combining_class_of_id b)

rise_test : all_below (λ b. all_below (rises b) (suc b)) 71 ≡ true
unfolding all_below rises attributes_of_id attributes_in_order
rise_test = refl

pub marks_rise : MarksRise
unfolding rises
marks_rise a b mark before doubtful =
    let row = all_below-at (λ b. all_below (rises b) (suc b)) 71 b rise_test doubtful in
    let cell = all_below-at (rises b) (suc b) a row (omega (arith, before)) in
    let risen : nat_le (combining_class_of_id a) (combining_class_of_id b) ≡ true =
    sym (ap (λ low. low || nat_le (combining_class_of_id a) (combining_class_of_id b)) (le-ltb a 18 mark)) ∙ cell in
    leb-true _ _ risen
