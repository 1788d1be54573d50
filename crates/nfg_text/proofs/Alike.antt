-- The rules put the same boundaries before a syllable and before its leading consonant.
use Rattle.std.proofs.Common.{◌≡◌, ℕ, Bool, true, false, not, ◌&&◌, ◌||◌, List, [], ◌∷◌, map, unwrap_or, refl, sym, ap, ap₂, ◌∙◌}
use Rattle.ucd_breaks.specs.GraphemeClusterBreak.{grapheme_cluster_break as class}
use Rattle.ucd_breaks.specs.declared.GraphemeClusterBreak.{GraphemeClusterBreak}
use Rattle.ucd_breaks.specs.declared.GraphemeClusterBreak.TheVariants.{Control, Cr, L, Lf, Lv, Lvt, Prepend}
use Rattle.ucd_breaks.proofs.GraphemeClusterBreakLemmas.{grapheme_cluster_break_stepped}
use Rattle.ucd_derived.specs.IndicConjunctBreak.{indic_conjunct_break as conjunct}
use Rattle.ucd_derived.specs.declared.IndicConjunctBreak.{IndicConjunctBreak}
use Rattle.ucd_derived.specs.declared.IndicConjunctBreak.TheVariants as InCb
use Rattle.ucd_derived.proofs.IndicConjunctBreakLemmas.{indic_conjunct_break_stepped}
use Rattle.ucd_emoji.specs.Binary.{is_extended_pictographic as pictograph}
use Rattle.ucd_emoji.proofs.BinaryLemmas.{is_extended_pictographic_stepped}
use Rattle.ucd_table.proofs.Computing.{tables}
use Rattle.ucd_table.proofs.Stepped.{zip_stepped}
use Rattle.unicode_segmentation.specs.Grapheme.{break_by_pair, ends_in_linker, ends_in_pictograph, ends_in_half_flag, is_consonant, is_zwj, is_regional, is_grapheme_break}
use Rattle.nfg_text.proofs.Everywhere.{at_all, always, implied}
use Rattle.nfg_text.proofs.HangulFacts.{is_leading_class}

-- L for LV and LVT, before which the rules put the same boundaries as before L
abbrev pub leading : GraphemeClusterBreak → GraphemeClusterBreak
leading Lv = L
leading Lvt = L
leading v = v

leading_is_l : (v : GraphemeClusterBreak) → is_leading_class v ≡ true → leading v ≡ L
leading_is_l L h = refl
leading_is_l Lv h = refl
leading_is_l Lvt h = refl
leading_is_l _ h = cc

pair_by_leading : (l v : GraphemeClusterBreak) → break_by_pair true l v ≡ break_by_pair true l (leading v)
pair_by_leading L Lv = refl
pair_by_leading L Lvt = refl
pair_by_leading Control Lv = refl
pair_by_leading Control Lvt = refl
pair_by_leading Cr Lv = refl
pair_by_leading Cr Lvt = refl
pair_by_leading Lf Lv = refl
pair_by_leading Lf Lvt = refl
pair_by_leading Prepend Lv = refl
pair_by_leading Prepend Lvt = refl
pair_by_leading _ Lv = refl
pair_by_leading _ Lvt = refl
pair_by_leading l _ = refl

regional_by_leading : (v : GraphemeClusterBreak) → is_regional v ≡ is_regional (leading v)
regional_by_leading Lv = refl
regional_by_leading Lvt = refl
regional_by_leading _ = refl

abbrev is_none : IndicConjunctBreak → Bool
is_none InCb.None = true
is_none _ = false

none_from : (v : IndicConjunctBreak) → is_none v ≡ true → v ≡ InCb.None
none_from InCb.None h = refl
none_from _ h = cc

leading_conjunct : (c : ℕ) → (not (is_leading_class (class c)) || is_none (conjunct c)) ≡ true
unfolding tables always indic_conjunct_break_stepped grapheme_cluster_break_stepped
leading_conjunct =
    at_all _ (zip_stepped (λ w v. not (is_leading_class w) || is_none v) class conjunct grapheme_cluster_break_stepped indic_conjunct_break_stepped) refl

leading_picture : (c : ℕ) → (not (is_leading_class (class c)) || not (pictograph c)) ≡ true
unfolding tables always is_extended_pictographic_stepped grapheme_cluster_break_stepped
leading_picture =
    at_all _ (zip_stepped (λ w v. not (is_leading_class w) || not v) class pictograph grapheme_cluster_break_stepped is_extended_pictographic_stepped) refl

-- the rules put the same boundaries before both
pub record Alike (p q : ℕ) : Type 0 where
  pub side : leading (class p) ≡ leading (class q)
  pub joint : conjunct p ≡ conjunct q
  pub picture : pictograph p ≡ pictograph q

pub alike-refl : (p q : ℕ) → p ≡ q → Alike p q
alike-refl p q same = record { side = ap (λ x. leading (class x)) same; joint = ap conjunct same; picture = ap pictograph same }

pub alike-sym : (p q : ℕ) → Alike p q → Alike q p
alike-sym p q h = record { side = sym h.side; joint = sym h.joint; picture = sym h.picture }

pub alike-trans : (p q r : ℕ) → Alike p q → Alike q r → Alike p r
alike-trans p q r h k = record { side = h.side ∙ k.side; joint = h.joint ∙ k.joint; picture = h.picture ∙ k.picture }

both_false : (a b : Bool) → not a ≡ true → not b ≡ true → a ≡ b
both_false false false h k = refl
both_false false true h k = cc
both_false true b h k = cc

pub alike_leading : (p q : ℕ) → is_leading_class (class p) ≡ true → is_leading_class (class q) ≡ true → Alike p q
alike_leading p q h k =
    record {
      side = leading_is_l (class p) h ∙ sym (leading_is_l (class q) k);
      joint = none_from (conjunct p) (implied _ _ (leading_conjunct p) h) ∙ sym (none_from (conjunct q) (implied _ _ (leading_conjunct q) k));
      picture = both_false (pictograph p) (pictograph q) (implied _ _ (leading_picture p) h) (implied _ _ (leading_picture q) k);
    }

pub rule-alike : (p q : ℕ) (before xs ys : List ℕ) → Alike p q → is_grapheme_break true before (p ∷ xs) ≡ is_grapheme_break true before (q ∷ ys)
unfolding is_grapheme_break
rule-alike p q [] xs ys h = refl
rule-alike p q (b ∷ before) xs ys h =
    let pair = pair_by_leading (class b) (class p) ∙ ap (break_by_pair true (class b)) h.side ∙ sym (pair_by_leading (class b) (class q)) in
    let by_conjunct = ap (λ v. ends_in_linker (map conjunct (b ∷ before)) && is_consonant v) h.joint in
    let by_picture = ap (λ v. is_zwj (class b) && ends_in_pictograph before && v) h.picture in
    let by_flag = ap (λ v. ends_in_half_flag (b ∷ before) && v) (regional_by_leading (class p) ∙ ap is_regional h.side ∙ sym (regional_by_leading (class q))) in
    ap₂ unwrap_or pair (ap not (ap₂ ◌||◌ (ap₂ ◌||◌ by_conjunct by_picture) by_flag))
