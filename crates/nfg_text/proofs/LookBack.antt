-- A rule of UAX #29 that looks back stops at a boundary, so what comes after a boundary is cut as a text of its own.
use Rattle.std.proofs.Common.{◌≡◌, ◌≢◌, ◌⊎◌, ℕ, Bool, true, false, not, ◌&&◌, ◌||◌, List, [], ◌∷◌, ◌++◌, map, unwrap_or, refl, sym, ap, ap₂, ◌∙◌, inl, inr}
use Rattle.ucd_breaks.specs.GraphemeClusterBreak.{grapheme_cluster_break as class}
use Rattle.ucd_breaks.specs.declared.GraphemeClusterBreak.{GraphemeClusterBreak}
use Rattle.ucd_breaks.specs.declared.GraphemeClusterBreak.TheVariants.{Control, Cr, Extend, Lf, Prepend, RegionalIndicator, Zwj}
use Rattle.ucd_derived.specs.IndicConjunctBreak.{indic_conjunct_break as conjunct}
use Rattle.ucd_derived.specs.declared.IndicConjunctBreak.{IndicConjunctBreak}
use Rattle.ucd_derived.specs.declared.IndicConjunctBreak.TheVariants as InCb
use Rattle.ucd_emoji.specs.Binary.{is_extended_pictographic}
use Rattle.unicode_segmentation.specs.Grapheme.{break_by_pair, ends_in_linker, ends_in_pictograph, ends_in_half_flag, joins_conjunct, joins_emoji, is_consonant, is_extend, is_zwj, is_regional, is_grapheme_break}
use Rattle.nfg_text.specs.Facts.{is_extender, is_control, is_conjunct_extender, is_linker}
use Rattle.nfg_text.proofs.BreakFacts.{conjunct_extenders_extend, linkers_are_no_controls, pictographs_are_no_controls}

-- ---- what a boundary says of the two code points at it

-- a boundary before an extender comes after a control
control_from_pair : (l v : GraphemeClusterBreak) (rest : Bool) → unwrap_or (break_by_pair true l v) rest ≡ true → is_extender v ≡ true → is_control l ≡ true
control_from_pair Control v rest h e = refl
control_from_pair Cr v rest h e = refl
control_from_pair Lf v rest h e = refl
control_from_pair _ Extend rest h e = cc
control_from_pair _ Zwj rest h e = cc
control_from_pair _ _ rest h e = cc

not_regional : (v : GraphemeClusterBreak) → is_control v ≡ true → is_regional v ≡ false
not_regional Control h = refl
not_regional Cr h = refl
not_regional Lf h = refl
not_regional _ h = cc

not_extend : (v : GraphemeClusterBreak) → is_control v ≡ true → is_extend v ≡ false
not_extend Control h = refl
not_extend Cr h = refl
not_extend Lf h = refl
not_extend _ h = cc

extends : (v : GraphemeClusterBreak) → is_extend v ≡ true → is_extender v ≡ true
extends Extend h = refl
extends _ h = cc

joins : (v : GraphemeClusterBreak) → is_zwj v ≡ true → is_extender v ≡ true
joins Zwj h = refl
joins _ h = cc

not_or : (a b half : Bool) → not ((a || b) || (half && true)) ≡ true → half ≡ false
not_or a b false h = refl
not_or true b true h = cc
not_or false true true h = cc
not_or false false true h = cc

-- a boundary before a regional indicator comes after a control, or where no half flag is open
flag_from_pair : (l v : GraphemeClusterBreak) (a b half : Bool) → unwrap_or (break_by_pair true l v) (not ((a || b) || (half && is_regional v))) ≡ true → is_regional v ≡ true → (is_control l ≡ true) ⊎ (half ≡ false)
flag_from_pair Control RegionalIndicator a b half h r = inl refl
flag_from_pair Cr RegionalIndicator a b half h r = inl refl
flag_from_pair Lf RegionalIndicator a b half h r = inl refl
flag_from_pair Prepend RegionalIndicator a b half h r = cc
flag_from_pair _ RegionalIndicator a b half h r = inr (not_or a b half h)
flag_from_pair _ _ a b half h r = cc

-- ---- a control ends every look-back

control_is_no_extender : (v : GraphemeClusterBreak) → is_extender v ≡ true → is_control v ≡ false
control_is_no_extender Extend h = refl
control_is_no_extender Zwj h = refl
control_is_no_extender _ h = cc

linker_after_control : (c : ℕ) (before : List ℕ) → is_control (class c) ≡ true → ends_in_linker (map conjunct (c ∷ before)) ≡ false
unfolding ends_in_linker
linker_after_control c before control =
    by_value (conjunct c) (λ e. let clash = sym control ∙ linkers_are_no_controls c e in cc)
    (λ e. let clash = sym control ∙ control_is_no_extender (class c) (conjunct_extenders_extend c e) in cc)
  where
    by_value : (v : IndicConjunctBreak) → is_linker v ≢ true → is_conjunct_extender v ≢ true → ends_in_linker (v ∷ map conjunct before) ≡ false
    by_value InCb.Linker linker extender = absurd (linker refl)
    by_value InCb.Extend linker extender = absurd (extender refl)
    by_value _ linker extender = refl

pictograph_after_control : (c : ℕ) (before : List ℕ) → is_control (class c) ≡ true → ends_in_pictograph (c ∷ before) ≡ false
unfolding ends_in_pictograph
pictograph_after_control c before h =
    none (is_extended_pictographic c) (is_extend (class c)) (ends_in_pictograph before) (λ e. let clash = sym h ∙ pictographs_are_no_controls c e in cc) (not_extend (class c) h)
  where
    none : (p e b : Bool) → p ≢ true → e ≡ false → (p || (e && b)) ≡ false
    none true e b n f = absurd (n refl)
    none false true b n f = cc
    none false false b n f = refl

flag_after_control : (c : ℕ) (before : List ℕ) → is_control (class c) ≡ true → ends_in_half_flag (c ∷ before) ≡ false
unfolding ends_in_half_flag
flag_after_control c before h = ap (λ b. b && not (ends_in_half_flag before)) (not_regional (class c) h)

-- ---- no rule looks back past a boundary

module _ (b : ℕ) (bs : List ℕ) (y : ℕ) (after : List ℕ) (broken : is_grapheme_break true (b ∷ bs) (y ∷ after) ≡ true) where
  control_from_break : is_extender (class y) ≡ true → is_control (class b) ≡ true
  unfolding is_grapheme_break
  control_from_break e = control_from_pair (class b) (class y) _ broken e

  linker_near : ends_in_linker (map conjunct (y ∷ (b ∷ bs))) ≡ ends_in_linker (map conjunct (y ∷ []))
  unfolding ends_in_linker
  linker_near = near (conjunct y) (λ e. linker_after_control b bs (control_from_break (conjunct_extenders_extend y e)))
    where
      near : (v : IndicConjunctBreak) → (is_conjunct_extender v ≡ true → ends_in_linker (map conjunct (b ∷ bs)) ≡ false) → ends_in_linker (v ∷ map conjunct (b ∷ bs)) ≡ ends_in_linker (v ∷ [])
      near InCb.Linker h = refl
      near InCb.Extend h = h refl
      near _ h = refl

  pictograph_near : ends_in_pictograph (y ∷ (b ∷ bs)) ≡ ends_in_pictograph (y ∷ [])
  unfolding ends_in_pictograph
  pictograph_near =
      near (is_extend (class y)) (λ e. pictograph_after_control b bs (control_from_break (extends (class y) e)))
    where
      near : (e : Bool) → (e ≡ true → ends_in_pictograph (b ∷ bs) ≡ false) → (is_extended_pictographic y || (e && ends_in_pictograph (b ∷ bs))) ≡ (is_extended_pictographic y || (e && ends_in_pictograph []))
      near true h = ap (λ p. is_extended_pictographic y || p) (h refl)
      near false h = refl

  flag_near : ends_in_half_flag (y ∷ (b ∷ bs)) ≡ ends_in_half_flag (y ∷ [])
  unfolding ends_in_half_flag is_grapheme_break
  flag_near = near (is_regional (class y)) (λ r. closed (flag_from_pair (class b) (class y) (true && joins_conjunct (b ∷ bs) y) (joins_emoji (b ∷ bs) y) (ends_in_half_flag (b ∷ bs)) broken r))
    where
      closed : (is_control (class b) ≡ true) ⊎ (ends_in_half_flag (b ∷ bs) ≡ false) → ends_in_half_flag (b ∷ bs) ≡ false
      closed (inl control) = flag_after_control b bs control
      closed (inr half) = half

      near : (r : Bool) → (r ≡ true → ends_in_half_flag (b ∷ bs) ≡ false) → (r && not (ends_in_half_flag (b ∷ bs))) ≡ (r && not (ends_in_half_flag []))
      near true h = ap not (h refl)
      near false h = refl

  linker_forgets : (zs : List ℕ) → ends_in_linker (map conjunct (zs ++ (y ∷ (b ∷ bs)))) ≡ ends_in_linker (map conjunct (zs ++ y ∷ []))
  unfolding ends_in_linker
  linker_forgets [] = linker_near
  linker_forgets (z ∷ zs) = step (conjunct z) (linker_forgets zs)
    where
      step : (v : IndicConjunctBreak) → ends_in_linker (map conjunct (zs ++ (y ∷ (b ∷ bs)))) ≡ ends_in_linker (map conjunct (zs ++ y ∷ [])) → ends_in_linker (v ∷ map conjunct (zs ++ (y ∷ (b ∷ bs)))) ≡ ends_in_linker (v ∷ map conjunct (zs ++ y ∷ []))
      step InCb.Linker h = refl
      step InCb.Extend h = h
      step _ h = refl

  pictograph_forgets : (zs : List ℕ) → ends_in_pictograph (zs ++ (y ∷ (b ∷ bs))) ≡ ends_in_pictograph (zs ++ y ∷ [])
  unfolding ends_in_pictograph
  pictograph_forgets [] = pictograph_near
  pictograph_forgets (z ∷ zs) = ap (λ p. is_extended_pictographic z || (is_extend (class z) && p)) (pictograph_forgets zs)

  flag_forgets : (zs : List ℕ) → ends_in_half_flag (zs ++ (y ∷ (b ∷ bs))) ≡ ends_in_half_flag (zs ++ y ∷ [])
  unfolding ends_in_half_flag
  flag_forgets [] = flag_near
  flag_forgets (z ∷ zs) = ap (λ p. is_regional (class z) && not p) (flag_forgets zs)

  emoji_forgets : (zs : List ℕ) (next : ℕ) → joins_emoji (zs ++ (y ∷ (b ∷ bs))) next ≡ joins_emoji (zs ++ y ∷ []) next
  unfolding ends_in_pictograph
  emoji_forgets [] next = near (is_zwj (class y)) (λ e. pictograph_after_control b bs (control_from_break (joins (class y) e)))
    where
      near : (e : Bool) → (e ≡ true → ends_in_pictograph (b ∷ bs) ≡ false) → (e && ends_in_pictograph (b ∷ bs) && is_extended_pictographic next) ≡ (e && ends_in_pictograph [] && is_extended_pictographic next)
      near true h = ap (λ p. p && is_extended_pictographic next) (h refl)
      near false h = refl
  emoji_forgets (z ∷ zs) next = ap (λ p. is_zwj (class z) && p && is_extended_pictographic next) (pictograph_forgets zs)

  -- after a boundary and a code point, the rules read no further back than that code point
  pub rule_forgets : (zs rest : List ℕ) → is_grapheme_break true (zs ++ (y ∷ (b ∷ bs))) rest ≡ is_grapheme_break true (zs ++ y ∷ []) rest
  unfolding is_grapheme_break
  rule_forgets [] [] = refl
  rule_forgets (z ∷ zs) [] = refl
  rule_forgets [] (next ∷ rest) =
      ap (λ j. unwrap_or (break_by_pair true (class y) (class next)) (not j))
      (ap₂ ◌||◌ (ap₂ ◌||◌ (ap (λ p. p && is_consonant (conjunct next)) linker_near) (emoji_forgets [] next)) (ap (λ p. p && is_regional (class next)) flag_near))
  rule_forgets (z ∷ zs) (next ∷ rest) =
      ap (λ j. unwrap_or (break_by_pair true (class z) (class next)) (not j))
      (ap₂ ◌||◌ (ap₂ ◌||◌ (ap (λ p. p && is_consonant (conjunct next)) (linker_forgets (z ∷ zs))) (emoji_forgets (z ∷ zs) next)) (ap (λ p. p && is_regional (class next)) (flag_forgets (z ∷ zs))))
