-- The marks of a text tell where its clusters end.
use Rattle.std.proofs.Common.{◌≡◌, ◌≢◌, ℕ, zero, suc, ◌+◌, ◌<◌, ◌≤◌, Bool, true, false, ◌==◌, List, [], ◌∷◌, ◌++◌, length, take, set, if◌then◌else◌, refl, sym, ap, ◌∙◌, arith, append-nil, append_assoc}
use Rattle.std.proofs.lemmas.List.{take_more_set, take-set}
use Rattle.unicode_segmentation.specs.Grapheme.{is_grapheme_break}
use Rattle.unicode_segmentation.specs.Segments.{cut, prepend}
use Rattle.nfg_text.specs.Graphemes.{ends_from}
use Rattle.nfg_text.specs.Properties.{bit}
use Rattle.nfg_passes.specs.Marks.{marks_after, ends_from_marks, MarksTellEnds}
use mir.Val.{bool_byte}

abbrev parts : List ℕ → List ℕ → List (List ℕ)
parts before t = cut (is_grapheme_break true) before t []

-- a code point before the first part, or a part of its own
abbrev with_first : Bool → ℕ → List (List ℕ) → List (List ℕ)
with_first broken c rest = if broken then (c ∷ []) ∷ rest else prepend (c ∷ []) rest

parts-last : (before : List ℕ) (c : ℕ) → parts before (c ∷ []) ≡ (c ∷ []) ∷ []
unfolding cut is_grapheme_break
parts-last before c = refl

parts-cons : (before : List ℕ) (c d : ℕ) (rest : List ℕ) → parts before (c ∷ (d ∷ rest)) ≡ with_first (is_grapheme_break true (c ∷ before) (d ∷ rest)) c (parts (c ∷ before) (d ∷ rest))
unfolding cut
parts-cons before c d rest =
    ap (λ l. with_first (is_grapheme_break true (c ∷ before) l) c (parts (c ∷ before) (d ∷ rest))) (append-nil (d ∷ rest))

with_first-some : (broken : Bool) (c : ℕ) (rest : List (List ℕ)) → with_first broken c rest ≢ []
with_first-some true c rest e = cc
with_first-some false c [] e = cc
with_first-some false c (part ∷ rest) e = cc

parts-some : (before : List ℕ) (c : ℕ) (rest : List ℕ) → parts before (c ∷ rest) ≢ []
parts-some before c [] e = let clash = sym (parts-last before c) ∙ e in cc
parts-some before c (d ∷ rest) e =
    with_first-some (is_grapheme_break true (c ∷ before) (d ∷ rest)) c (parts (c ∷ before) (d ∷ rest)) (sym (parts-cons before c d rest) ∙ e)

ends-prepend : (at c : ℕ) (rest : List (List ℕ)) → rest ≢ [] → ends_from at (prepend (c ∷ []) rest) ≡ ends_from (suc at) rest
ends-prepend at c [] some = absurd (some refl)
ends-prepend at c (part ∷ rest) some =
    let one_on : at + length (c ∷ part) ≡ suc at + length part = omega arith in ap (λ n. n ∷ ends_from n rest) one_on

ends-one : (at c : ℕ) (rest : List (List ℕ)) → ends_from at ((c ∷ []) ∷ rest) ≡ suc at ∷ ends_from (suc at) rest
ends-one at c rest = let one_on : at + length (c ∷ []) ≡ suc at = omega arith in ap (λ n. n ∷ ends_from n rest) one_on

ends_by_marks : (at : ℕ) (before : List ℕ) (c : ℕ) (rest : List ℕ) → ends_from at (parts before (c ∷ rest)) ≡ ends_from_marks (suc at) (marks_after (c ∷ before) rest)
unfolding ends_from_marks marks_after
ends_by_marks at before c [] = ap (ends_from at) (parts-last before c) ∙ ends-one at c []
ends_by_marks at before c (d ∷ rest) =
    ap (ends_from at) (parts-cons before c d rest)
    ∙ by_mark (is_grapheme_break true (c ∷ before) (d ∷ rest)) (parts (c ∷ before) (d ∷ rest)) (ends_from_marks (suc (suc at)) (marks_after (d ∷ (c ∷ before)) rest))
    (parts-some (c ∷ before) d rest) (ends_by_marks (suc at) (c ∷ before) d rest)
  where
    by_mark : (broken : Bool) (ps : List (List ℕ)) (ends : List ℕ) → ps ≢ [] → ends_from (suc at) ps ≡ ends → ends_from at (with_first broken c ps) ≡ (if bit broken == 1 then suc at ∷ ends else ends)
    by_mark true ps ends some later = ends-one at c ps ∙ ap (λ l. suc at ∷ l) later
    by_mark false ps ends some later = ends-prepend at c ps some ∙ later

pub marks_tell_ends : MarksTellEnds
unfolding cut marks_after
marks_tell_ends [] = refl
marks_tell_ends (c ∷ rest) = sym (ends_by_marks 0 [] c rest)

-- ---- the ends, written one by one: each place is stored, and counts where its mark is set

pub ends_step : (ends rest whole : List ℕ) (count next at : ℕ) (broken : Bool) → count < length ends
    → next ≡ (if broken then count + 1 else count)
    → take count ends ++ (if broken then at ∷ rest else rest) ≡ whole → take next (set ends count at) ++ rest ≡ whole
ends_step ends rest whole count next at true inside counted so_far =
    ap (λ n. take n (set ends count at) ++ rest) counted ∙ ap (λ l. l ++ rest) (take_more_set ends count at inside)
    ∙ append_assoc (take count ends) (at ∷ []) rest ∙ so_far
ends_step ends rest whole count next at false inside counted so_far =
    ap (λ n. take n (set ends count at) ++ rest) counted ∙ ap (λ l. l ++ rest) (take-set ends count at) ∙ so_far

pub ends_from_marks-cons : (at mark : ℕ) (marks : List ℕ) → ends_from_marks at (mark ∷ marks) ≡ (let rest = ends_from_marks (at + 1) marks in if mark == 1 then at ∷ rest else rest)
unfolding ends_from_marks
ends_from_marks-cons at mark marks = let same : suc at ≡ at + 1 = omega arith in ap (λ n. let rest = ends_from_marks n marks in if mark == 1 then at ∷ rest else rest) same

pub ends_from_marks-nil : (at : ℕ) → ends_from_marks at [] ≡ at ∷ []
unfolding ends_from_marks
ends_from_marks-nil at = refl

-- a place counts where its mark is set
pub counts : (count : ℕ) (broken : Bool) → count + bool_byte broken ≡ (if broken then count + 1 else count)
counts count true = refl
counts count false = omega arith

pub byte-le : (broken : Bool) → bool_byte broken ≤ 1
byte-le true = omega arith
byte-le false = omega arith

pub not_empty : (n : ℕ) → (n == 0) ≡ false → 0 < n
not_empty zero none = cc
not_empty (suc n) some = omega arith
