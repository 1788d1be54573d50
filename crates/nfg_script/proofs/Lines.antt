-- The lines of a script are counted.
use Rattle.std.proofs.Common.{◌≡◌, ◌≢◌, ℕ, zero, suc, ◌+◌, ◌-◌, ◌<◌, ◌==◌, Bool, true, false, cond, List, [], ◌∷◌, ◌++◌, length, take, drop, get_or, slice_get, slice_index, Some, None, count_by, refl, sym, ap, ◌∙◌, arith, drop-cons}
use Rattle.std.specs.List.{slice_split, onto_first}
use Rattle.std.specs.Str.Lines.{strip_carriage_return}
use Rattle.std.proofs.lemmas.List.{length-map, drop_all, take-append-drop}
use Rattle.std.proofs.lemmas.Option.{slice_get-get_or, slice_get_within}
use Rattle.std.proofs.lemmas.Bool.{eqb-true}
use Rattle.std.proofs.lemmas.List.Sums.{sum_by-cons}
use Rattle.std.proofs.lemmas.List.Splits.{length-slice_split}
use Rattle.std.proofs.lemmas.Bool.Decides.{nat_tests}
use Rattle.nfg_script.specs.Grammar.{without_empty_end, lines_of}

abbrev is_feed : ℕ → Bool
is_feed b = b == 10

first_empty : (parts : List (List ℕ)) → 0 < length parts
    → length (without_empty_end ([] ∷ parts)) ≡ 1 + length (without_empty_end parts)
first_empty [] some = absurd (omega arith)
first_empty (part ∷ parts) some = omega arith

pub not_empty : (x : ℕ) (part : List ℕ) → (length (x ∷ part) == 0) ≡ false
not_empty x part = grind (arith, nat_tests)

-- parts of which the first isn't empty
longer_some : (x : ℕ) (parts : List (List ℕ)) → 0 < length parts → 0 < length (without_empty_end (onto_first x parts))
longer_some x [] some = absurd (omega arith)
longer_some x (part ∷ []) some = rw (not_empty x part) (omega arith)
longer_some x (part ∷ next ∷ parts) some = omega arith

end_some : (part : List ℕ) (b : Bool) → 0 < length (cond b [] (part ∷ [])) → length (cond b [] (part ∷ [])) ≡ 1
end_some part true some = absurd (omega arith)
end_some part false some = refl

longer_same : (x : ℕ) (parts : List (List ℕ)) → 0 < length (without_empty_end parts)
    → length (without_empty_end (onto_first x parts)) ≡ length (without_empty_end parts)
longer_same x [] some = absurd (omega arith)
longer_same x (part ∷ []) some = rw (not_empty x part) (sym (end_some part (length part == 0) some))
longer_same x (part ∷ next ∷ parts) some = refl

some_parts : (bytes : List ℕ) → 0 < length (slice_split is_feed bytes)
some_parts bytes = omega (arith, length-slice_split is_feed bytes)

some_line : (x : ℕ) (bytes : List ℕ) → 0 < length (without_empty_end (slice_split is_feed (x ∷ bytes)))
some_line x bytes = at_first (is_feed x) where
  at_first : (b : Bool) → 0 < length (without_empty_end (cond b ([] ∷ slice_split is_feed bytes) (onto_first x (slice_split is_feed bytes))))
  at_first true = omega (arith, first_empty (slice_split is_feed bytes) (some_parts bytes))
  at_first false = longer_some x (slice_split is_feed bytes) (some_parts bytes)

-- one more byte before some others
one_before : (x : ℕ) (bytes : List ℕ) (b : Bool) (n : ℕ) → 0 < length (without_empty_end (slice_split is_feed bytes))
    → length (without_empty_end (slice_split is_feed bytes)) ≡ n
    → length (without_empty_end (cond b ([] ∷ slice_split is_feed bytes) (onto_first x (slice_split is_feed bytes)))) ≡ cond b 1 0 + n
one_before x bytes true n some e = omega (arith, first_empty (slice_split is_feed bytes) (some_parts bytes), e)
one_before x bytes false n some e = omega (arith, longer_same x (slice_split is_feed bytes) some, e)

-- one byte alone, which is a line feed or not
alone : (x : ℕ) (a b : Bool) → a ≡ b
    → length (without_empty_end (cond a ([] ∷ [] ∷ []) ((x ∷ []) ∷ []))) ≡ (0 + cond a 1 0) + cond b 0 1
alone x true true e = omega arith
alone x false false e = omega arith
alone x true false e = cc
alone x false true e = cc

parts_counted : (bytes : List ℕ) (k last : ℕ) → length bytes ≡ suc k → slice_get bytes k ≡ Some last
    → length (without_empty_end (slice_split is_feed bytes)) ≡ count_by is_feed bytes + cond (is_feed last) 0 1
parts_counted [] k last l e = absurd (omega arith)
parts_counted (x ∷ []) zero last l e = alone x (is_feed x) (is_feed last) (let same : x ≡ last = cc in ap is_feed same)
parts_counted (x ∷ []) (suc k) last l e = absurd (omega arith)
parts_counted (x ∷ y ∷ bytes) zero last l e = absurd (omega arith)
parts_counted (x ∷ y ∷ bytes) (suc k) last l e =
    let rest = parts_counted (y ∷ bytes) k last (omega arith) e in
    let whole = sum_by-cons (λ b. cond (is_feed b) 1 0) x (y ∷ bytes) in
    let parts = one_before x (y ∷ bytes) (is_feed x) _ (some_line y bytes) rest in
    omega (arith, whole, parts)

-- without a byte there is no line
pub lines-none : (bytes : List ℕ) → slice_get bytes (length bytes - 1) ≡ None → 0 ≡ length (lines_of bytes)
unfolding lines_of
lines-none [] e = refl
lines-none (x ∷ bytes) e =
    let some = slice_get-get_or (x ∷ bytes) (length (x ∷ bytes) - 1) 0 (omega arith) in
    cc

-- one line a line feed, and one more where bytes follow the last one
pub lines-counted : (bytes : List ℕ) (last : ℕ) → slice_get bytes (length bytes - 1) ≡ Some last
    → length (lines_of bytes) ≡ count_by is_feed bytes + cond (is_feed last) 0 1
unfolding lines_of
lines-counted bytes last e =
    let within = slice_get_within bytes (length bytes - 1) last e in
    length-map (without_empty_end (slice_split is_feed bytes)) strip_carriage_return
    ∙ parts_counted bytes (length bytes - 1) last (omega arith) e

-- a line that ends with no carriage return stays
pub strip-none : (line : List ℕ) → ((front : List ℕ) → line ≢ front ++ 13 ∷ []) → line ≡ strip_carriage_return line
strip-none [] none = refl
strip-none (x ∷ xs) none = kept (slice_index (x ∷ xs) (length (x ∷ xs) - 1) == 13) refl where
  kept : (b : Bool) → (slice_index (x ∷ xs) (length (x ∷ xs) - 1) == 13) ≡ b → x ∷ xs ≡ cond b (take (length (x ∷ xs) - 1) (x ∷ xs)) (x ∷ xs)
  kept false e = refl
  kept true e =
      let line = x ∷ xs in
      let n = length line - 1 in
      let last : get_or line n 0 ≡ 13 = eqb-true _ _ e in
      let rest : drop n line ≡ 13 ∷ [] =
      drop-cons line n 0 (omega arith) ∙ ap (λ v. v ∷ drop (suc n) line) last ∙ ap (λ v. 13 ∷ v) (drop_all (suc n) line (omega arith)) in
      absurd (none (take n line) (sym (take-append-drop n line) ∙ ap (λ v. take n line ++ v) rest))
