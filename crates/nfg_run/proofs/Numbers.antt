-- Which words std's numerals are.
use Rattle.std.proofs.Common.{◌≡◌, ◌≢◌, ℕ, nat_lt, ◌<◌, ◌≤◌, ◌^◌, Bool, true, false, ◌&&◌, List, [], ◌∷◌, length, None, ⊎_elim, refl, ◌==◌, arith}
use Rattle.std.specs.List.{list_all}
use Rattle.std.specs.Char.{is_ascii_digit, digit_value}
use Rattle.std.specs.Str.Parse.{AllDigits, IsNumeral, digits_value, without_leading_plus}
use Rattle.std.proofs.lemmas.Bool.{cases_lt}
use Rattle.std.proofs.lemmas.Bool.Decides.{nat_tests}
use Rattle.std.proofs.Math.Bool.{and-false}
use Rattle.nfg_run.specs.CommandLine.{number_of}

both : (a b : Bool) → (a && b) ≡ true → (a ≡ true) × (b ≡ true)
both true b e = (refl, e)
both false b e = cc

digit_below : (c : ℕ) → is_ascii_digit c ≡ true → digit_value c < 10
digit_below c e = grind (arith, nat_tests)

all_digits : (word : List ℕ) → list_all is_ascii_digit word ≡ true → AllDigits 10 word
all_digits [] e = tt
all_digits (c ∷ word) e =
    let parts = both (is_ascii_digit c) (list_all is_ascii_digit word) e in
    (digit_below c parts.0, all_digits word parts.1)

no_plus : (word : List ℕ) → list_all is_ascii_digit word ≡ true → without_leading_plus word ≡ word
no_plus [] e = refl
no_plus (c ∷ word) e =
    let parts = both (is_ascii_digit c) (list_all is_ascii_digit word) e in
    let other : (c == 43) ≡ false = grind (arith, nat_tests) in
    rw other refl

-- digits that are no numeral below 2^64 are no number
pub number_of-none : (word : List ℕ) → length word ≢ 0 → list_all is_ascii_digit word ≡ true
    → ¬ (IsNumeral 10 (without_leading_plus word) × (digits_value 10 (without_leading_plus word) < 2 ^ 64))
    → None ≡ number_of word
unfolding number_of
number_of-none word some digits none =
    let same : without_leading_plus word ≡ word = no_plus word digits in
    let numeral : AllDigits 10 word = all_digits word digits in
    let large : 2 ^ 64 ≤ digits_value 10 word =
    ⊎_elim (λ (below : digits_value 10 word < 2 ^ 64). absurd (none (rw same ((omega arith, numeral), below)))) (λ above. above)
    (cases_lt (digits_value 10 word) (2 ^ 64)) in
    let e : nat_lt (digits_value 10 word) (2 ^ 64) ≡ false = grind (arith, nat_tests) in
    rw e (simp and-false)
