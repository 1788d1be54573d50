-- Which words std's numerals are.
use Rattle.std.proofs.Common.{◌≡◌, ◌≢◌, ℕ, nat_lt, ◌<◌, ◌≤◌, ◌^◌, Bool, true, false, ◌&&◌, List, [], ◌∷◌, length, ⊎_elim, refl, ◌==◌, Err, arith}
use Rattle.std.specs.List.{list_all}
use Rattle.std.specs.Char.{is_ascii_digit, is_ascii_hexdigit, digit_value}
use Rattle.std.specs.Str.Parse.{AllDigits, IsNumeral, digits_value, without_leading_plus}
use Rattle.std.proofs.lemmas.Bool.{cases_lt}
use Rattle.std.proofs.lemmas.Bool.Decides.{nat_tests}
use Rattle.std.proofs.Math.Bool.{and-false}
use Rattle.std.proofs.Math.Nat.{pow-le-pow_right}
use Rattle.std.proofs.lemmas.Int.Digits.{digits_value-lt}
use Rattle.nfg_script.specs.declared.error.Reason.TheVariants.{BadNumber}
use Rattle.nfg_script.specs.Words.{number_of}

pub both : (a b : Bool) → (a && b) ≡ true → (a ≡ true) × (b ≡ true)
both true b e = (refl, e)
both false b e = cc

decimal_digit : (c : ℕ) → is_ascii_digit c ≡ true → digit_value c < 10
decimal_digit c e = grind (arith, nat_tests)

hexadecimal_digit : (c : ℕ) → is_ascii_hexdigit c ≡ true → digit_value c < 16
hexadecimal_digit c e = grind (arith, nat_tests)

digits_from_test : (test : ℕ → Bool) (radix : ℕ) → ((c : ℕ) → test c ≡ true → digit_value c < radix)
    → (word : List ℕ) → list_all test word ≡ true → AllDigits radix word
digits_from_test test radix below [] e = tt
digits_from_test test radix below (c ∷ word) e =
    let parts = both (test c) (list_all test word) e in
    (below c parts.0, digits_from_test test radix below word parts.1)

no_plus : (test : ℕ → Bool) → test 43 ≡ false → (word : List ℕ) → list_all test word ≡ true → without_leading_plus word ≡ word
no_plus test plus [] e = refl
no_plus test plus (c ∷ word) e =
    let parts = both (test c) (list_all test word) e in
    let other : (c == 43) ≡ false = grind (arith, nat_tests) in
    rw other refl

-- digits that are no numeral below 2^64 are no number
pub number_of-none : (word : List ℕ) → length word ≢ 0 → length word ≤ 20 → list_all is_ascii_digit word ≡ true
    → ¬ (IsNumeral 10 (without_leading_plus word) × (digits_value 10 (without_leading_plus word) < 2 ^ 64))
    → Err BadNumber ≡ number_of word
unfolding number_of
number_of-none word some few digits none =
    let same : without_leading_plus word ≡ word = no_plus is_ascii_digit refl word digits in
    let numeral : AllDigits 10 word = digits_from_test is_ascii_digit 10 decimal_digit word digits in
    let large : 2 ^ 64 ≤ digits_value 10 word =
    ⊎_elim (λ (below : digits_value 10 word < 2 ^ 64). absurd (none (rw same ((omega arith, numeral), below)))) (λ above. above)
    (cases_lt (digits_value 10 word) (2 ^ 64)) in
    let e : nat_lt (digits_value 10 word) (2 ^ 64) ≡ false = grind (arith, nat_tests) in
    rw e (simp and-false)

-- digits are always a numeral of 32 bits, where there are at most six
pub six_digits_fit : (word : List ℕ) → length word ≢ 0 → length word ≤ 6 → list_all is_ascii_hexdigit word ≡ true
    → IsNumeral 16 (without_leading_plus word) × (digits_value 16 (without_leading_plus word) < 2 ^ 32)
six_digits_fit word some few digits =
    let same : without_leading_plus word ≡ word = no_plus is_ascii_hexdigit refl word digits in
    let numeral : AllDigits 16 word = digits_from_test is_ascii_hexdigit 16 hexadecimal_digit word digits in
    let below : digits_value 16 word < 16 ^ length word = digits_value-lt 16 word numeral in
    let most : 16 ^ length word ≤ 16 ^ 6 = pow-le-pow_right {n = 16} (omega arith) few in
    rw same ((omega arith, numeral), omega arith)
