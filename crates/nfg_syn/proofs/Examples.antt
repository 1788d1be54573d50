-- Worked rows: what a table knows that has interned q with a diaeresis, what lists of numbers stand for, and what is learned.
use Rattle.std.proofs.Common.{◌≡◌, ◌≢◌, ℕ, zero, suc, List, [], ◌∷◌, Some, None, pos, negsuc, refl, ap, slice_index, arith}
use Rattle.nfg_syn.specs.Known.{IsInternable, IsRowSize, MapsBesides, Texts, crlf, only_crlf, or_else, text_at}
use Rattle.nfg_syn.specs.KnownLaws.{same_text}
use Rattle.nfg_syn.specs.Learned.{HasLearned, several, first_long}
use Rattle.nfg_syn.specs.LearnedLaws.{HasLearned-known}
use Rattle.nfg_syn.specs.OwnTexts.{known_of, places_of}
use Rattle.nfg_syn.specs.Represents.{Represents, spelling}

-- q and a combining diaeresis, which no code point composes
abbrev q_diaeresis : List ℕ
q_diaeresis = 0x71 ∷ 0x308 ∷ []

-- CR LF is -1, and the text is -2
abbrev known : Texts
known = known_of (q_diaeresis ∷ [])

row_size_16 : IsRowSize 16
row_size_16 = record { exponent = 4; power = refl; at_least_16 = omega arith; at_most_2_20 = omega arith }

row_size_262144 : IsRowSize 262144
row_size_262144 = record { exponent = 18; power = refl; at_least_16 = omega arith; at_most_2_20 = omega arith }

pair_is_internable : IsInternable q_diaeresis
pair_is_internable = record { text = refl; several = omega arith; within_limit = omega arith }

one_code_point_is_not : IsInternable (0x71 ∷ []) → ⊥
one_code_point_is_not is = let several = is.several in absurd (omega arith)

minus_one : text_at known (negsuc 0) ≡ Some crlf
minus_one = refl

minus_two : text_at known (negsuc 1) ≡ Some q_diaeresis
minus_two = refl

minus_three : text_at known (negsuc 2) ≡ None
minus_three = refl

first_place : places_of (q_diaeresis ∷ []) 0 ≡ Some q_diaeresis
first_place = refl

interned : MapsBesides only_crlf (negsuc 1) q_diaeresis known
interned = (refl, λ k other. elim k as (λ k. k ≢ 1 → known k ≡ only_crlf k) [ zero ↦ (λ differ. refl) | suc j ↦ later j ] other) where
  later : (j : ℕ) → suc j ≢ 1 → known (suc j) ≡ only_crlf (suc j)
  later zero differ = absurd (differ refl)
  later (suc j) differ = refl

letter : spelling known (pos 0x71) ≡ Some (0x71 ∷ [])
letter = refl

surrogate : spelling known (pos 0xD800) ≡ None
surrogate = refl

synthetic : spelling known (negsuc 1) ≡ Some q_diaeresis
synthetic = refl

stands_for : Represents known (pos 0x71 ∷ negsuc 1 ∷ negsuc 0 ∷ []) ((0x71 ∷ []) ∷ q_diaeresis ∷ crlf ∷ [])
stands_for = (refl, (refl, (refl, tt)))

too_short : Represents known (pos 0x71 ∷ []) ((0x71 ∷ []) ∷ crlf ∷ []) → ⊥
too_short represents = represents.1

union_keeps_the_first : or_else (known 1) (only_crlf 1) ≡ Some q_diaeresis
union_keeps_the_first = refl

union_takes_the_second : or_else (only_crlf 1) (known 1) ≡ Some q_diaeresis
union_takes_the_second = refl

-- the clusters that need a number
two_of_three : several ((0xE9 ∷ []) ∷ (0xD ∷ 0xA ∷ []) ∷ (0x71 ∷ 0x323 ∷ []) ∷ []) ≡ (0xD ∷ 0xA ∷ []) ∷ (0x71 ∷ 0x323 ∷ []) ∷ []
two_of_three = refl

none_of_one : several ((0xE9 ∷ []) ∷ []) ≡ []
none_of_one = refl

-- none of these is long
none_is_long : first_long ((0xE9 ∷ []) ∷ (0x71 ∷ 0x323 ∷ []) ∷ []) ≡ None
none_is_long = refl

-- CR LF is known already
line_end_is_known : HasLearned only_crlf (crlf ∷ []) only_crlf
line_end_is_known = (negsuc 0, only_crlf, (refl, λ k other. refl), λ k t e. e, λ k. refl)

-- x and a combining diaeresis
abbrev x_diaeresis : List ℕ
x_diaeresis = 0x78 ∷ 0x308 ∷ []

first_same : (a b : ℕ) (s t : List ℕ) → a ∷ s ≡ b ∷ t → a ≡ b
first_same a b s t e = ap (λ l. slice_index l 0) e

-- the text is not known to a pass that knows the other one alone
absent : (m : ℕ) → known_of (x_diaeresis ∷ []) m ≢ Some q_diaeresis
absent zero e = let heads = first_same 0xD 0x71 _ _ (same_text crlf q_diaeresis e) in absurd (omega arith)
absent (suc zero) e = let heads = first_same 0x78 0x71 _ _ (same_text x_diaeresis q_diaeresis e) in absurd (omega arith)
absent (suc (suc m)) e = cc

-- a pass that knows the second text alone, under the number that the first one had, has not learned both
one_number_for_two : HasLearned only_crlf (q_diaeresis ∷ x_diaeresis ∷ []) (known_of (x_diaeresis ∷ [])) → ⊥
one_number_for_two learned =
    let both = HasLearned-known only_crlf (known_of (x_diaeresis ∷ [])) (q_diaeresis ∷ x_diaeresis ∷ []) learned in
    let first = both 0 [] (omega arith) in
    absent first.0 first.1
