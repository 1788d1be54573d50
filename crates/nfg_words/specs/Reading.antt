-- Laws of what is read of a text, by what is known of the code words.
use Rattle.std.proofs.Common.{◌≡◌, ℕ, zero, suc, ◌+◌, ◌/◌, ◌<◌, ◌≤◌, List, Option, Some, None, refl, ap, ◌∙◌, arith}
use Rattle.nfg_words.specs.Layout.{read_codes, text_named, last_of, both_before, start_of, length_of, stop_of}

-- what is known by the first is known by the second
abbrev pub IsKnownBy : (ℕ → Option ℕ) → (ℕ → Option ℕ) → Type 0
IsKnownBy less more = (c word : ℕ) → less c ≡ Some word → more c ≡ Some word

-- a text is the same where its code words are
pub read_codes-same : (codes others : ℕ → Option ℕ) (start count : ℕ)
    → ((c : ℕ) → start ≤ c → c < start + (count + 1) / 2 → others c ≡ codes c) → read_codes others start count ≡ read_codes codes start count
read_codes-same codes others start zero same = refl
read_codes-same codes others start (suc zero) same = ap last_of (same start (omega arith) (omega arith))
read_codes-same codes others start (suc (suc count)) same =
    let here : others start ≡ codes start = same start (omega arith) (omega arith) in
    let rest : read_codes others (suc start) count ≡ read_codes codes (suc start) count =
    read_codes-same codes others (suc start) count (λ c low high. same c (omega arith) (omega arith)) in
    λ i. both_before (here i) (rest i)

pub text_named-same : (codes others : ℕ → Option ℕ) (word : ℕ)
    → ((c : ℕ) → start_of word ≤ c → c < stop_of word → others c ≡ codes c) → text_named others (Some word) ≡ text_named codes (Some word)
text_named-same codes others zero same = refl
text_named-same codes others (suc less) same = read_codes-same codes others (start_of (suc less)) (length_of (suc less)) same

last_of-more : (known more : Option ℕ) (text : List ℕ) → ((word : ℕ) → known ≡ Some word → more ≡ Some word) → last_of known ≡ Some text → last_of more ≡ Some text
last_of-more None more text grows read = absurd cc
last_of-more (Some word) more text grows read = ap last_of (grows word refl) ∙ read

both_before-more : (known more : Option ℕ) (rest others : Option (List ℕ)) (text : List ℕ)
    → ((word : ℕ) → known ≡ Some word → more ≡ Some word) → ((t : List ℕ) → rest ≡ Some t → others ≡ Some t)
    → both_before known rest ≡ Some text → both_before more others ≡ Some text
both_before-more None more rest others text grows goes read = absurd cc
both_before-more (Some word) more None others text grows goes read = absurd cc
both_before-more (Some word) more (Some t) others text grows goes read =
    let here : more ≡ Some word = grows word refl in let after : others ≡ Some t = goes t refl in
    (λ i. both_before (here i) (after i)) ∙ read

-- a text that is read stays so where more is known of its code words
pub read_codes-within : (less more : ℕ → Option ℕ) (start count : ℕ) (text : List ℕ)
    → ((c word : ℕ) → start ≤ c → c < start + (count + 1) / 2 → less c ≡ Some word → more c ≡ Some word)
    → read_codes less start count ≡ Some text → read_codes more start count ≡ Some text
read_codes-within less more start zero text grows read = read
read_codes-within less more start (suc zero) text grows read =
    last_of-more (less start) (more start) text (λ word. grows start word (omega arith) (omega arith)) read
read_codes-within less more start (suc (suc count)) text grows read =
    both_before-more (less start) (more start) (read_codes less (suc start) count) (read_codes more (suc start) count) text
    (λ word. grows start word (omega arith) (omega arith))
    (λ t. read_codes-within less more (suc start) count t (λ c word low high. grows c word (omega arith) (omega arith))) read

pub text_named-within : (less more : ℕ → Option ℕ) (bucket : ℕ) (text : List ℕ)
    → ((c word : ℕ) → start_of bucket ≤ c → c < stop_of bucket → less c ≡ Some word → more c ≡ Some word)
    → text_named less (Some bucket) ≡ Some text → text_named more (Some bucket) ≡ Some text
text_named-within less more zero text grows read = absurd cc
text_named-within less more (suc lower) text grows read = read_codes-within less more (start_of (suc lower)) (length_of (suc lower)) text grows read

pub text_named-more : (less more : ℕ → Option ℕ) (bucket other : Option ℕ) (text : List ℕ) → IsKnownBy less more
    → ((word : ℕ) → bucket ≡ Some word → other ≡ Some word) → text_named less bucket ≡ Some text → text_named more other ≡ Some text
text_named-more less more None other text grows goes read = absurd cc
text_named-more less more (Some word) other text grows goes read =
    ap (text_named more) (goes word refl) ∙ text_named-within less more word text (λ c found low high. grows c found) read
