-- The table of plain code points holds the bit of each of the first plane.
use Rattle.std.proofs.Common.{◌≡◌, ℕ, ◌+◌, ◌*◌, ◌/◌, ◌%◌, ◌^◌, ◌<◌, ◌≤◌, Bool, true, false, not, ◌&&◌, ◌||◌, ◌==◌, nat_le, [], ◌∷◌, List, refl, sym, ap, ◌∙◌, arith, le-leb, lt-ltb, ltb-true, le-ltb, eqb-true, slice_index, nat_lt, ap₂}
use Rattle.std.proofs.lemmas.Bool.{and_from, and_parts, cond-true}
use Rattle.ucd_breaks.proofs.GraphemeClusterBreakLemmas.{grapheme_cluster_break_stepped}
use Rattle.ucd_derived.proofs.IndicConjunctBreakLemmas.{indic_conjunct_break_stepped}
use Rattle.ucd_emoji.proofs.BinaryLemmas.{is_extended_pictographic_stepped}
use Rattle.ucd_normal.proofs.CanonicalCombiningClassLemmas.{canonical_combining_class_stepped}
use Rattle.ucd_normal.proofs.QuickCheckLemmas.{quick_check_stepped}
use Rattle.ucd_table.specs.Rows.{Range, in_ranges}
use Rattle.ucd_table.specs.Trie.{block_value, trie_value}
use Rattle.ucd_table.proofs.Computing.{tables}
use Rattle.ucd_table.proofs.Facts.{Stepped-always, Stepped-below}
use Rattle.ucd_table.proofs.Stepped.{Stepped, of_ranges, map_stepped, zip_stepped, runs_of}
use Rattle.ucd_table.proofs.StepsLemmas.{rises_from}
use Rattle.ucd_table.proofs.TrieCheck.{trie_value-Stepped, trie_ok, all_below, all_below-at}
use Rattle.nfg_text.specs.declared.plain_table.TheConstants.{PLAIN_WORDS}
use Rattle.nfg_text.specs.Facts.{PrintableAsciiIsPlain, ArePlainFrom}
use Rattle.nfg_text.specs.Graphemes.{starts_safely}
use Rattle.nfg_text.specs.Plain.{is_plain, is_ordinary}
use Rattle.nfg_text.specs.Properties.{bit}
use Rattle.nfg_text.proofs.PropertyFacts.{safe_stepped, ordinary_stepped, safe_ordinary_stepped}

abbrev first_plane : List Range
first_plane = (0, 0xFFFF) ∷ []

-- the words are a trie whose blocks stand in order, with nothing beyond them
abbrev plain_index : List ℕ
plain_index = 0 ∷ 1 ∷ 2 ∷ 3 ∷ 4 ∷ 5 ∷ 6 ∷ 7 ∷ 8 ∷ 9 ∷ 10 ∷ 11 ∷ 12 ∷ 13 ∷ 14 ∷ 15 ∷ []

abbrev plain_tail : List ℕ
plain_tail = 0x8800_0000 ∷ []

abbrev low_plain : ℕ → ℕ
low_plain c = bit (in_ranges first_plane c && (starts_safely c && is_ordinary c))

unfoldable plane_stepped : Stepped (in_ranges first_plane)
unfolding rises_from
plane_stepped = of_ranges first_plane refl

unfoldable low_stepped : Stepped low_plain
unfolding plane_stepped safe_ordinary_stepped
low_stepped =
    map_stepped bit (λ c. in_ranges first_plane c && (starts_safely c && is_ordinary c))
    (zip_stepped ◌&&◌ (in_ranges first_plane) (λ c. starts_safely c && is_ordinary c) plane_stepped safe_ordinary_stepped)

plain_table_ok : trie_ok 1 64 2 plain_index PLAIN_WORDS plain_tail (runs_of low_plain low_stepped) ≡ true
unfolding tables low_stepped plane_stepped safe_stepped ordinary_stepped safe_ordinary_stepped grapheme_cluster_break_stepped indic_conjunct_break_stepped is_extended_pictographic_stepped canonical_combining_class_stepped quick_check_stepped
plain_table_ok = refl

bit_of : (b : Bool) → (bit b == 1) ≡ b
bit_of true = refl
bit_of false = refl

in_first_plane : (c : ℕ) → c < 0x1_0000 → in_ranges first_plane c ≡ true
unfolding in_ranges
in_first_plane c low =
    ap (λ b. b || false) (and_from (nat_le 0 c) (nat_le c 0xFFFF) (le-leb 0 c (omega arith)) (le-leb c 0xFFFF (omega arith)))

low_is_plain : (c : ℕ) → c < 0x1_0000 → (low_plain c == 1) ≡ is_plain c
unfolding is_plain
low_is_plain c low =
    bit_of (in_ranges first_plane c && (starts_safely c && is_ordinary c))
    ∙ ap (λ b. b && (starts_safely c && is_ordinary c)) (in_first_plane c low ∙ sym (lt-ltb c 0x11_0000 (omega arith)))

plain_by_table : (c : ℕ) → c < 0x1_0000 → (trie_value 1 64 plain_index PLAIN_WORDS plain_tail c == 1) ≡ is_plain c
plain_by_table c low =
    ap (λ n. n == 1) (trie_value-Stepped 1 64 2 plain_index PLAIN_WORDS plain_tail low_plain low_stepped plain_table_ok c (omega arith))
    ∙ low_is_plain c low

in_order : all_below (λ k. slice_index plain_index k == k) 16 ≡ true
unfolding all_below
in_order = refl

block_at : (c : ℕ) → c < 0x1_0000 → slice_index plain_index (c / 4096) ≡ c / 4096
block_at c low = eqb-true _ _ (all_below-at (λ k. slice_index plain_index k == k) 16 (c / 4096) in_order (omega (arith, low)))

word_place : (c : ℕ) → (c / 4096) * 64 + (c % 4096) / 64 ≡ c / 64
word_place c = omega arith

bit_place : (c : ℕ) → ((c % 4096) % 64) * 1 ≡ c % 64
bit_place c = omega arith

trie_by_word : (c : ℕ) → c < 0x1_0000 → trie_value 1 64 plain_index PLAIN_WORDS plain_tail c ≡ (slice_index PLAIN_WORDS (c / 64) / 2 ^ (c % 64)) % 2
unfolding trie_value block_value
trie_by_word c low =
    cond-true _ _ _ (lt-ltb (c / 4096) 16 (omega (arith, low)))
    ∙ ap (λ b. block_value 1 64 PLAIN_WORDS b (c % 4096)) (block_at c low)
    ∙ ap₂ (λ p j. (slice_index PLAIN_WORDS p / 2 ^ j) % 2) (word_place c) (bit_place c)

-- the bit of a code point in its word
pub plain_by_word : (c : ℕ) → c < 0x1_0000 → ((slice_index PLAIN_WORDS (c / 64) / 2 ^ (c % 64)) % 2 == 1) ≡ is_plain c
plain_by_word c low = ap (λ n. n == 1) (sym (trie_by_word c low)) ∙ plain_by_table c low

-- ---- printable ASCII

printable_bits : (c : ℕ) → c < 0x7F → (nat_lt c 0x20 || (low_plain c == 1)) ≡ true
unfolding tables low_stepped plane_stepped safe_stepped ordinary_stepped safe_ordinary_stepped grapheme_cluster_break_stepped indic_conjunct_break_stepped is_extended_pictographic_stepped canonical_combining_class_stepped quick_check_stepped rises_from
printable_bits = Stepped-below low_plain low_stepped (λ c v. nat_lt c 0x20 || (v == 1)) 0x7F refl

pub printable_ascii_is_plain : PrintableAsciiIsPlain
printable_ascii_is_plain c from end =
    sym (low_is_plain c (omega (arith, end))) ∙ ap (λ b. b || (low_plain c == 1)) (sym (le-ltb c 0x20 from)) ∙ printable_bits c (omega (arith, end))

-- ---- ranges of letters and their punctuation

abbrev letters : List Range
letters =
    (0xC0, 0x2FF) ∷ (0x2010, 0x2027) ∷ (0x2E00, 0x3029) ∷ (0x303E, 0x3098) ∷ (0x309B, 0x3296) ∷ (0x329A, 0xA66E) ∷ (0xAC00, 0xD7A3) ∷ (0xFF00, 0xFF9D) ∷ []

unfoldable letters_stepped : Stepped (in_ranges letters)
unfolding rises_from
letters_stepped = of_ranges letters refl

letter_bits : (c : ℕ) → c ≤ 0x10_FFFF → (not (in_ranges letters c) || (low_plain c == 1)) ≡ true
unfolding tables low_stepped plane_stepped letters_stepped safe_stepped ordinary_stepped safe_ordinary_stepped grapheme_cluster_break_stepped indic_conjunct_break_stepped is_extended_pictographic_stepped canonical_combining_class_stepped quick_check_stepped rises_from
letter_bits =
    Stepped-always (λ c. not (in_ranges letters c) || (low_plain c == 1))
    (zip_stepped (λ r v. not r || (v == 1)) (in_ranges letters) low_plain letters_stepped low_stepped) refl

or_true : (b : Bool) → (b || true) ≡ true
or_true true = refl
or_true false = refl

-- whether it is one of the ranges
abbrev is_one_of : Range → List Range → Bool
is_one_of r [] = false
is_one_of r (s ∷ rs) = ((r.0 == s.0) && (r.1 == s.1)) || is_one_of r rs

in_first_or : (first last c : ℕ) (s : Range) (rs : List Range) (b : Bool) → ((first == s.0) && (last == s.1)) ≡ b → first ≤ c → c ≤ last
    → (b ≡ false → in_ranges rs c ≡ true) → in_ranges (s ∷ rs) c ≡ true
unfolding in_ranges
in_first_or first last c s rs true e from end others =
    let same = and_parts (first == s.0) (last == s.1) e in
    ap (λ b. b || in_ranges rs c)
    (and_from (nat_le s.0 c) (nat_le c s.1)
    (le-leb s.0 c (omega (arith, eqb-true first s.0 same.0, from))) (le-leb c s.1 (omega (arith, eqb-true last s.1 same.1, end))))
in_first_or first last c s rs false e from end others = ap (λ b. (nat_le s.0 c && nat_le c s.1) || b) (others refl) ∙ or_true (nat_le s.0 c && nat_le c s.1)

in_one_of : (first last c : ℕ) (rs : List Range) → is_one_of (first, last) rs ≡ true → first ≤ c → c ≤ last → in_ranges rs c ≡ true
in_one_of first last c [] one from end = absurd (cc)
in_one_of first last c (s ∷ rs) one from end =
    let same = (first == s.0) && (last == s.1) in
    in_first_or first last c s rs same refl from end
    (λ other. in_one_of first last c rs (sym (ap (λ b. b || is_one_of (first, last) rs) other) ∙ one) from end)

range_is_plain : (first last : ℕ) → (is_one_of (first, last) letters && nat_lt last 0x1_0000) ≡ true → ArePlainFrom first last
range_is_plain first last one c from end =
    let parts = and_parts (is_one_of (first, last) letters) (nat_lt last 0x1_0000) one in
    let low : c < 0x1_0000 = omega (arith, end, ltb-true last 0x1_0000 parts.1) in
    sym (low_is_plain c low)
    ∙ ap (λ r. not r || (low_plain c == 1)) (sym (in_one_of first last c letters parts.0 from end))
    ∙ letter_bits c (omega (arith, low))

pub latin_are_plain : ArePlainFrom 0xC0 0x2FF
latin_are_plain = range_is_plain 0xC0 0x2FF refl

pub punctuation_are_plain : ArePlainFrom 0x2010 0x2027
punctuation_are_plain = range_is_plain 0x2010 0x2027 refl

pub radicals_are_plain : ArePlainFrom 0x2E00 0x3029
radicals_are_plain = range_is_plain 0x2E00 0x3029 refl

pub hiragana_are_plain : ArePlainFrom 0x303E 0x3098
hiragana_are_plain = range_is_plain 0x303E 0x3098 refl

pub katakana_are_plain : ArePlainFrom 0x309B 0x3296
katakana_are_plain = range_is_plain 0x309B 0x3296 refl

pub ideographs_are_plain : ArePlainFrom 0x329A 0xA66E
ideographs_are_plain = range_is_plain 0x329A 0xA66E refl

pub syllables_are_plain : ArePlainFrom 0xAC00 0xD7A3
syllables_are_plain = range_is_plain 0xAC00 0xD7A3 refl

pub full_width_are_plain : ArePlainFrom 0xFF00 0xFF9D
full_width_are_plain = range_is_plain 0xFF00 0xFF9D refl
