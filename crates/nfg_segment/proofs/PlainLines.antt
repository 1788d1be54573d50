-- Plain lines.
use Rattle.std.proofs.Common.{◌≡◌, ℕ, zero, suc, ◌+◌, ◌<◌, ◌&&◌, ◌||◌, ◌==◌, nat_le, nat_lt, lt-ltb, if◌then◌else◌, map, Bool, true, false, ◌⊎◌, inl, inr, List, [], ◌∷◌, ◌++◌, length, take, drop, get_or, refl, sym, ap, subst, ◌∙◌, arith, append_assoc, eqb-true, leb-true, reverse}
use Rattle.std.proofs.lemmas.Bool.{and_parts, and_from}
use Rattle.std.proofs.lemmas.List.{take_more}
use Rattle.std.specs.List.{list_all}
use Rattle.nfg_text.specs.Facts.{ArePlainFrom}
use Rattle.nfg_text.specs.Graphemes.{clusters, graphemes_of, starts_safely}
use Rattle.nfg_text.specs.Plain.{is_plain, AllPlain, singles}
use Rattle.nfg_text.proofs.Proved.{plain_runs_are_singles, plain_breaks_before_line_feed, printable_ascii_is_plain, latin_are_plain, punctuation_are_plain, radicals_are_plain, hiragana_are_plain, katakana_are_plain, ideographs_are_plain, syllables_are_plain, full_width_are_plain, graphemes_at_safe_start, graphemes_at_stable, safe_starts_stay, plain_stands_apart}
use Rattle.nfg_text.specs.Grapheme.{is_grapheme_break}
use Rattle.nfg_segment.specs.Given.{Given, with_clusters}
use Rattle.nfg_segment.specs.PlainLines.{is_of_plain_lines, is_of_low_lines, capped, ArePlainLines}
use Rattle.nfg_segment.proofs.Machine.{with_clusters-append}
use Rattle.nfg_segment.proofs.OneCluster.{clusters-single}
use Rattle.nfg_segment.proofs.Stable.{ascii_safe}
use Rattle.nfg_segment.proofs.TextLemmas.{take-part}

-- ---- each is a cluster of its own

pub line_feed_safe : starts_safely 0xA ≡ true
line_feed_safe = ascii_safe 0xA (omega arith)

pub of_lines : (c : ℕ) → is_of_plain_lines c ≡ true → (is_plain c ≡ true) ⊎ (c ≡ 0xA)
of_lines c = by (is_plain c) refl
  where
    by : (b : Bool) → is_plain c ≡ b → (b || (c == 0xA)) ≡ true → (is_plain c ≡ true) ⊎ (c ≡ 0xA)
    by true e h = inl e
    by false e h = inr (eqb-true c 0xA h)

pub graphemes-alone : (c : ℕ) → starts_safely c ≡ true → graphemes_of (c ∷ []) ≡ (c ∷ []) ∷ []
graphemes-alone c safe = ap clusters (safe_starts_stay c safe) ∙ clusters-single c

-- a line feed before anything
pub graphemes-line : (y : List ℕ) → graphemes_of (0xA ∷ y) ≡ (0xA ∷ []) ∷ graphemes_of y
graphemes-line y = graphemes_at_stable (0xA ∷ []) [] y (inr (inl ([], refl))) ∙ ap (λ l. l ++ graphemes_of y) (graphemes-alone 0xA line_feed_safe)

-- two code points that the rules part
pub graphemes-parted : (a b : ℕ) (y : List ℕ) → starts_safely a ≡ true → starts_safely b ≡ true → is_grapheme_break true (a ∷ []) (b ∷ []) ≡ true
    → graphemes_of (a ∷ b ∷ y) ≡ (a ∷ []) ∷ graphemes_of (b ∷ y)
graphemes-parted a b y safe_a safe_b parted =
    let broken = ap (λ l. is_grapheme_break true (reverse l) (b ∷ [])) (safe_starts_stay a safe_a) ∙ parted in
    graphemes_at_safe_start (a ∷ []) b y safe_b broken ∙ ap (λ l. l ++ graphemes_of (b ∷ y)) (graphemes-alone a safe_a)

before_line : (a : ℕ) (y : List ℕ) → is_plain a ≡ true → graphemes_of (a ∷ 0xA ∷ y) ≡ (a ∷ []) ∷ graphemes_of (0xA ∷ y)
before_line a y plain = graphemes-parted a 0xA y (plain_stands_apart a plain).safe line_feed_safe (plain_breaks_before_line_feed a [] [] plain)

pub graphemes-pair : (a b : ℕ) (y : List ℕ) → is_of_plain_lines a ≡ true → is_of_plain_lines b ≡ true → graphemes_of (a ∷ b ∷ y) ≡ (a ∷ []) ∷ graphemes_of (b ∷ y)
graphemes-pair a b y of_a of_b =
    elim (of_lines a of_a) [
      | inr line ↦ subst (λ c. graphemes_of (c ∷ b ∷ y) ≡ (c ∷ []) ∷ graphemes_of (b ∷ y)) (sym line) (graphemes-line (b ∷ y))
      | inl plain ↦
          elim (of_lines b of_b) [
            | inl next ↦ plain_runs_are_singles (a ∷ []) b y (and_from _ _ plain refl) next
            | inr line ↦ subst (λ c. graphemes_of (a ∷ c ∷ y) ≡ (a ∷ []) ∷ graphemes_of (c ∷ y)) (sym line) (before_line a y plain)
          ]
    ]

-- of plain lines, each code point but the last is a cluster of its own
pub plain_lines_are_singles : (lines : List ℕ) (last : ℕ) (y : List ℕ) → ArePlainLines lines → is_of_plain_lines last ≡ true
    → graphemes_of (lines ++ last ∷ y) ≡ singles lines ++ graphemes_of (last ∷ y)
plain_lines_are_singles [] last y all of_last = refl
plain_lines_are_singles (a ∷ []) last y all of_last =
    graphemes-pair a last y (and_parts (is_of_plain_lines a) (list_all is_of_plain_lines []) all).0 of_last
plain_lines_are_singles (a ∷ b ∷ lines) last y all of_last =
    let first = and_parts (is_of_plain_lines a) (list_all is_of_plain_lines (b ∷ lines)) all in
    let second = and_parts (is_of_plain_lines b) (list_all is_of_plain_lines lines) first.1 in
    graphemes-pair a b (lines ++ last ∷ y) first.0 second.0 ∙ ap (λ l. (a ∷ []) ∷ l) (plain_lines_are_singles (b ∷ lines) last y first.1 of_last)

pub singles-append : (x y : List ℕ) → singles (x ++ y) ≡ singles x ++ singles y
singles-append [] y = refl
singles-append (c ∷ x) y = ap (λ l. (c ∷ []) ∷ l) (singles-append x y)

-- they are given in two parts
pub given-lines : (out first second : Given) (x y : List ℕ) → first ≡ with_clusters out (singles x) → second ≡ with_clusters first (singles y) → second ≡ with_clusters out (singles (x ++ y))
given-lines out first second x y one two =
    two ∙ ap (λ o. with_clusters o (singles y)) one ∙ sym (with_clusters-append out (singles x) (singles y)) ∙ ap (with_clusters out) (sym (singles-append x y))

-- where the last is a line feed, that one is too
pub whole_lines_are_singles : (lines y : List ℕ) → ArePlainLines lines → graphemes_of ((lines ++ 0xA ∷ []) ++ y) ≡ singles (lines ++ 0xA ∷ []) ++ graphemes_of y
whole_lines_are_singles lines y all =
    ap graphemes_of (append_assoc lines (0xA ∷ []) y)
    ∙ plain_lines_are_singles lines 0xA y all (line_feed_of_lines (is_plain 0xA))
    ∙ ap (λ l. singles lines ++ l) (graphemes-line y)
    ∙ sym (append_assoc (singles lines) ((0xA ∷ []) ∷ []) (graphemes_of y))
    ∙ ap (λ l. l ++ graphemes_of y) (sym (singles-append lines (0xA ∷ [])))
  where
    line_feed_of_lines : (b : Bool) → (b || true) ≡ true
    line_feed_of_lines true = refl
    line_feed_of_lines false = refl

-- ---- code points of one script, in 16 bits

range_of_lines : (first last c : ℕ) → ArePlainFrom first last → (nat_le first c && nat_le c last) ≡ true → is_of_plain_lines c ≡ true
range_of_lines first last c plain h =
    let parts = and_parts (nat_le first c) (nat_le c last) h in
    ap (λ p. p || (c == 0xA)) (plain c (leb-true first c parts.0) (leb-true c last parts.1))

-- what follows from each of two follows where one of them holds
pub either_so : (a b : Bool) {x : Bool} → (a ≡ true → x ≡ true) → (b ≡ true → x ≡ true) → (a || b) ≡ true → x ≡ true
either_so true b one other h = one refl
either_so false b one other h = other h

low_range : (first last c : ℕ) → ArePlainFrom first last → last < 0xFFFF → (nat_le first c && nat_le c last) ≡ true → is_of_low_lines c ≡ true
low_range first last c plain low h =
    let parts = and_parts (nat_le first c) (nat_le c last) h in
    and_from _ _ (range_of_lines first last c plain h) (lt-ltb c 0xFFFF (omega (arith, low, leb-true c last parts.1)))

low_line_feed : (c : ℕ) → (c == 0xA) ≡ true → is_of_low_lines c ≡ true
low_line_feed c h = subst (λ x. is_of_low_lines x ≡ true) (sym (eqb-true c 0xA h)) (and_from _ _ (of_line (is_plain 0xA)) refl)
  where
    of_line : (b : Bool) → (b || true) ≡ true
    of_line true = refl
    of_line false = refl

pub ascii_of_lines : (c : ℕ) → (nat_le 0x20 c && nat_le c 0x7E || (c == 0xA)) ≡ true → is_of_low_lines c ≡ true
ascii_of_lines c = either_so _ _ (low_range 0x20 0x7E c printable_ascii_is_plain (omega arith)) (low_line_feed c)

pub letters_of_lines : (c : ℕ)
    → (nat_le 0x20 c && nat_le c 0x7E || (c == 0xA) || (nat_le 0xC0 c && nat_le c 0x2FF) || (nat_le 0x2010 c && nat_le c 0x2027) || (nat_le 0xAC00 c && nat_le c 0xD7A3)) ≡ true
    → is_of_low_lines c ≡ true
letters_of_lines c =
    either_so _ _ (either_so _ _ (either_so _ _ (ascii_of_lines c)
    (low_range 0xC0 0x2FF c latin_are_plain (omega arith))) (low_range 0x2010 0x2027 c punctuation_are_plain (omega arith)))
    (low_range 0xAC00 0xD7A3 c syllables_are_plain (omega arith))

pub east_asian_of_lines : (c : ℕ)
    → (nat_le 0x20 c && nat_le c 0x7E || (c == 0xA) || (nat_le 0x2010 c && nat_le c 0x2027) || (nat_le 0x2E00 c && nat_le c 0x3029) || (nat_le 0x303E c && nat_le c 0x3098)
    || (nat_le 0x309B c && nat_le c 0x3296) || (nat_le 0x329A c && nat_le c 0xA66E) || (nat_le 0xAC00 c && nat_le c 0xD7A3) || (nat_le 0xFF00 c && nat_le c 0xFF9D)) ≡ true
    → is_of_low_lines c ≡ true
east_asian_of_lines c =
    either_so _ _ (either_so _ _ (either_so _ _ (either_so _ _ (either_so _ _ (either_so _ _ (either_so _ _ (ascii_of_lines c)
    (low_range 0x2010 0x2027 c punctuation_are_plain (omega arith))) (low_range 0x2E00 0x3029 c radicals_are_plain (omega arith)))
    (low_range 0x303E 0x3098 c hiragana_are_plain (omega arith))) (low_range 0x309B 0x3296 c katakana_are_plain (omega arith)))
    (low_range 0x329A 0xA66E c ideographs_are_plain (omega arith))) (low_range 0xAC00 0xD7A3 c syllables_are_plain (omega arith)))
    (low_range 0xFF00 0xFF9D c full_width_are_plain (omega arith))

capped-low : (c : ℕ) → is_of_low_lines (capped c) ≡ true → is_of_plain_lines c ≡ true
capped-low c = by (nat_lt c 0xFFFF) refl
  where
    by : (b : Bool) → nat_lt c 0xFFFF ≡ b → is_of_low_lines (if b then c else 0xFFFF) ≡ true → is_of_plain_lines c ≡ true
    by true e h = (and_parts (is_of_plain_lines c) (nat_lt c 0xFFFF) h).0
    by false e h = absurd (cc (and_parts (is_of_plain_lines 0xFFFF) false h).1)

pub capped-lines : (t : List ℕ) → list_all is_of_low_lines (map capped t) ≡ true → ArePlainLines t
capped-lines [] all = refl
capped-lines (c ∷ t) all =
    let parts = and_parts (is_of_low_lines (capped c)) (list_all is_of_low_lines (map capped t)) all in
    and_from _ _ (capped-low c parts.0) (capped-lines t parts.1)

-- ---- parts of plain lines

pub lines-append : (xs ys : List ℕ) → ArePlainLines xs → ArePlainLines ys → ArePlainLines (xs ++ ys)
lines-append [] ys one two = two
lines-append (x ∷ xs) ys one two = let parts = and_parts (is_of_plain_lines x) (list_all is_of_plain_lines xs) one in and_from _ _ parts.0 (lines-append xs ys parts.1 two)

pub lines-plain : (t : List ℕ) → AllPlain t → ArePlainLines t
lines-plain [] all = refl
lines-plain (c ∷ t) all =
    let parts = and_parts (is_plain c) (list_all is_plain t) all in
    and_from _ _ (ap (λ b. b || (c == 0xA)) parts.0) (lines-plain t parts.1)

pub lines-take : (n : ℕ) (t : List ℕ) → ArePlainLines t → ArePlainLines (take n t)
lines-take zero t all = refl
lines-take (suc n) [] all = refl
lines-take (suc n) (c ∷ cs) all = let parts = and_parts (is_of_plain_lines c) (list_all is_of_plain_lines cs) all in and_from _ _ parts.0 (lines-take n cs parts.1)

pub lines-at : (t : List ℕ) (i d : ℕ) → ArePlainLines t → i < length t → is_of_plain_lines (get_or t i d) ≡ true
lines-at [] i d all within = absurd (omega arith)
lines-at (c ∷ cs) zero d all within = (and_parts (is_of_plain_lines c) (list_all is_of_plain_lines cs) all).0
lines-at (c ∷ cs) (suc i) d all within = lines-at cs i d (and_parts (is_of_plain_lines c) (list_all is_of_plain_lines cs) all).1 (omega arith)

-- one code point more
pub lines-more : (t : List ℕ) (i : ℕ) → i < length t → ArePlainLines (take i t) → is_of_plain_lines (get_or t i 0) ≡ true → ArePlainLines (take (i + 1) t)
lines-more t i within all one =
    ap (list_all is_of_plain_lines) (take_more t i 0 within) ∙ lines-append (take i t) (get_or t i 0 ∷ []) all (and_from _ _ one refl)

-- a block more
pub lines-block : (t block : List ℕ) (at n : ℕ) → ArePlainLines (take at t) → ArePlainLines block → block ≡ take n (drop at t) → ArePlainLines (take (at + n) t)
lines-block t block at n all more e =
    ap (list_all is_of_plain_lines) (sym (take-part t at n)) ∙ lines-append (take at t) (take n (drop at t)) all (subst ArePlainLines e more)
