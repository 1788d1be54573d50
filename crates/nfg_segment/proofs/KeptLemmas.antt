-- Clusters that are kept in lists of numbers.
use Rattle.std.proofs.Common.{◌≡◌, ℕ, ◌+◌, ◌-◌, ◌<◌, ◌≤◌, zero, suc, Bool, true, false, nat_lt, List, [], ◌∷◌, ◌++◌, map, length, take, drop, get_or, if◌then◌else◌, refl, sym, ap, ap₂, subst, ◌∙◌, arith, append-nil, append_assoc, Option, Some, None, lt-ltb, le-ltb, inl, inr}
use Rattle.std.proofs.lemmas.Bool.{and_parts}
use Rattle.std.proofs.lemmas.List.{map-append, take-map, length-append, drop-append-le, take-append-le, length-drop, drop_at, take_all}
use Rattle.std.specs.List.{slice_index_or}
use Rattle.std.specs.Str.{all_scalars}
use lib.Utf8.{scalar, scalar_cases}
use Rattle.nfg_text.specs.Text.{IsText}
use Rattle.nfg_text.specs.Plain.{singles}
use Rattle.nfg_segment.specs.Given.{Given, first_or, with_clusters}
use Rattle.nfg_segment.specs.Kept.{spanned, AreWithin, head_of, AreCounted}
use Rattle.nfg_segment.specs.declared.texts.Span.{Span}
use Rattle.std.proofs.lemmas.Bool.Decides.{nat_tests}

-- ---- texts

pub AreWithin-at : (len : ℕ) (spans : List Span) (k : ℕ) (d : Span) → AreWithin len spans → k < length spans
    → ((get_or spans k d).start ≤ (get_or spans k d).end) × ((get_or spans k d).end ≤ len)
AreWithin-at len [] k d all h = absurd (omega arith)
AreWithin-at len (s ∷ ss) zero d all h = (all.0, all.1)
AreWithin-at len (s ∷ ss) (suc k) d all h = AreWithin-at len ss k d all.2 (omega arith)

pub AreWithin-more : (len more : ℕ) (spans : List Span) → len ≤ more → AreWithin len spans → AreWithin more spans
AreWithin-more len more [] h all = tt
AreWithin-more len more (s ∷ ss) h all = (all.0, omega (arith, all.1), AreWithin-more len more ss h all.2)

pub AreWithin-push : (len : ℕ) (spans : List Span) (s : Span) → AreWithin len spans → s.start ≤ s.end → s.end ≤ len → AreWithin len (spans ++ s ∷ [])
AreWithin-push len [] s all low high = (low, high, tt)
AreWithin-push len (x ∷ xs) s all low high = (all.0, all.1, AreWithin-push len xs s all.2 low high)

-- the part that a span covers stays where more follows
spanned-more : (codes more : List ℕ) (s : Span) → s.start ≤ s.end → s.end ≤ length codes → spanned (codes ++ more) s ≡ spanned codes s
spanned-more codes more s low high =
    ap (take (s.end - s.start)) (drop-append-le s.start codes more (omega arith))
    ∙ take-append-le (s.end - s.start) (drop s.start codes) more (omega (arith, length-drop s.start codes))

pub texts-more : (codes more : List ℕ) (spans : List Span) → AreWithin (length codes) spans → map (spanned (codes ++ more)) spans ≡ map (spanned codes) spans
texts-more codes more [] all = refl
texts-more codes more (s ∷ ss) all = ap₂ ◌∷◌ (spanned-more codes more s all.0 all.1) (texts-more codes more ss all.2)

-- ---- clusters

-- a number that counts a longer cluster stands for the same where more of these follow
head_of-more : (longer more : List (List ℕ)) (n : ℕ) → n < 0x8000_0000 + length longer → head_of (longer ++ more) n ≡ head_of longer n
head_of-more longer more n h = by (nat_lt n 0x8000_0000) refl
  where
    first : (xs ys : List (List ℕ)) (k : ℕ) → k < length xs → slice_index_or (xs ++ ys) k [] ≡ slice_index_or xs k []
    first [] ys k l = absurd (omega arith)
    first (x ∷ xs) ys zero l = refl
    first (x ∷ xs) ys (suc k) l = first xs ys k (omega arith)

    at_least : (n : ℕ) → nat_lt n 0x8000_0000 ≡ false → n < 0x8000_0000 + length longer → n - 0x8000_0000 < length longer
    at_least n e l = grind (arith, nat_tests, e)

    by : (b : Bool) → nat_lt n 0x8000_0000 ≡ b
        → (if b then n ∷ [] else slice_index_or (longer ++ more) (n - 0x8000_0000) []) ≡ (if b then n ∷ [] else slice_index_or longer (n - 0x8000_0000) [])
    by true e = refl
    by false e = first longer more (n - 0x8000_0000) (at_least n e h)

pub heads-more : (longer more : List (List ℕ)) (ns : List ℕ) → AreCounted (length longer) ns → map (head_of (longer ++ more)) ns ≡ map (head_of longer) ns
heads-more longer more [] all = refl
heads-more longer more (n ∷ ns) all = ap₂ ◌∷◌ (head_of-more longer more n all.0) (heads-more longer more ns all.1)

pub AreCounted-more : (count more : ℕ) (ns : List ℕ) → count ≤ more → AreCounted count ns → AreCounted more ns
AreCounted-more count more [] h all = tt
AreCounted-more count more (n ∷ ns) h all = (omega (arith, all.0), AreCounted-more count more ns h all.1)

pub AreCounted-append : (count : ℕ) (ns ms : List ℕ) → AreCounted count ns → AreCounted count ms → AreCounted count (ns ++ ms)
AreCounted-append count [] ms all rest = rest
AreCounted-append count (n ∷ ns) ms all rest = (all.0, AreCounted-append count ns ms all.1 rest)

pub AreCounted-take : (count n : ℕ) (ns : List ℕ) → AreCounted count ns → AreCounted count (take n ns)
AreCounted-take count zero ns all = tt
AreCounted-take count (suc k) [] all = tt
AreCounted-take count (suc k) (n ∷ ns) all = (all.0, AreCounted-take count k ns all.1)

pub AreCounted-at : (count : ℕ) (ns : List ℕ) (k d : ℕ) → AreCounted count ns → k < length ns → get_or ns k d < 0x8000_0000 + count
AreCounted-at count [] k d all h = absurd (omega arith)
AreCounted-at count (n ∷ ns) zero d all h = all.0
AreCounted-at count (n ∷ ns) (suc k) d all h = AreCounted-at count ns k d all.1 (omega arith)

-- ---- after a step

-- texts after codes that no span covers
pub texts-unspanned : (codes longer more : List ℕ) (spans same : List Span) (old : List (List ℕ)) → AreWithin (length codes) spans → longer ≡ codes ++ more → same ≡ spans
    → map (spanned codes) spans ≡ old → map (spanned longer) same ≡ old
texts-unspanned codes longer more spans same old all e f view = ap₂ (λ l m. map (spanned l) m) e f ∙ texts-more codes more spans all ∙ view

pub within-unspanned : (codes longer more : List ℕ) (spans same : List Span) → AreWithin (length codes) spans → longer ≡ codes ++ more → same ≡ spans → AreWithin (length longer) same
within-unspanned codes longer more spans same all e f =
    subst (AreWithin (length longer)) (sym f) (AreWithin-more (length codes) (length longer) spans (omega (arith, ap length e, length-append codes more)) all)

-- one text more
pub within-pushed : (codes longer text : List ℕ) (spans pushed : List Span) (s : Span) → AreWithin (length codes) spans → longer ≡ codes ++ text
    → s.start ≡ length codes → s.end ≡ length longer → pushed ≡ spans ++ s ∷ [] → AreWithin (length longer) pushed
within-pushed codes longer text spans pushed s all e start end p =
    let size = ap length e ∙ length-append codes text in
    subst (AreWithin (length longer)) (sym p)
    (AreWithin-push (length longer) spans s (AreWithin-more (length codes) (length longer) spans (omega (arith, size)) all) (omega (arith, size, start, end)) (omega (arith, end)))

pub texts-pushed : (codes longer text : List ℕ) (spans pushed : List Span) (s : Span) (old : List (List ℕ)) → AreWithin (length codes) spans → longer ≡ codes ++ text
    → s.start ≡ length codes → s.end ≡ length longer → pushed ≡ spans ++ s ∷ [] → map (spanned codes) spans ≡ old → map (spanned longer) pushed ≡ old ++ text ∷ []
texts-pushed codes longer text spans pushed s old all e start end p view =
    ap₂ (λ l m. map (spanned l) m) e p ∙ map-append (spanned (codes ++ text)) spans (s ∷ [])
    ∙ ap₂ ◌++◌ (texts-more codes text spans all ∙ view) (ap (λ l. l ∷ []) last)
  where
    size : length longer ≡ length codes + length text
    size = ap length e ∙ length-append codes text

    last : spanned (codes ++ text) s ≡ text
    last =
        ap (λ n. take (s.end - n) (drop n (codes ++ text))) start ∙ ap (take (s.end - length codes)) (drop_at codes text (length codes) refl)
        ∙ take_all (s.end - length codes) text (omega (arith, size, end))

-- ---- numbers

pub heads-known : (longer grown more : List (List ℕ)) (ns : List ℕ) (old : List (List ℕ)) → AreCounted (length longer) ns → grown ≡ longer ++ more → map (head_of longer) ns ≡ old → map (head_of grown) ns ≡ old
heads-known longer grown more ns old all e view = ap (λ l. map (head_of l) ns) e ∙ heads-more longer more ns all ∙ view

pub counted-known : (longer grown more : List (List ℕ)) (ns : List ℕ) → AreCounted (length longer) ns → grown ≡ longer ++ more → AreCounted (length grown) ns
counted-known longer grown more ns all e = AreCounted-more (length longer) (length grown) ns (omega (arith, ap length e, length-append longer more)) all

-- a text as numbers
small : (c : ℕ) → scalar c ≡ true → c < 0x8000_0000
small c h =
    elim (scalar_cases c h) [
      | inl low ↦ omega (arith, low)
      | inr high ↦ omega (arith, high.1)
    ]

pub singles-heads : (longer : List (List ℕ)) (t : List ℕ) → IsText t → map (head_of longer) t ≡ singles t
singles-heads longer [] all = refl
singles-heads longer (c ∷ cs) all =
    let parts = and_parts (scalar c) (all_scalars cs) all in
    ap₂ ◌∷◌ (ap (λ b. if b then c ∷ [] else slice_index_or longer (c - 0x8000_0000) []) (lt-ltb c 0x8000_0000 (small c parts.0))) (singles-heads longer cs parts.1)

pub singles-counted : (count : ℕ) (t : List ℕ) → IsText t → AreCounted count t
singles-counted count [] all = tt
singles-counted count (c ∷ cs) all =
    let parts = and_parts (scalar c) (all_scalars cs) all in
    let low = small c parts.0 in
    (omega (arith, low), singles-counted count cs parts.1)

-- a run of code points more
pub heads-run : (longer : List (List ℕ)) (ns pushed run : List ℕ) (old : List (List ℕ)) → IsText run → pushed ≡ ns ++ run → map (head_of longer) ns ≡ old → map (head_of longer) pushed ≡ old ++ singles run
heads-run longer ns pushed run old text e view =
    ap (map (head_of longer)) e ∙ map-append (head_of longer) ns run ∙ ap₂ ◌++◌ view (singles-heads longer run text)

pub counted-run : (count : ℕ) (ns pushed run : List ℕ) → IsText run → pushed ≡ ns ++ run → AreCounted count ns → AreCounted count pushed
counted-run count ns pushed run text e all = subst (AreCounted count) (sym e) (AreCounted-append count ns run all (singles-counted count run text))

abbrev pub given_of : List (List ℕ) → Option ℕ → Given
given_of heads first_long = record { heads = heads; first_long = first_long }

first_or-short : (o : Option ℕ) (here : ℕ) → first_or o false here ≡ o
first_or-short (Some k) here = refl
first_or-short None here = refl

-- what a run of code points adds
pub with_clusters-singles : (heads : List (List ℕ)) (first_long : Option ℕ) (run : List ℕ) → with_clusters (given_of heads first_long) (singles run) ≡ given_of (heads ++ singles run) first_long
with_clusters-singles heads first_long [] = ap (λ l. given_of l first_long) (sym (append-nil heads))
with_clusters-singles heads first_long (c ∷ cs) =
    ap (λ o. with_clusters (given_of (heads ++ (c ∷ []) ∷ []) o) (singles cs))
    (ap (λ b. first_or first_long b (length heads)) (le-ltb 1024 1 (omega arith)) ∙ first_or-short first_long (length heads))
    ∙ with_clusters-singles (heads ++ (c ∷ []) ∷ []) first_long cs
    ∙ ap (λ l. given_of l first_long) (append_assoc heads ((c ∷ []) ∷ []) (singles cs))

-- one cluster more
pub heads-pushed : (longer grown more : List (List ℕ)) (ns pushed : List ℕ) (number : ℕ) (head : List ℕ) (old : List (List ℕ)) → AreCounted (length longer) ns → grown ≡ longer ++ more
    → pushed ≡ ns ++ number ∷ [] → head_of grown number ≡ head → map (head_of longer) ns ≡ old → map (head_of grown) pushed ≡ old ++ head ∷ []
heads-pushed longer grown more ns pushed number head old all e p is view =
    ap (map (head_of grown)) p ∙ map-append (head_of grown) ns (number ∷ []) ∙ ap₂ (λ l h. l ++ h ∷ []) (heads-known longer grown more ns old all e view) is

pub counted-pushed : (longer grown more : List (List ℕ)) (ns pushed : List ℕ) (number : ℕ) → AreCounted (length longer) ns → grown ≡ longer ++ more → pushed ≡ ns ++ number ∷ []
    → number < 0x8000_0000 + length grown → AreCounted (length grown) pushed
counted-pushed longer grown more ns pushed number all e p low =
    subst (AreCounted (length grown)) (sym p) (AreCounted-append (length grown) ns (number ∷ []) (counted-known longer grown more ns all e) (low, tt))

-- fewer clusters
pub heads-cut : (longer : List (List ℕ)) (ns kept : List ℕ) (n : ℕ) (old : List (List ℕ)) → kept ≡ take n ns → map (head_of longer) ns ≡ old → map (head_of longer) kept ≡ take n old
heads-cut longer ns kept n old e view = ap (map (head_of longer)) e ∙ sym (take-map (head_of longer) n ns) ∙ ap (take n) view

-- the last of the longer clusters
pub head_of-last : (longer : List (List ℕ)) (text : List ℕ) (number : ℕ) → number ≡ 0x8000_0000 + length longer → head_of (longer ++ text ∷ []) number ≡ text
head_of-last longer text number e =
    ap (λ b. if b then number ∷ [] else slice_index_or (longer ++ text ∷ []) (number - 0x8000_0000) []) (le-ltb number 0x8000_0000 (omega (arith, e)))
    ∙ ap (λ k. slice_index_or (longer ++ text ∷ []) k []) (rest number e) ∙ last longer
  where
    rest : (n : ℕ) → n ≡ 0x8000_0000 + length longer → n - 0x8000_0000 ≡ length longer
    rest n at = omega (arith, at)

    last : (l : List (List ℕ)) → slice_index_or (l ++ text ∷ []) (length l) [] ≡ text
    last [] = refl
    last (x ∷ xs) = last xs

pub head_of-single : (longer : List (List ℕ)) (text : List ℕ) (c d : ℕ) → length text ≡ 1 → c ≡ get_or text 0 d → c < 0x8000_0000 → head_of longer c ≡ text
head_of-single longer [] c d one at low = absurd (omega (arith, one))
head_of-single longer (x ∷ []) c d one at low =
    ap (λ b. if b then c ∷ [] else slice_index_or longer (c - 0x8000_0000) []) (lt-ltb c 0x8000_0000 low) ∙ ap (λ y. y ∷ []) at
head_of-single longer (x ∷ (y ∷ ys)) c d one at low = absurd (omega (arith, one))
