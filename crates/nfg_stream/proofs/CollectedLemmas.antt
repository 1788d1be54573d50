-- Clusters that are kept as numbers.
use Rattle.std.proofs.Common.{◌≡◌, ℕ, zero, suc, ◌+◌, ◌<◌, ◌≤◌, true, List, [], ◌∷◌, ◌++◌, map, length, take, drop, set, get_or, slice_index_or, ℤ, pos, negsuc, refl, sym, ap, ap₂, subst, ◌∙◌, arith, inl, inr, to_z, of_z, w32, lt-ltb}
use Rattle.std.specs.Prelude.{T}
use Rattle.std.proofs.lemmas.Bool.{and_parts}
use Rattle.std.proofs.lemmas.List.{map-append, take-map, length-append, get_or-drop, get_or-map}
use Rattle.std.proofs.lemmas.Int.{to_z-of_z}
use Rattle.std.proofs.Math.Facts.{sfits_lit}
use lib.Signed.{mag}
use Rattle.std.specs.Str.{all_scalars}
use lib.Utf8.{scalar, scalar_cases}
use Rattle.nfg_text.specs.Text.{IsText}
use Rattle.nfg_text.specs.Plain.{singles}
use Rattle.nfg_stream.specs.Collected.{kept_as, IsCounted, AreCounted}

-- ---- more of the longer clusters

at-more : (xs ys : List (List ℕ)) (k : ℕ) → k < length xs → slice_index_or (xs ++ ys) k [] ≡ slice_index_or xs k []
at-more [] ys k l = absurd (omega arith)
at-more (x ∷ xs) ys zero l = refl
at-more (x ∷ xs) ys (suc k) l = at-more xs ys k (omega (arith, l))

at-last : (xs : List (List ℕ)) (t : List ℕ) → slice_index_or (xs ++ t ∷ []) (length xs) [] ≡ t
at-last [] t = refl
at-last (x ∷ xs) t = at-last xs t

kept-more : (longer more : List (List ℕ)) (n : ℤ) → IsCounted (length longer) n → kept_as (longer ++ more) n ≡ kept_as longer n
kept-more longer more (pos c) counted = refl
kept-more longer more (negsuc k) counted = at-more longer more k counted

heads-more : (longer more : List (List ℕ)) (ns : List ℤ) → AreCounted (length longer) ns → map (kept_as (longer ++ more)) ns ≡ map (kept_as longer) ns
heads-more longer more [] all = refl
heads-more longer more (n ∷ ns) all = ap₂ ◌∷◌ (kept-more longer more n all.0) (heads-more longer more ns all.1)

IsCounted-more : (count more : ℕ) (n : ℤ) → count ≤ more → IsCounted count n → IsCounted more n
IsCounted-more count more (pos c) h counted = tt
IsCounted-more count more (negsuc k) h counted = omega (arith, h, counted)

AreCounted-more : (count more : ℕ) (ns : List ℤ) → count ≤ more → AreCounted count ns → AreCounted more ns
AreCounted-more count more [] h all = tt
AreCounted-more count more (n ∷ ns) h all = (IsCounted-more count more n h all.0, AreCounted-more count more ns h all.1)

AreCounted-append : (count : ℕ) (ns ms : List ℤ) → AreCounted count ns → AreCounted count ms → AreCounted count (ns ++ ms)
AreCounted-append count [] ms all rest = rest
AreCounted-append count (n ∷ ns) ms all rest = (all.0, AreCounted-append count ns ms all.1 rest)

pub AreCounted-take : (count n : ℕ) (ns : List ℤ) → AreCounted count ns → AreCounted count (take n ns)
AreCounted-take count zero ns all = tt
AreCounted-take count (suc k) [] all = tt
AreCounted-take count (suc k) (n ∷ ns) all = (all.0, AreCounted-take count k ns all.1)

pub IsCounted-at : (count : ℕ) (ns : List ℤ) (k : ℕ) (d : ℤ) → AreCounted count ns → k < length ns → IsCounted count (get_or ns k d)
IsCounted-at count [] k d all h = absurd (omega arith)
IsCounted-at count (n ∷ ns) zero d all h = all.0
IsCounted-at count (n ∷ ns) (suc k) d all h = IsCounted-at count ns k d all.1 (omega (arith, h))

-- ---- after a step

pub heads-known : (longer grown more : List (List ℕ)) (ns : List ℤ) (old : List (List ℕ)) → AreCounted (length longer) ns → grown ≡ longer ++ more → map (kept_as longer) ns ≡ old → map (kept_as grown) ns ≡ old
heads-known longer grown more ns old all e view = ap (λ l. map (kept_as l) ns) e ∙ heads-more longer more ns all ∙ view

pub counted-known : (longer grown more : List (List ℕ)) (ns : List ℤ) → AreCounted (length longer) ns → grown ≡ longer ++ more → AreCounted (length grown) ns
counted-known longer grown more ns all e = AreCounted-more (length longer) (length grown) ns (omega (arith, ap length e, length-append longer more)) all

-- one cluster more
pub heads-pushed : (longer grown more : List (List ℕ)) (ns pushed : List ℤ) (number : ℤ) (head : List ℕ) (old : List (List ℕ)) → AreCounted (length longer) ns → grown ≡ longer ++ more
    → pushed ≡ ns ++ number ∷ [] → kept_as grown number ≡ head → map (kept_as longer) ns ≡ old → map (kept_as grown) pushed ≡ old ++ head ∷ []
heads-pushed longer grown more ns pushed number head old all e p is view =
    ap (map (kept_as grown)) p ∙ map-append (kept_as grown) ns (number ∷ []) ∙ ap₂ (λ l h. l ++ h ∷ []) (heads-known longer grown more ns old all e view) is

pub counted-pushed : (longer grown more : List (List ℕ)) (ns pushed : List ℤ) (number : ℤ) → AreCounted (length longer) ns → grown ≡ longer ++ more → pushed ≡ ns ++ number ∷ []
    → IsCounted (length grown) number → AreCounted (length grown) pushed
counted-pushed longer grown more ns pushed number all e p counted =
    subst (AreCounted (length grown)) (sym p) (AreCounted-append (length grown) ns (number ∷ []) (counted-known longer grown more ns all e) (counted, tt))

-- a run of code points more
codes-heads : (longer : List (List ℕ)) (t : List ℕ) → map (kept_as longer) (map (λ c. pos c) t) ≡ singles t
codes-heads longer [] = refl
codes-heads longer (c ∷ cs) = ap (λ l. (c ∷ []) ∷ l) (codes-heads longer cs)

codes-counted : (count : ℕ) (t : List ℕ) → AreCounted count (map (λ c. pos c) t)
codes-counted count [] = tt
codes-counted count (c ∷ cs) = (tt, codes-counted count cs)

pub heads-run : (longer : List (List ℕ)) (ns pushed : List ℤ) (run : List ℕ) (old : List (List ℕ)) → pushed ≡ ns ++ map (λ c. pos c) run → map (kept_as longer) ns ≡ old → map (kept_as longer) pushed ≡ old ++ singles run
heads-run longer ns pushed run old e view =
    ap (map (kept_as longer)) e ∙ map-append (kept_as longer) ns (map (λ c. pos c) run) ∙ ap₂ ◌++◌ view (codes-heads longer run)

pub counted-run : (count : ℕ) (ns pushed : List ℤ) (run : List ℕ) → pushed ≡ ns ++ map (λ c. pos c) run → AreCounted count ns → AreCounted count pushed
counted-run count ns pushed run e all = subst (AreCounted count) (sym e) (AreCounted-append count ns (map (λ c. pos c) run) all (codes-counted count run))

-- fewer clusters
pub heads-cut : (longer : List (List ℕ)) (ns kept : List ℤ) (n : ℕ) (old : List (List ℕ)) → kept ≡ take n ns → map (kept_as longer) ns ≡ old → map (kept_as longer) kept ≡ take n old
heads-cut longer ns kept n old e view = ap (map (kept_as longer)) e ∙ sym (take-map (kept_as longer) n ns) ∙ ap (take n) view

-- ---- the number of one cluster

pub kept-last : (longer grown : List (List ℕ)) (t : List ℕ) → grown ≡ longer ++ t ∷ [] → kept_as grown (negsuc (length longer)) ≡ t
kept-last longer grown t e = ap (λ l. slice_index_or l (length longer) []) e ∙ at-last longer t

pub kept-one : (longer : List (List ℕ)) (t : List ℕ) (d : ℕ) → length t ≡ 1 → kept_as longer (pos (get_or t 0 d)) ≡ t
kept-one longer [] d one = absurd (omega (arith, one))
kept-one longer (x ∷ []) d one = refl
kept-one longer (x ∷ (y ∷ ys)) d one = absurd (omega (arith, one))

-- a code point fits a number
pub small : (c : ℕ) → scalar c ≡ true → c < 0x8000_0000
small c h =
    elim (scalar_cases c h) [
      | inl low ↦ omega (arith, low)
      | inr high ↦ omega (arith, high.1)
    ]

pub small-at : (t : List ℕ) (k d : ℕ) → IsText t → k < length t → get_or t k d < 0x8000_0000
small-at [] k d text h = absurd (omega arith)
small-at (c ∷ cs) zero d text h = small c (and_parts (scalar c) (all_scalars cs) text).0
small-at (c ∷ cs) (suc k) d text h = small-at cs k d (and_parts (scalar c) (all_scalars cs) text).1 (omega (arith, h))

-- ---- lists that are the same from a place on

pub same_at : (xs ys : List ℤ) (k : ℕ) (d : ℤ) → drop k xs ≡ drop k ys → get_or xs k d ≡ get_or ys k d
same_at xs ys k d e =
    let on : k + 0 ≡ k = omega arith in
    ap (λ i. get_or xs i d) (sym on) ∙ sym (get_or-drop k xs 0 d) ∙ ap (λ l. get_or l 0 d) e ∙ get_or-drop k ys 0 d ∙ ap (λ i. get_or ys i d) on

drop_suc-set : (xs : List ℤ) (k : ℕ) (a : ℤ) → drop (suc k) (set xs k a) ≡ drop (suc k) xs
drop_suc-set [] zero a = refl
drop_suc-set [] (suc k) a = refl
drop_suc-set (x ∷ xs) zero a = refl
drop_suc-set (x ∷ xs) (suc k) a = drop_suc-set xs k a

drop_suc-drop : (xs : List ℤ) (k : ℕ) → drop (suc k) xs ≡ drop 1 (drop k xs)
drop_suc-drop xs zero = refl
drop_suc-drop [] (suc k) = refl
drop_suc-drop (x ∷ xs) (suc k) = drop_suc-drop xs k

pub same_behind : (xs ys : List ℤ) (k : ℕ) (a : ℤ) → drop k xs ≡ drop k ys → drop (k + 1) (set xs k a) ≡ drop (k + 1) ys
same_behind xs ys k a e =
    let on : k + 1 ≡ suc k = omega arith in
    ap (λ i. drop i (set xs k a)) on ∙ drop_suc-set xs k a ∙ drop_suc-drop xs k ∙ ap (drop 1) e ∙ sym (drop_suc-drop ys k) ∙ ap (λ i. drop i ys) (sym on)

-- the cluster of the number at a place
pub kept-at : (longer : List (List ℕ)) (xs ys : List ℤ) (k : ℕ) → drop k xs ≡ drop k ys → k < length ys
    → kept_as longer (get_or xs k (pos 0)) ≡ slice_index_or (map (kept_as longer) ys) k []
kept-at longer xs ys k e h = ap (kept_as longer) (same_at xs ys k (pos 0) e) ∙ sym (get_or-map (kept_as longer) ys k (pos 0) [] h)

-- writing a number and reading it back
pub back : (z : ℤ) → mag z < 0x8000_0000 → to_z w32 (of_z w32 z) ≡ z
back z h = to_z-of_z w32 z (sfits_lit (subst T (sym (lt-ltb (mag z) 0x8000_0000 h)) tt))
