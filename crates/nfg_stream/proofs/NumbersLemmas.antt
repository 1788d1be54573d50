-- Numbers that fit 8 bits.
use Rattle.std.proofs.Common.{◌≡◌, ℕ, zero, suc, ◌<◌, ◌&&◌, eqb, true, false, List, [], ◌∷◌, ◌++◌, append-nil, length, map, take, ℤ, pos, negsuc, refl, sym, ap, ap₂, ◌∙◌, arith}
use Rattle.std.proofs.lemmas.Bool.{and_parts, both_ways, eqb-true}
use Rattle.std.proofs.lemmas.List.Sums.{AllPass-from_list_all, list_all-from_AllPass}
use Rattle.std.proofs.lemmas.List.Elements.{All-take}
use Rattle.std.proofs.lemmas.List.Folds.{list_all-append}
use Rattle.std.specs.List.{list_all}
use Rattle.nfg_lanes.specs.Lanes.{is_narrow_grapheme}
use Rattle.nfg_stream.specs.Numbers.{AreKept, is_ascii, with_number}

-- a negative number below -1 does not fit
pub never-narrow : (k : ℕ) (ns : List ℤ) → list_all is_narrow_grapheme (negsuc (suc k) ∷ ns) ≡ true → ⊥
never-narrow k ns fit =
    let one = eqb-true (suc k) 0 (and_parts (is_narrow_grapheme (negsuc (suc k))) (list_all is_narrow_grapheme ns) fit).0 in
    omega (arith, one)

-- the first of them
narrow-take : (n : ℕ) (ns : List ℤ) → list_all is_narrow_grapheme ns ≡ true → list_all is_narrow_grapheme (take n ns) ≡ true
narrow-take n ns fit =
    list_all-from_AllPass is_narrow_grapheme (take n ns) (All-take (λ z. is_narrow_grapheme z ≡ true) n ns (AllPass-from_list_all is_narrow_grapheme ns fit))

take-nil : (n : ℕ) (ns : List ℤ) → ns ≡ [] → take n ns ≡ []
take-nil zero ns none = refl
take-nil (suc n) [] none = refl
take-nil (suc n) (x ∷ ns) none = absurd (omega (arith, ap length none))

some-take : (n : ℕ) (ns : List ℤ) → 0 < length (take n ns) → 0 < length ns
some-take zero ns some = absurd (omega (arith, some))
some-take (suc n) [] some = some
some-take (suc n) (x ∷ ns) some = omega arith

pub AreKept-take : (n : ℕ) (narrow wide : List ℤ) → AreKept narrow wide → AreKept (take n narrow) (take n wide)
AreKept-take n narrow wide kept = record {
  fit = narrow-take n narrow kept.fit;
  one = λ some. take-nil n narrow (kept.one (some-take n wide some));
}

-- where the longer clusters have -1, that is the number for them
pub with-same : (ns : List ℤ) → list_all is_narrow_grapheme ns ≡ true → map (with_number (negsuc 0)) ns ≡ ns
with-same [] fit = refl
with-same (pos c ∷ ns) fit = ap (λ l. pos c ∷ l) (with-same ns (and_parts (is_narrow_grapheme (pos c)) (list_all is_narrow_grapheme ns) fit).1)
with-same (negsuc zero ∷ ns) fit = ap (λ l. negsuc 0 ∷ l) (with-same ns (and_parts true (list_all is_narrow_grapheme ns) fit).1)
with-same (negsuc (suc k) ∷ ns) fit = absurd (never-narrow k ns fit)

-- a run of ASCII more
ascii-narrow : (run : List ℕ) → list_all is_ascii run ≡ true → list_all is_narrow_grapheme (map (λ c. pos c) run) ≡ true
ascii-narrow [] ascii = refl
ascii-narrow (c ∷ cs) ascii =
    let parts = and_parts (is_ascii c) (list_all is_ascii cs) ascii in
    ap₂ ◌&&◌ parts.0 (ascii-narrow cs parts.1)

pub AreKept-ascii : (narrow wide new : List ℤ) (run : List ℕ) → AreKept narrow wide → length wide ≡ 0 → list_all is_ascii run ≡ true
    → new ≡ narrow ++ map (λ c. pos c) run → AreKept new wide
AreKept-ascii narrow wide new run kept none ascii e = record {
  fit =
      ap (list_all is_narrow_grapheme) e ∙ list_all-append is_narrow_grapheme narrow (map (λ c. pos c) run)
      ∙ ap₂ ◌&&◌ kept.fit (ascii-narrow run ascii);
  one = λ some. absurd (omega (arith, some, none));
}

-- ---- all numbers, where those of one width are known

nil-length : (ns : List ℤ) → length ns ≡ 0 → ns ≡ []
nil-length [] none = refl
nil-length (x ∷ ns) none = absurd (omega (arith, none))

pub narrow-whole : (narrow wide all : List ℤ) → narrow ++ wide ≡ all → length wide ≡ 0 → narrow ≡ all
narrow-whole narrow wide all e none = sym (ap (λ l. narrow ++ l) (nil-length wide none) ∙ append-nil narrow) ∙ e

pub wide-whole : (narrow wide all : List ℤ) → AreKept narrow wide → narrow ++ wide ≡ all → 0 < length wide → wide ≡ all
wide-whole narrow wide all kept e some = ap (λ l. l ++ wide) (sym (kept.one some)) ∙ e

pub some-length : (n : ℕ) → eqb n 0 ≡ false → 0 < n
some-length zero e = absurd (both_ways (eqb 0 0) e refl)
some-length (suc n) e = omega arith
