-- The first long cluster of lists in a row.
use Rattle.std.proofs.Common.{◌≡◌, ℕ, ◌+◌, Bool, true, false, cond, List, [], ◌∷◌, ◌++◌, length, Some, None, Option, refl, sym, ap, ◌∙◌, arith}
use Rattle.std.proofs.lemmas.Iterator.Adapters.{position_from-zero}
use Rattle.std.specs.List.{position_from}
use Rattle.nfg_text.specs.Graphemes.{is_too_long}
use Rattle.nfg_syn.specs.Learned.{first_long}

abbrev long_from : ℕ → List (List ℕ) → Option ℕ
long_from i cs = position_from is_too_long i cs

first_long-from : (cs : List (List ℕ)) → first_long cs ≡ long_from 0 cs
first_long-from cs = position_from-zero is_too_long cs

after_one : (b : Bool) (i : ℕ) (first rest both : Option ℕ) → cond b (Some i) first ≡ None → (first ≡ None → rest ≡ both) → cond b (Some i) rest ≡ both
after_one true i first rest both never more = cc
after_one false i first rest both none more = more none

after-none : (i : ℕ) (xs ys : List (List ℕ)) → long_from i xs ≡ None → long_from i (xs ++ ys) ≡ long_from (i + length xs) ys
after-none i [] ys none = let same : i ≡ i + 0 = omega arith in ap (λ n. long_from n ys) same
after-none i (x ∷ xs) ys none =
    let moved : i + 1 + length xs ≡ i + length (x ∷ xs) = omega arith in
    after_one (is_too_long x) i (long_from (i + 1) xs) (long_from (i + 1) (xs ++ ys)) (long_from (i + length (x ∷ xs)) ys) none
    (λ rest. after-none (i + 1) xs ys rest ∙ ap (λ n. long_from n ys) moved)

shift_none : (b : Bool) (i j : ℕ) (first other : Option ℕ) → cond b (Some i) first ≡ None → (first ≡ None → other ≡ None) → cond b (Some j) other ≡ None
shift_none true i j first other never more = cc
shift_none false i j first other none more = more none

none-shift : (i j : ℕ) (xs : List (List ℕ)) → long_from i xs ≡ None → long_from j xs ≡ None
none-shift i j [] none = refl
none-shift i j (x ∷ xs) none =
    shift_none (is_too_long x) i j (long_from (i + 1) xs) (long_from (j + 1) xs) none (λ rest. none-shift (i + 1) (j + 1) xs rest)

same_place : (i k : ℕ) → Some i ≡ Some k → i ≡ k
same_place i k e = cc

shift_some : (b : Bool) (n i k : ℕ) (first other : Option ℕ) → cond b (Some i) first ≡ Some k → (first ≡ Some k → other ≡ Some (n + k)) → cond b (Some (n + i)) other ≡ Some (n + k)
shift_some true n i k first other found more = ap (λ j. Some (n + j)) (same_place i k found)
shift_some false n i k first other found more = more found

some-shift : (n i k : ℕ) (xs : List (List ℕ)) → long_from i xs ≡ Some k → long_from (n + i) xs ≡ Some (n + k)
some-shift n i k [] found = cc
some-shift n i k (x ∷ xs) found =
    let moved : n + (i + 1) ≡ n + i + 1 = omega arith in
    shift_some (is_too_long x) n i k (long_from (i + 1) xs) (long_from (n + i + 1) xs) found
    (λ rest. ap (λ m. long_from m xs) (sym moved) ∙ some-shift n (i + 1) k xs rest)

front_some : (b : Bool) (i k : ℕ) (first both : Option ℕ) → cond b (Some i) first ≡ Some k → (first ≡ Some k → both ≡ Some k) → cond b (Some i) both ≡ Some k
front_some true i k first both found more = found
front_some false i k first both found more = more found

some-front : (i k : ℕ) (xs ys : List (List ℕ)) → long_from i xs ≡ Some k → long_from i (xs ++ ys) ≡ Some k
some-front i k [] ys found = cc
some-front i k (x ∷ xs) ys found =
    front_some (is_too_long x) i k (long_from (i + 1) xs) (long_from (i + 1) (xs ++ ys)) found (λ rest. some-front (i + 1) k xs ys rest)

-- two lists without one
pub none-long : (xs ys : List (List ℕ)) → first_long xs ≡ None → first_long ys ≡ None → first_long (xs ++ ys) ≡ None
none-long xs ys first second =
    first_long-from (xs ++ ys) ∙ after-none 0 xs ys (sym (first_long-from xs) ∙ first)
    ∙ none-shift 0 (0 + length xs) ys (sym (first_long-from ys) ∙ second)

-- the first one behind a list without one
pub long-behind : (front cs back : List (List ℕ)) (at : ℕ) → first_long front ≡ None → first_long cs ≡ Some at → first_long (front ++ (cs ++ back)) ≡ Some (length front + at)
long-behind front cs back at none found =
    let start : 0 + length front ≡ length front + 0 = omega arith in
    first_long-from (front ++ (cs ++ back)) ∙ after-none 0 front (cs ++ back) (sym (first_long-from front) ∙ none)
    ∙ ap (λ n. long_from n (cs ++ back)) start
    ∙ some-shift (length front) 0 at (cs ++ back) (some-front 0 at cs back (sym (first_long-from cs) ∙ found))
