-- The places of names, as names come.
use Rattle.std.proofs.Common.{◌≡◌, ℕ, ◌+◌, ◌≤◌, nat_lt, ◌<◌, Bool, true, false, cond, ⊎_elim, List, [], ◌∷◌, ◌++◌, length, Some, None, refl, ◌==◌, arith}
use Rattle.std.specs.Str.{bytes_eq}
use Rattle.std.specs.List.{position_or_len}
use Rattle.std.proofs.lemmas.Bool.{cases_lt, lt-ltb}
use Rattle.std.proofs.lemmas.List.{length-append}
use Rattle.std.proofs.lemmas.List.Sums.{prefix_len-le-length}
use Rattle.std.proofs.lemmas.Bool.Decides.{nat_tests}
use Rattle.std.proofs.lemmas.List.Folds.{position_or_len_push}
use Rattle.std.proofs.lemmas.Slice.Eq.{bytes_eq-Decides}
use Rattle.nfg_script.specs.Words.{place_of}

-- what one more name does to a place: n is the first place that passes before, and b says whether the new name does
place_pushed : (n len : ℕ) (b : Bool) → n ≤ len → (b ≡ true → n ≡ len)
    → cond (nat_lt (cond (n == len) (len + cond b 0 1) n) (len + 1)) (Some (cond (n == len) (len + cond b 0 1) n)) None
    ≡ cond b (Some len) (cond (nat_lt n len) (Some n) None)
place_pushed n len true low same = grind (arith, nat_tests, same refl)
place_pushed n len false low same = grind (arith, nat_tests)

none_past : (n len : ℕ) → cond (nat_lt n len) (Some n) None ≡ None → len ≤ n
none_past n len e = ⊎_elim (λ (l : n < len). let f = rw (lt-ltb n len l) at e in cc) (λ (h : len ≤ n). h) (cases_lt n len)

-- the place of a word, where a new name comes to the others
pub place_of-push : (names : List (List ℕ)) (name word : List ℕ) → place_of names name ≡ None
    → place_of (names ++ name ∷ []) word ≡ cond (bytes_eq name word) (Some (length names)) (place_of names word)
unfolding place_of
place_of-push names name word absent =
    let p = λ (x : List ℕ). bytes_eq x word in
    let low : position_or_len p names ≤ length names = prefix_len-le-length _ names in
    let same : bytes_eq name word ≡ true → position_or_len p names ≡ length names =
    (λ (e : bytes_eq name word ≡ true).
    let equal : name ≡ word = (bytes_eq-Decides name word).0 e in
    let past : length names ≤ position_or_len p names = none_past _ _ (rw (← equal) absent) in
    omega arith) in
    rw (position_or_len_push p names name, length-append names (name ∷ [])) (place_pushed (position_or_len p names) (length names) (bytes_eq name word) low same)

-- no word has a place where there are no names
pub place_of-nil : (word : List ℕ) → place_of [] word ≡ None
unfolding place_of
place_of-nil word = refl
