-- Lemmas on repeated lists.
use Rattle.std.proofs.Common.{◌≡◌, ℕ, zero, suc, ◌+◌, ◌-◌, ◌*◌, ◌≤◌, Bool, true, ◌&&◌, List, [], ◌++◌, length, take, drop, refl, ap, ap₂, sym, ◌∙◌, arith, length-append, length-drop, append_assoc}
use Rattle.std.specs.List.{list_all, repeat}
use Rattle.std.proofs.lemmas.List.{append-nil, drop_all, take_all, take-append-drop}
use Rattle.std.proofs.lemmas.List.Folds.{list_all-append}
use Rattle.std.proofs.Math.Seq.{drop-append-add, take-append-add}

module _ {A : Type 0} where
  pub length-repeat : (n : ℕ) (xs : List A) → length (repeat n xs) ≡ length xs * n
  length-repeat zero xs = omega arith
  length-repeat (suc n) xs =
      let both = length-append xs (repeat n xs) in
      let rest = length-repeat n xs in
      grind arith

  -- more repetitions, one group after the other
  pub repeat-add : (m n : ℕ) (xs : List A) → repeat (m + n) xs ≡ repeat m xs ++ repeat n xs
  repeat-add zero n xs = let same : 0 + n ≡ n = omega arith in rw same refl
  repeat-add (suc m) n xs =
      let more : suc m + n ≡ suc (m + n) = omega arith in
      ap (λ k. repeat k xs) more ∙ ap (λ ys. xs ++ ys) (repeat-add m n xs) ∙ sym (append_assoc xs (repeat m xs) (repeat n xs))

  -- a repetition repeated
  pub repeat-repeat : (m n : ℕ) (xs : List A) → repeat m (repeat n xs) ≡ repeat (n * m) xs
  repeat-repeat zero n xs = let none : n * 0 ≡ 0 = omega arith in rw none refl
  repeat-repeat (suc m) n xs =
      let more : n * suc m ≡ n + n * m = omega arith in
      ap (λ ys. repeat n xs ++ ys) (repeat-repeat m n xs) ∙ sym (repeat-add n (n * m) xs) ∙ ap (λ k. repeat k xs) (sym more)

  -- a list once
  pub repeat-one : (xs : List A) → repeat 1 xs ≡ xs
  repeat-one xs = append-nil xs

  -- what is left after whole repetitions
  pub drop-repeat : (k n : ℕ) (xs : List A) → drop (length xs * k) (repeat n xs) ≡ repeat (n - k) xs
  drop-repeat zero n xs =
      let none : length xs * 0 ≡ 0 = omega arith in
      let all : n - 0 ≡ n = omega arith in
      rw (none, all) refl
  drop-repeat (suc k) zero xs =
      let none : 0 - suc k ≡ 0 = omega arith in
      rw none (drop_all (length xs * suc k) [] (omega arith))
  drop-repeat (suc k) (suc n) xs =
      let one_more : length xs * suc k ≡ length xs + length xs * k = omega arith in
      let one_less : suc n - suc k ≡ n - k = omega arith in
      rw (one_more, one_less) (drop-append-add xs (repeat n xs) (length xs * k) ∙ drop-repeat k n xs)

  -- what stands in the first whole repetitions
  pub take-repeat : (k n : ℕ) (xs : List A) → k ≤ n → take (length xs * k) (repeat n xs) ≡ repeat k xs
  take-repeat zero n xs within = let none : length xs * 0 ≡ 0 = omega arith in rw none refl
  take-repeat (suc k) zero xs within = absurd (omega arith)
  take-repeat (suc k) (suc n) xs within =
      let one_more : length xs * suc k ≡ length xs + length xs * k = omega arith in
      rw one_more (take-append-add xs (repeat n xs) (length xs * k) ∙ ap (λ ys. xs ++ ys) (take-repeat k n xs (omega arith)))

  -- nothing, repeated
  pub repeat-nil : (n : ℕ) → repeat {A = A} n [] ≡ []
  repeat-nil zero = refl
  repeat-nil (suc n) = repeat-nil n

  -- a list at the end of a repetition of it
  pub pushed_again : (list : List A) (n : ℕ) (xs : List A) → (list ++ repeat n xs) ++ xs ≡ list ++ repeat (n + 1) xs
  pushed_again list n xs =
      append_assoc list (repeat n xs) xs
      ∙ ap (λ ys. list ++ ys) (ap (λ ys. repeat n xs ++ ys) (sym (repeat-one xs)) ∙ sym (repeat-add n 1 xs))

  -- what holds of each element holds of each in a repetition
  pub all-repeat : (p : A → Bool) (n : ℕ) (xs : List A) → list_all p xs ≡ true → list_all p (repeat n xs) ≡ true
  all-repeat p zero xs all = refl
  all-repeat p (suc n) xs all = list_all-append p xs (repeat n xs) ∙ ap₂ (λ a b. a && b) all (all-repeat p n xs all)

  -- a front and the rest behind it
  pub front-rest : (n : ℕ) (xs : List A) → n ≤ length xs → take n xs ++ take (length xs - n) (drop n xs) ≡ xs
  front-rest n xs within =
      let behind = length-drop n xs in
      ap (λ ys. take n xs ++ ys) (take_all (length xs - n) (drop n xs) (omega (arith, behind))) ∙ take-append-drop n xs
