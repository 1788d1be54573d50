-- Cutting at spaces and then at tabs is cutting at blanks.
use Rattle.std.proofs.Common.{◌≡◌, ◌<◌, Bool, true, false, cond, List, [], ◌∷◌, ◌++◌, length, refl, ap, ◌∙◌, ◌||◌, arith}
use Rattle.std.specs.List.{slice_split, flat_map, onto_first}
use Rattle.std.proofs.lemmas.List.Splits.{length-slice_split}

onto_first-append : {X : Type 0} (x : X) (parts more : List (List X)) → 0 < length parts → onto_first x parts ++ more ≡ onto_first x (parts ++ more)
onto_first-append x [] more some = absurd (omega arith)
onto_first-append x (part ∷ parts) more some = refl

module _ {X : Type 0} (p q : X → Bool) where
  some_parts : (r : X → Bool) (xs : List X) → 0 < length (slice_split r xs)
  some_parts r xs = omega (arith, length-slice_split r xs)

  -- of parts, where the first has x before it, cut again
  first_cut : (x : X) (b : Bool) → q x ≡ b → (parts : List (List X)) → 0 < length parts
      → flat_map (slice_split q) (onto_first x parts)
      ≡ cond b ([] ∷ flat_map (slice_split q) parts) (onto_first x (flat_map (slice_split q) parts))
  first_cut x b e [] some = absurd (omega arith)
  first_cut x true e (part ∷ parts) some = rw e refl
  first_cut x false e (part ∷ parts) some = rw e (onto_first-append x (slice_split q part) (flat_map (slice_split q) parts) (some_parts q part))

  cut_at : (x : X) (xs : List X) (a b : Bool) → p x ≡ a → q x ≡ b
      → flat_map (slice_split q) (slice_split p xs) ≡ slice_split (λ y. p y || q y) xs
      → flat_map (slice_split q) (slice_split p (x ∷ xs)) ≡ slice_split (λ y. p y || q y) (x ∷ xs)
  cut_at x xs true b e f rest = rw e (ap (λ v. [] ∷ v) rest)
  cut_at x xs false true e f rest = rw (e, f) (first_cut x true f (slice_split p xs) (some_parts p xs) ∙ ap (λ v. [] ∷ v) rest)
  cut_at x xs false false e f rest = rw (e, f) (first_cut x false f (slice_split p xs) (some_parts p xs) ∙ ap (onto_first x) rest)

  -- the parts at q of the parts at p
  pub both_cuts : (xs : List X) → flat_map (slice_split q) (slice_split p xs) ≡ slice_split (λ x. p x || q x) xs
  both_cuts [] = refl
  both_cuts (x ∷ xs) = cut_at x xs (p x) (q x) refl refl (both_cuts xs)
