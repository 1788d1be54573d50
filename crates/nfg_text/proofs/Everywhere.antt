-- A test that passes at every number, shown by a computation over the steps of a property.
use Rattle.std.proofs.Common.{◌≡◌, ℕ, Bool, true, false, not, ◌&&◌, ◌||◌, refl}
use Rattle.std.proofs.lemmas.Bool.{true_from_ne_false}
use Rattle.ucd_table.proofs.RangedFacts.{points_ok, Stepped-at_points}
use Rattle.ucd_table.proofs.Stepped.{Stepped}

-- the test passes by default and at each code point of each step
unfoldable pub always : (test : ℕ → Bool) → Stepped test → Bool
unfolding points_ok
always test stepped = stepped.default && points_ok (λ passed. passed) (λ _ _. false) 0 stepped.steps

pub at_all : (test : ℕ → Bool) (stepped : Stepped test) → always test stepped ≡ true → (c : ℕ) → test c ≡ true
unfolding always
at_all test stepped computed c =
    true_from_ne_false (test c) (λ failed. let clash : false ≡ true = Stepped-at_points test stepped (λ passed. passed) (λ _ _. false) computed c failed in cc)

-- what such a test says, where it is an implication
pub implied : (a b : Bool) → (not a || b) ≡ true → a ≡ true → b ≡ true
implied true b test holds = test
implied false b test holds = cc

pub excluded : (a b : Bool) → (not a || not b) ≡ true → a ≡ true → b ≡ false
excluded true false test holds = refl
excluded true true test holds = cc
excluded false b test holds = cc

pub otherwise : (a b : Bool) → (a || b) ≡ true → a ≡ false → b ≡ true
otherwise false b test fails = test
otherwise true b test fails = cc
