-- The order of numbers, and that order turned round, are orders.
use Rattle.std.proofs.Common.{◌≢◌, ℤ, Bool, true, false, refl}
use Rattle.std.specs.Cmp.{int_chain}
use Rattle.std.specs.Int.Signed.{<ℤ_irrefl}
use Rattle.nfg_ops.specs.Precedes.{Precedes}

pub precedes-irrefl : (turned : Bool) (a : ℤ) → Precedes turned a a → ⊥
precedes-irrefl false a less = <ℤ_irrefl less
precedes-irrefl true a less = <ℤ_irrefl less

pub precedes-trans : (turned : Bool) (a b c : ℤ) → Precedes turned a b → Precedes turned b c → Precedes turned a c
precedes-trans false a b c first second = int_chain a b c first second
precedes-trans true a b c first second = int_chain c b a second first

-- what comes before by one order comes after by the other
pub precedes-turned : (turned other : Bool) (a b : ℤ) → turned ≢ other → Precedes turned a b → Precedes other b a
precedes-turned false false a b differ less = absurd (differ refl)
precedes-turned false true a b differ less = less
precedes-turned true false a b differ less = less
precedes-turned true true a b differ less = absurd (differ refl)
