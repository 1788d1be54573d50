-- What a test knows of the text of a number.
use Rattle.std.proofs.Common.{◌≡◌, ◌<◌, List, ℕ, ℤ, pos, negsuc, Some, sym, subst, to_z, of_z, w32, lt-ltb}
use Rattle.std.specs.Prelude.{T}
use Rattle.std.proofs.lemmas.Int.{to_z-of_z}
use Rattle.std.proofs.Math.Facts.{sfits_lit}
use lib.Signed.{mag}
use Rattle.nfg_syn.specs.Known.{Texts, IsUnion, text_at}
use Rattle.nfg_syn.specs.Represents.{spelling}
use Rattle.nfg_cells.proofs.PassLemmas.{within_right}

-- writing a number and reading it back
pub back : (z : ℤ) → mag z < 0x8000_0000 → to_z w32 (of_z w32 z) ≡ z
back z small = to_z-of_z w32 z (sfits_lit (subst T (sym (lt-ltb (mag z) 0x8000_0000 small)) tt))

-- a number that has a text spells it
pub spelled : (known : Texts) (n : ℤ) (t : List ℕ) → text_at known n ≡ Some t → spelling known n ≡ Some t
spelled known (pos c) t e = cc
spelled known (negsuc m) t e = e

-- a number that was known in a pass is known where it is met
pub met_text : (into from new : Texts) → IsUnion into from new → (n : ℤ) (t : List ℕ) → text_at from n ≡ Some t → text_at new n ≡ Some t
met_text into from new union (pos c) t e = cc
met_text into from new union (negsuc m) t e = within_right into from new union m t e
