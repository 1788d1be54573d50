-- Numbers in order, in 8 bits or in 32 (this project's own).
use Rattle.std.specs.Prelude.{⊤, ◌≡◌, ℕ, ◌<◌, nat_lt, Bool, true, List, [], ◌∷◌, length, ℤ, pos, negsuc}
use Rattle.std.specs.List.{list_all}
use Rattle.nfg_lanes.specs.Lanes.{is_narrow_grapheme}

-- a code point of ASCII
abbrev pub is_ascii : ℕ → Bool
is_ascii code = nat_lt code 128

-- those in 8 bits fit them, and where there are some in 32 bits there are no others
pub record AreKept (narrow wide : List ℤ) : Type 0 where
  pub fit : list_all is_narrow_grapheme narrow ≡ true
  pub one : 0 < length wide → narrow ≡ []

-- the number that is put for each negative one
abbrev pub with_number : ℤ → ℤ → ℤ
with_number number (pos c) = pos c
with_number number (negsuc k) = number

-- none is negative
abbrev pub ArePlain : List ℤ → Type 0
ArePlain [] = ⊤
ArePlain (pos c ∷ ns) = ArePlain ns
ArePlain (negsuc k ∷ ns) = ⊥
