-- When a text is not encoded (this project's own).
use Rattle.std.specs.Prelude.{◌≡◌, ℕ, ◌<◌, true, not, List, ◌++◌, Option, position, All}
use Rattle.nfg_decode.specs.declared.encoding.Encoding.{Encoding}
use Rattle.nfg_decode.specs.Encoding.{has_code}

-- the index of the first code point that the encoding lacks
abbrev pub first_lacked : Encoding → List ℕ → Option ℕ
first_lacked e codes = position (λ c. not (has_code e c)) codes

-- each number is at most the last code point, and one that the encoding has
pub record AreEncodable (e : Encoding) (codes : List ℕ) : Type 0 where
  pub small : All (λ c. c < 0x11_0000) codes
  pub had : All (λ c. has_code e c ≡ true) codes

-- new is old with more at its end
abbrev pub Grew : List ℕ → List ℕ → Type 0
Grew old new = (more : List ℕ) × (new ≡ old ++ more)
