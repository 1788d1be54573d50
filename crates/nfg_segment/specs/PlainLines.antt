-- Plain lines: plain code points, and the line feeds between them (this project's own).
use Rattle.std.specs.Prelude.{◌≡◌, ℕ, Bool, true, ◌||◌, ◌&&◌, ◌==◌, nat_lt, if◌then◌else◌, List}
use Rattle.std.specs.List.{list_all}
use Rattle.nfg_text.specs.Plain.{is_plain}

-- the code point is plain, or a line feed
abbrev pub is_of_plain_lines : ℕ → Bool
is_of_plain_lines c = is_plain c || (c == 0xA)

-- the code point is such a one below FFFF
abbrev pub is_of_low_lines : ℕ → Bool
is_of_low_lines c = is_of_plain_lines c && nat_lt c 0xFFFF

-- the number in 16 bits, or the greatest of these
abbrev pub capped : ℕ → ℕ
capped c = if nat_lt c 0xFFFF then c else 0xFFFF

-- every code point of the text is plain, or a line feed
abbrev pub ArePlainLines : List ℕ → Type 0
ArePlainLines t = list_all is_of_plain_lines t ≡ true
