-- Places in the text of clusters, code point by code point (this project's own).
use Rattle.std.specs.Prelude.{◌≡◌, ℕ, ◌+◌, ◌-◌, ◌*◌, ◌<◌, Bool, true, false, List, [], ◌∷◌, length, drop, slice_get, Option, Some, None, MatchOption}
use Rattle.std.specs.Cmp.Lexicographic.{slice_cmp}
use Rattle.std.specs.Ordering.{nat_cmp}
use Rattle.std.specs.declared.cmp.Ordering.{Ordering}
use Rattle.nfg_text.specs.Text.{text_of}
use Rattle.nfg_ops.specs.declared.walk.Position.{Position}

-- the text from a position on
abbrev pub text_from : List (List ℕ) → Position → List ℕ
text_from list at = drop at.offset (text_of (drop at.place list))

-- there is a code point at the position, or it is the end of the text
abbrev pub IsInside : List (List ℕ) → Position → Type 0
IsInside list at = MatchOption (slice_get list at.place)
    ((at.place ≡ length list) × (at.offset ≡ 0)) (λ cluster. at.offset < length cluster)

-- the first code point of the text, and what is left; nothing of a text without any
abbrev pub IsTaken : List ℕ → Option ℕ → List ℕ → Type 0
IsTaken text None rest = text ≡ []
IsTaken text (Some code) rest = text ≡ code ∷ rest

-- how many steps are left at most, where a cluster has at most 1,024 code points
abbrev pub steps_left : ℕ → Position → ℕ
steps_left len at = 1025 * (len - at.place) - at.offset

-- the position after one, which is at the last code point of its cluster or not
abbrev pub next_position : Position → Bool → Position
next_position at true = record { place = at.place + 1; offset = 0 }
next_position at false = record { place = at.place; offset = at.offset + 1 }

-- What the first code points of two texts say of their order: the order, or that it is the order of what is left.
abbrev pub IsDecided : Option ℕ → Option ℕ → Option Ordering → Type 0
IsDecided first second found = (text other rest other_rest : List ℕ) → IsTaken text first rest → IsTaken other second other_rest
    → MatchOption found
    (slice_cmp nat_cmp text other ≡ slice_cmp nat_cmp rest other_rest)
    (λ order. order ≡ slice_cmp nat_cmp text other)
