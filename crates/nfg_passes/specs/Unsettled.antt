-- Places at which a text might not be its own NFC, by the ids of its code points alone (this project's own).
use Rattle.std.specs.Prelude.{◌≡◌, ℕ, Bool, true, ◌||◌, ◌&&◌, nat_lt, nat_le, List, ◌∷◌, ◌++◌, length, map}
use Rattle.std.specs.List.{position_or_len}
use Rattle.std.specs.Simd.Lanes.{zip2}
use Rattle.unicode_normalization.specs.Forms.{nfc}
use Rattle.nfg_text.specs.Graphemes.{starts_safely}
use Rattle.nfg_passes.specs.Ids.{id_number, first_mark, first_doubtful}

-- the quick check of the code point is Maybe or No, or it is a mark that comes after a greater id
abbrev pub is_unsettled : ℕ → ℕ → Bool
is_unsettled before id = nat_le first_doubtful id || (nat_le first_mark id && nat_lt id before)

-- for each id, whether its place is one; the first is judged as after a plain code point, whose id is 0
abbrev pub unsettled_marks : List ℕ → List Bool
unsettled_marks ids = zip2 is_unsettled (0 ∷ ids) ids

-- the first such place, or the length
abbrev pub first_unsettled : List ℕ → ℕ
first_unsettled ids = position_or_len (λ unsettled. unsettled) (unsettled_marks ids)

-- a text has none
abbrev pub IsSettledText : List ℕ → Type 0
IsSettledText t = first_unsettled (map id_number t) ≡ length t

-- such a text is its own NFC
abbrev pub SettledTextsStay : Type 0
SettledTextsStay = (t : List ℕ) → IsSettledText t → nfc t ≡ t

-- and stays so behind another, where it begins with a safe start
abbrev pub SettledTextsStayBehind : Type 0
SettledTextsStayBehind =
    (x : List ℕ) (c : ℕ) (t : List ℕ) → starts_safely c ≡ true → IsSettledText (c ∷ t) → nfc (x ++ c ∷ t) ≡ nfc x ++ c ∷ t
