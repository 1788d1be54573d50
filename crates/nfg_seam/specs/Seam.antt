-- Where the repair of a seam begins and ends (this project's own).
use Rattle.std.specs.Prelude.{◌≡◌, ◌⊎◌, ⊤, ℕ, suc, ◌≤◌, Bool, true, false, not, List, [], ◌∷◌, ◌++◌, length, take, drop}
use Rattle.std.specs.List.{list_all}
use Rattle.nfg_text.specs.Forms.{nfc}
use Rattle.nfg_text.specs.Graphemes.{starts_safely}
use Rattle.nfg_text.specs.Laws.{BreaksBefore}
use Rattle.nfg_text.specs.Text.{text_of}
use Rattle.nfg_seam.specs.declared.seam.Seam.{Seam}

-- the cluster begins with a code point that starts safely
abbrev pub begins_safely : List ℕ → Bool
begins_safely [] = false
begins_safely (c ∷ rest) = starts_safely c

-- the first of the clusters does
abbrev pub BeginSafely : List (List ℕ) → Type 0
BeginSafely [] = ⊥
BeginSafely (cluster ∷ clusters) = begins_safely cluster ≡ true

-- clusters follow a text, if any do, from a boundary on, with a code point that starts safely
abbrev pub GoOnSafely : List ℕ → List (List ℕ) → Type 0
GoOnSafely text [] = ⊤
GoOnSafely text ([] ∷ clusters) = ⊥
GoOnSafely text ((c ∷ rest) ∷ clusters) = (starts_safely c ≡ true) × BreaksBefore text c

-- What is repaired, in NFC, are the clusters of a from `left` on and those of b before `right`. The left end is the
-- last place of a where a cluster begins safely, or its start where none does.
pub record IsSeam (a b : List (List ℕ)) (seam : Seam) : Type 0 where
  pub left_within : seam.left ≤ length a
  pub right_within : seam.right ≤ length b
  pub text : seam.text ≡ nfc (text_of (drop seam.left a) ++ text_of (take seam.right b))
  pub left : (seam.left ≡ 0) ⊎ BeginSafely (drop seam.left a)
  pub last : list_all (λ cluster. not (begins_safely cluster)) (drop (suc seam.left) a) ≡ true
  pub right : GoOnSafely seam.text (drop seam.right b)
