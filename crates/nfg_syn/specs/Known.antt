-- Knowledge of a table of synthetics: which texts a pass knows by which numbers (this project's own).
use Rattle.std.specs.Prelude.{◌≡◌, ◌≢◌, ℕ, zero, suc, ◌^◌, ◌<◌, ◌≤◌, List, [], ◌∷◌, length, Option, Some, None, ℤ, pos, negsuc}
use Rattle.nfg_text.specs.Text.{IsText}

-- CR LF, whose number is -1 in every table
abbrev pub crlf : List ℕ
crlf = 13 ∷ 10 ∷ []

-- a text that may have a number of its own: 2 to 1,024 code points
pub record IsInternable (t : List ℕ) : Type 0 where
  pub text : IsText t
  pub several : 2 ≤ length t
  pub within_limit : length t ≤ 1024

-- how many texts a table may number besides CR LF: a power of two from 16 to 2^20
pub record IsRowSize (n : ℕ) : Type 0 where
  pub exponent : ℕ
  pub power : n ≡ 2 ^ exponent
  pub at_least_16 : 4 ≤ exponent
  pub at_most_2_20 : exponent ≤ 20

-- A finite map to texts. The text of the number -(m + 1) stands at m, so that of -(k + 2), the
-- synthetic at place k, stands at suc k.
abbrev pub Texts : Type 0
Texts = ℕ → Option (List ℕ)

-- the text of a number: only a negative one has an entry
abbrev pub text_at : Texts → ℤ → Option (List ℕ)
text_at known (pos c) = None
text_at known (negsuc m) = known m

-- the text has no number
abbrev pub IsUnknown : Texts → List ℕ → Type 0
IsUnknown known t = (m : ℕ) → known m ≢ Some t

-- no text has two numbers
abbrev pub IsOneToOne : Texts → Type 0
IsOneToOne known = (a b : ℕ) (t : List ℕ) → known a ≡ Some t → known b ≡ Some t → a ≡ b

-- each entry of the first is an entry of the second
abbrev pub IsWithin : Texts → Texts → Type 0
IsWithin old new = (k : ℕ) (t : List ℕ) → old k ≡ Some t → new k ≡ Some t

-- both have the same entries
abbrev pub IsSame : Texts → Texts → Type 0
IsSame old new = (k : ℕ) → new k ≡ old k

-- the second is the first with the negative number n mapped to t besides
abbrev pub MapsBesides : Texts → ℤ → List ℕ → Texts → Type 0
MapsBesides old (pos c) t new = ⊥
MapsBesides old (negsuc m) t new = (new m ≡ Some t) × ((k : ℕ) → k ≢ m → new k ≡ old k)

-- the first where it has an entry, else the second
abbrev pub or_else : Option (List ℕ) → Option (List ℕ) → Option (List ℕ)
or_else (Some t) other = Some t
or_else None other = other

-- the third has the entries of the first two, which agree where both have one
pub record IsUnion (one other both : Texts) : Type 0 where
  pub entries : (k : ℕ) → both k ≡ or_else (one k) (other k)
  pub agree : (k : ℕ) (t u : List ℕ) → one k ≡ Some t → other k ≡ Some u → t ≡ u

-- what a pass of a table of this size may know, and what it has seen at the table's places
pub record IsKnowledge (size : ℕ) (known places : Texts) : Type 0 where
  pub line_end : known 0 ≡ Some crlf
  pub one_to_one : IsOneToOne known
  pub numbers : (m : ℕ) (t : List ℕ) → known m ≡ Some t → (m ≤ size) × IsInternable t
  pub rows : (k : ℕ) (t : List ℕ) → places k ≡ Some t → (k < size) × IsInternable t
  -- the text of the number -(k + 2) is the text at place k
  pub tied : (k : ℕ) (t : List ℕ) → known (suc k) ≡ Some t → places k ≡ Some t

-- CR LF alone is known
abbrev pub only_crlf : Texts
only_crlf zero = Some crlf
only_crlf (suc k) = None

-- nothing is known
abbrev pub nothing : Texts
nothing k = None
