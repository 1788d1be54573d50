-- What a pass has come to know (this project's own).
use Rattle.std.specs.Prelude.{◌≡◌, ℕ, ◌⊎◌, List, Some}
use Rattle.nfg_syn.specs.Known.{Texts}

-- what is known besides is of this kind
abbrev pub GrowsOnlyBy : (Kind : List ℕ → Type 0) → (old new : Texts) → Type 0
GrowsOnlyBy Kind old new = (k : ℕ) (t : List ℕ) → new k ≡ Some t → (old k ≡ Some t) ⊎ Kind t
