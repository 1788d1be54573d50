-- A table that notes the text which the table behind it refuses (this project's own).
use Rattle.std.specs.Prelude.{◌≡◌, ◌≢◌, ℕ, List, []}
use Rattle.nfg_syn.specs.Seen.{Seen}

-- what contracts see of a pass: the text that was noted is the only one that is refused for want of places
abbrev pub recorded : Seen → (noted : List ℕ) → Seen
recorded inner noted = record inner { full = λ t. inner.full t × (noted ≡ t) × (t ≢ []) }
