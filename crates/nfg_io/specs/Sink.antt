-- Where output goes (this project's own).
use Rattle.std.specs.Prelude.{◌≡◌, ℕ, List, ◌++◌, Option, Some, None}

-- what a contract sees of an object that takes output
pub record SinkState : Type 0 where
  -- how many writes have failed; it stands still at 2 ^ 64 - 1
  pub faults : ℕ
  -- the bytes taken so far, where they are told
  pub taken : Option (List ℕ)

-- these bytes besides, where the bytes taken are told
abbrev pub grown : Option (List ℕ) → List ℕ → Option (List ℕ)
grown None bytes = None
grown (Some taken) bytes = Some (taken ++ bytes)

-- the bytes taken have grown by just these, where they are told
abbrev pub Grew : Option (List ℕ) → Option (List ℕ) → List ℕ → Type 0
Grew before after bytes = after ≡ grown before bytes
