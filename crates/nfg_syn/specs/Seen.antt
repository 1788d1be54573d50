-- What contracts see of a pass of a table of synthetics, and what calls do to it (this project's own).
use Rattle.std.specs.Prelude.{◌≡◌, ℕ, ◌+◌, List, Bool, true, false}
use Rattle.nfg_syn.specs.Known.{Texts, IsWithin, IsSame, IsUnion, only_crlf, nothing}

-- what contracts see of a pass
pub record Seen : Type 1 where
  pub known : Texts
  pub places : Texts
  -- `new` made the pass
  pub root : Bool
  -- how many passes were forked from it
  pub forks : ℕ
  -- how many meets went into it, with those of the passes that it met
  pub meets : ℕ
  -- why the table may refuse this text, and why it may refuse any text
  pub full : List ℕ → Type 0
  pub drained : Type 0

-- What every call keeps of a pass that it is lent: knowledge only grows, and a reason for a
-- refusal stays one.
pub record Keeps (old new : Seen) : Type 0 where
  pub known : IsWithin old.known new.known
  pub places : IsWithin old.places new.places
  pub root : new.root ≡ old.root
  pub full : (t : List ℕ) → old.full t → new.full t
  pub drained : old.drained → new.drained

-- no pass was forked from it or met in it
pub record SameCounts (old new : Seen) : Type 0 where
  pub forks : new.forks ≡ old.forks
  pub meets : new.meets ≡ old.meets

-- the pass is as before in all that contracts see
pub record IsUnchanged (old new : Seen) : Type 0 where
  pub kept : Keeps old new
  pub known : IsSame old.known new.known
  pub places : IsSame old.places new.places
  pub counts : SameCounts old new

-- the pass that comes with a new table
pub record IsFirst (pass : Seen) : Type 0 where
  pub known : IsSame only_crlf pass.known
  pub places : IsSame nothing pass.places
  pub root : pass.root ≡ true
  pub forks : pass.forks ≡ 0
  pub meets : pass.meets ≡ 0

-- the new pass knows what the old one knows, and is neither a root nor counted anywhere
pub record IsForkOf (old fork : Seen) : Type 0 where
  pub known : IsSame old.known fork.known
  pub places : IsSame old.places fork.places
  pub root : fork.root ≡ false
  pub forks : fork.forks ≡ 0
  pub meets : fork.meets ≡ 0
  pub full : (t : List ℕ) → old.full t → fork.full t
  pub drained : old.drained → fork.drained

-- the pass `into` has become `new`, which knows what both knew
pub record Meets (into from new : Seen) : Type 0 where
  pub known : IsUnion into.known from.known new.known
  pub places : IsUnion into.places from.places new.places
  pub meets : new.meets ≡ into.meets + from.meets + 1
  pub full : (t : List ℕ) → from.full t → new.full t
  pub drained : from.drained → new.drained
