-- What calls that only ask a table keep of a pass, and numbers that are code points (this project's own).
use Rattle.std.specs.Prelude.{Bool, true, false, ℤ, pos, negsuc}
use Rattle.nfg_syn.specs.Known.{IsSame}
use Rattle.nfg_syn.specs.Seen.{Seen, Keeps, SameCounts}

-- the pass was lent to calls that only ask: it knows what it knew
pub record HasAsked (old new : Seen) : Type 0 where
  pub kept : Keeps old new
  pub counts : SameCounts old new
  pub known : IsSame old.known new.known

-- a number of 0 or more, which is a code point itself
abbrev pub is_code : ℤ → Bool
is_code (pos c) = true
is_code (negsuc m) = false
