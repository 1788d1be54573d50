-- The calls of an object in memory, some of which are made to fail (this project's own).
use Rattle.std.specs.Prelude.{ℕ, ◌+◌, ◌^◌, min, Bool, if◌then◌else◌}
use Rattle.std.specs.Ordering.{nat_cmp}
use Rattle.std.specs.FinSet as set
use Rattle.nfg_io.specs.Causes.{one_more}

-- what a contract sees of the calls
pub record Calls : Type 0 where
  -- the numbers of the calls that fail
  pub failing : set.FinSet nat_cmp
  -- how many calls were made, which is the number of the next; it stands still at 2 ^ 64, the number of none
  pub made : ℕ
  -- how many calls have failed; it stands still at 2 ^ 64 - 1
  pub faults : ℕ

-- none fails, and none was made
abbrev pub no_calls : Calls
no_calls = record { failing = set.empty; made = 0; faults = 0 }

-- the next call is one of those that fail
abbrev pub fails_next : Calls → Bool
fails_next calls = set.contains calls.failing calls.made

-- one call more, which went well or failed
abbrev pub after_call : Bool → Calls → Calls
after_call failed calls = record calls {
  made = min (calls.made + 1) (2 ^ 64);
  faults = (if failed then one_more calls.faults else calls.faults);
}
