use Rattle.std.proofs.Common.{◌-◌, ◌≤◌, length, take}
use Rattle.nfg_decode.specs.Utf8.{IsFront}
use Rattle.nfg_decode.proofs.utf8_codes.fill_by_runs.Given as goal

abbrev pub invariant-loop-at : goal.invariant-loop-at
invariant-loop-at l = record {
  front : IsFront l.bytes l.at (take l.n l.codes);
  count : l.n ≤ l.at;
}

abbrev pub decreases-loop-at : goal.decreases-loop-at
decreases-loop-at l = length l.bytes - l.at
