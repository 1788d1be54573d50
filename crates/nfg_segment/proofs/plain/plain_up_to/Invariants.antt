use Rattle.std.proofs.Common.{◌≤◌, ◌-◌, take}
use Rattle.nfg_segment.specs.PlainLines.{ArePlainLines}
use Rattle.nfg_segment.proofs.plain.plain_up_to.Given as goal

abbrev pub invariant-loop-at : goal.invariant-loop-at
invariant-loop-at l = record {
  from : l.from ≤ l.at;
  within : l.at ≤ l.end;
  plain : ArePlainLines (take l.at l.text);
}

abbrev pub decreases-loop-at : goal.decreases-loop-at
decreases-loop-at l = l.end - l.at
