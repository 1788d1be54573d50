use Rattle.std.proofs.Common.{◌≤◌, ◌-◌, take, length}
use Rattle.nfg_segment.specs.PlainLines.{ArePlainLines}
use Rattle.nfg_segment.proofs.plain.past_blocks.Given as goal

abbrev pub invariant-loop-at : goal.invariant-loop-at
invariant-loop-at l = record {
  from : l.from ≤ l.at;
  within : l.at ≤ length l.text;
  plain : ArePlainLines (take l.at l.text);
}

abbrev pub decreases-loop-at : goal.decreases-loop-at
decreases-loop-at l = length l.text - l.at
