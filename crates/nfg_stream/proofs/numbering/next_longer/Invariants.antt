use Rattle.std.proofs.Common.{◌-◌, ◌≤◌, length, take, drop}
use Rattle.nfg_stream.specs.Numbers.{ArePlain}
use Rattle.nfg_stream.proofs.numbering.next_longer.Given as goal

abbrev pub invariant-places : goal.invariant-places
invariant-places l = record {
  later : l.start ≤ l.place;
  within : l.place ≤ length l.numbers;
  plain : ArePlain (take (l.place - l.start) (drop l.start l.numbers));
}

abbrev pub decreases-places : goal.decreases-places
decreases-places l = length l.numbers - l.place
