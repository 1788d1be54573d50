use Rattle.std.proofs.Common.{◌≡◌, ◌≤◌, ◌-◌, length, take, drop, map}
use Rattle.nfg_syn.specs.Seen.{Keeps, SameCounts}
use Rattle.nfg_stream.specs.Collected.{kept_as}
use Rattle.nfg_stream.specs.Numbering.{AreNumbered, AreInterned}
use Rattle.nfg_stream.proofs.numbering.number_each.Given as goal

abbrev pub invariant-numbering : goal.invariant-numbering
invariant-numbering g l = record {
  within : l.k ≤ length l.numbers;
  count : length l.numbers ≡ length l.fn.numbers;
  table : g.T.Synthetics.is_of l.table l.pass;
  keeps : Keeps (g.T.Synthetics.seen l.fn.pass) (g.T.Synthetics.seen l.pass);
  counts : SameCounts (g.T.Synthetics.seen l.fn.pass) (g.T.Synthetics.seen l.pass);
  numbered : AreNumbered (take l.k (map (kept_as l.longer) l.fn.numbers)) (g.T.Synthetics.seen l.fn.pass).known (g.T.Synthetics.seen l.pass).known (take l.k l.numbers);
  room : length l.interned ≡ length l.longer;
  interned : AreInterned l.longer (g.T.Synthetics.seen l.pass).known l.interned;
  rest : drop l.k l.numbers ≡ drop l.k l.fn.numbers;
}

abbrev pub decreases-numbering : goal.decreases-numbering
decreases-numbering g l = length l.numbers - l.k
