use Rattle.std.proofs.Common.{◌≡◌, ◌≤◌, ◌<◌, ◌^◌, ◌++◌, true, length, drop}
use Rattle.std.specs.Fmt.{digits}
use Rattle.nfg_work.proofs.hexadecimal.fill.Given as goal

abbrev pub invariant-filling : goal.invariant-filling
invariant-filling l = record {
  some : 0 < l.start;
  start : l.start ≤ 8;
  len : length l.buffer ≡ 8;
  room : l.left < 16 ^ l.start;
  number : l.left ≤ l.number;
  digits : digits 16 true l.left ++ drop l.start l.buffer ≡ digits 16 true l.number;
}

abbrev pub decreases-filling : goal.decreases-filling
decreases-filling l = l.left
