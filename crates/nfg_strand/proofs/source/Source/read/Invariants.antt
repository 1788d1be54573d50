use Rattle.std.proofs.Common.{◌≡◌, ◌-◌, ◌<◌, ◌≤◌, [], ◌++◌, length, take, drop}
use Rattle.nfg_strand.proofs.source.Source.read.Given as goal

-- the front of the slice has what is passed over, and a run that still has graphemes fills the slice
abbrev pub invariant-loop-count : goal.invariant-loop-count
invariant-loop-count l = record {
  inside : l.count ≤ length l.fn.self;
  room : length l.into ≡ length l.fn.into;
  high : l.count ≤ length l.into;
  left : l.self-inside.run ++ l.self-inside.rest ≡ drop l.count l.fn.self;
  read : l.into ≡ take l.count l.fn.self ++ drop l.count l.fn.into;
  over : l.count < length l.into → l.self-inside.run ≡ [];
}

abbrev pub decreases-loop-count : goal.decreases-loop-count
decreases-loop-count l = length l.into - l.count
