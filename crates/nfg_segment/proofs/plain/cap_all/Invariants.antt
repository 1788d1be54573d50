use Rattle.std.proofs.Common.{◌≡◌, map, take}
use Rattle.nfg_segment.specs.PlainLines.{capped}
use Rattle.nfg_segment.proofs.plain.cap_all.Given as goal

abbrev pub invariant-loop-k : goal.invariant-loop-k
invariant-loop-k l = take l.k l.low ≡ map capped (take l.k l.block)
