use Rattle.std.proofs.Common.{◌≡◌, ◌++◌, length}
use Rattle.nfg_decode.specs.Reads.{Grew}
use Rattle.nfg_decode.proofs.part.append_bytes.Given as goal

abbrev pub invariant-loop-rest : goal.invariant-loop-rest
invariant-loop-rest l = record { together : l.into ++ l.rest ≡ l.initial.into ++ l.bytes; grew : Grew l.initial.into l.into }

abbrev pub decreases-loop-rest : goal.decreases-loop-rest
decreases-loop-rest l = length l.rest
