use Rattle.std.proofs.Common.{◌≡◌, ◌≤◌, ◌+◌, ◌++◌, ℕ, List, length}
use Rattle.nfg_decode.specs.declared.encoding.Encoding.{Encoding}
use Rattle.nfg_decode.specs.Stream.{fed_count}
use Rattle.nfg_stream.specs.Reading.{IsReading, HasReadSome}
use Rattle.nfg_stream.proofs.reader.Reader.take.Given as goal

abbrev pub invariant-parts : goal.invariant-parts
invariant-parts l = record {
  front : List ℕ;
  joined : front ++ l.rest ≡ l.piece;
  taken : (e : Encoding) (bytes : List ℕ) → IsReading l.initial.self e bytes → IsReading l.self e (bytes ++ front);
  reading : HasReadSome l.self;
  count : fed_count l.self.bytes ≤ fed_count l.initial.self.bytes + length front;
}

abbrev pub decreases-parts : goal.decreases-parts
decreases-parts l = length l.rest
