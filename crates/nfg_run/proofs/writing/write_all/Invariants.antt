use Rattle.std.proofs.Common.{◌-◌, ◌≤◌, length, take}
use Rattle.nfg_io.specs.Sink.{Grew}
use Rattle.nfg_run.proofs.writing.write_all.Given as goal

abbrev pub invariant-writing : goal.invariant-writing
invariant-writing g l = record {
  within : l.sent ≤ length l.bytes;
  grew : Grew (g.S.Sink.state l.fn.out).taken (g.S.Sink.state l.out).taken (take l.sent l.bytes);
  never_falls : (g.S.Sink.state l.fn.out).faults ≤ (g.S.Sink.state l.out).faults;
}

abbrev pub decreases-writing : goal.decreases-writing
decreases-writing g l = length l.bytes - l.sent
