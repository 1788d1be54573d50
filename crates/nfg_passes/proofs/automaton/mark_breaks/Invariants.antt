use Rattle.std.proofs.Common.{◌≡◌, ◌%◌, ◌++◌, length, take, drop, slice_index}
use Rattle.nfg_passes.specs.Rows.{HoldsState}
use Rattle.nfg_passes.proofs.Runs.{marks_run, last_state}
use Rattle.nfg_passes.proofs.automaton.mark_breaks.Given as goal

abbrev pub invariant-loop-i : goal.invariant-loop-i
invariant-loop-i l = record {
  state : HoldsState l.states (slice_index l.states 0);
  same_length : length l.into ≡ length l.ids;
  written : take l.i l.into ++ marks_run (slice_index l.states 0) (drop l.i l.ids) ≡ marks_run (l.fn.state % 16) l.ids;
  last : last_state (slice_index l.states 0) (drop l.i l.ids) ≡ last_state (l.fn.state % 16) l.ids;
}
