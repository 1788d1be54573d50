use Rattle.std.proofs.Common.{◌≡◌, ◌+◌, ◌%◌, ◌∙◌, [], ap, sym, drop, get_or, slice_index, arith}
use Rattle.std.proofs.lemmas.List.{drop_all, length-set}
use Rattle.nfg_passes.proofs.Runs.{marks_run, last_state, first_lane, holds_next, mark_is, run_more, last_more, run_marks, run_state}
use Rattle.nfg_passes.proofs.Writing.{write_next, write_last}
use Rattle.nfg_passes.proofs.automaton.mark_breaks.Goals as goal

pub loop-i-preserved : goal.loop-i-preserved
loop-i-preserved c =
    let ids = c.args.ids.now in
    let into = c.loop-i.into in
    let i = c.loop-i.i in
    let so_far = c.loop-i.invariant in
    let state = slice_index c.loop-i.states 0 in
    let id = get_or ids i 0 in
    let x = c.index.result.now in
    let moved = holds_next c.entry_at-states.result state id so_far.state.small c.entry_at-states.ensures in
    let marked = mark_is c.entry_at.result state id x c.entry_at.ensures c.index.ensures in
    let next = slice_index c.entry_at-states.result 0 in
    record {
      state = moved.0;
      same_length = length-set into i x ∙ so_far.same_length;
      written =
          write_next into (marks_run next (drop (i + 1) ids)) (marks_run (c.args.state % 16) ids) i x (omega (arith, so_far.same_length, c.loop-i-test.true))
          (run_more ids into (marks_run (c.args.state % 16) ids) i state x next c.loop-i-test.true marked moved.1 so_far.written);
      last = last_more ids i state next (last_state (c.args.state % 16) ids) c.loop-i-test.true moved.1 so_far.last;
    }

pub returns-clause-marks : goal.returns-clause-marks
returns-clause-marks c before t is of_text =
    let ids = c.args.ids.now in
    let i = c.loop-i.i in
    let state = slice_index c.loop-i.states 0 in
    let gone : drop i ids ≡ [] = drop_all i ids (omega arith) in
    write_last c.loop-i.into (marks_run state (drop i ids)) (marks_run (c.args.state % 16) ids) i (omega (arith, c.loop-i.invariant.same_length)) (ap (marks_run state) gone) c.loop-i.invariant.written
    ∙ run_marks c.args.state ids before t is of_text

pub returns-clause-state : goal.returns-clause-state
returns-clause-state c before t is of_text =
    let ids = c.args.ids.now in
    let i = c.loop-i.i in
    let state = slice_index c.loop-i.states 0 in
    let gone : drop i ids ≡ [] = drop_all i ids (omega arith) in
    first_lane c.loop-i.states state c.index-2.result.now c.loop-i.invariant.state.all c.index-2.ensures
    ∙ sym (ap (last_state state) gone) ∙ c.loop-i.invariant.last
    ∙ run_state c.args.state ids before t is of_text
