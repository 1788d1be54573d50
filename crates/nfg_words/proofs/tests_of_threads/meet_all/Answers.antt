use Rattle.std.proofs.Common.{◌≡◌, false}
use Rattle.std.proofs.lemmas.List.Elements.{All-pop}
use Rattle.nfg_words.specs.Table.{IsWordPass, seen_of}
use Rattle.nfg_words.proofs.tests_of_threads.meet_all.Goals as goal

pub meet-requires-clause-from_table : goal.meet-requires-clause-from_table
meet-requires-clause-from_table g c =
    rw c.in-Some.is at (All-pop (λ caller. IsWordPass c.args.table.now caller.fork) c.meeting.callers.items c.pop.new.self.items c.pop.result c.pop.ensures.items c.meeting.invariant.fork_tables).1

pub meet-requires-clause-no_root : goal.meet-requires-clause-no_root
meet-requires-clause-no_root g c =
    rw c.in-Some.is at (All-pop (λ caller. (seen_of caller.fork).root ≡ false) c.meeting.callers.items c.pop.new.self.items c.pop.result c.pop.ensures.items c.meeting.invariant.no_roots).1

pub meeting-preserved : goal.meeting-preserved
meeting-preserved g c =
    let i = c.meeting.invariant in
    record {
      table = c.meet.ensures.table;
      fork_tables = (All-pop (λ caller. IsWordPass c.args.table.now caller.fork) c.meeting.callers.items c.pop.new.self.items c.pop.result c.pop.ensures.items i.fork_tables).0;
      no_roots = (All-pop (λ caller. (seen_of caller.fork).root ≡ false) c.meeting.callers.items c.pop.new.self.items c.pop.result c.pop.ensures.items i.no_roots).0;
    }
