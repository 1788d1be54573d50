use Rattle.std.proofs.Common.{◌≡◌, false, arith, refl, ◌∙◌}
use Rattle.std.proofs.lemmas.List.Elements.{All-pop, All-weaker}
use Rattle.nfg_syn.specs.SeenLaws.{Keeps-refl, Keeps-trans}
use Rattle.nfg_work.specs.Workers.{IsDone}
use Rattle.nfg_work.proofs.MetWorkers.{HasMet-start, HasMet-trans, IsDone-grows, length-popped}
use Rattle.nfg_work.proofs.meeting.meet_all.Goals as goal

pub meeting-init : goal.meeting-init
meeting-init g c =
    let seen = g.T.Synthetics.seen c.args.pass.now in
    record {
      table = c.requires.table;
      fork_tables = c.requires.fork_tables;
      no_roots = c.requires.no_roots;
      no_meets = c.requires.no_meets;
      keeps = Keeps-refl seen;
      forks = refl;
      meets = refl;
      met = λ script reads done are. (HasMet-start script reads seen.known c.args.outcomes.now are, done);
    }

pub meet_one-requires-clause-fork_table : goal.meet_one-requires-clause-fork_table
meet_one-requires-clause-fork_table g c κs within =
    rw c.in-Some.is at (All-pop (λ worker. g.T.Synthetics.is_of c.args.table.now worker.pass) c.meeting.workers.items c.pop.new.self.items c.pop.result c.pop.ensures.items c.meeting.invariant.fork_tables).1

pub meet_one-requires-clause-no_root : goal.meet_one-requires-clause-no_root
meet_one-requires-clause-no_root g c κs within =
    rw c.in-Some.is at (All-pop (λ worker. (g.T.Synthetics.seen worker.pass).root ≡ false) c.meeting.workers.items c.pop.new.self.items c.pop.result c.pop.ensures.items c.meeting.invariant.no_roots).1

pub meeting-preserved : goal.meeting-preserved
meeting-preserved g c =
    let first = g.T.Synthetics.seen c.args.pass.now in
    let old = g.T.Synthetics.seen c.meeting.pass in
    let new = g.T.Synthetics.seen c.meet_one.new.pass in
    let i = c.meeting.invariant in
    let met = c.in_ok-meet_one.ensures in
    let no_meets : (g.T.Synthetics.seen c.in-Some.worker.pass).meets ≡ 0 =
    rw c.in-Some.is at (All-pop (λ worker. (g.T.Synthetics.seen worker.pass).meets ≡ 0) c.meeting.workers.items c.pop.new.self.items c.pop.result c.pop.ensures.items i.no_meets).1 in
    let one_less = length-popped c.meeting.workers.items c.pop.new.self.items c.pop.result c.in-Some.worker c.pop.ensures.items c.in-Some.is in
    record {
      table = met.table;
      fork_tables = (All-pop (λ worker. g.T.Synthetics.is_of c.args.table.now worker.pass) c.meeting.workers.items c.pop.new.self.items c.pop.result c.pop.ensures.items i.fork_tables).0;
      no_roots = (All-pop (λ worker. (g.T.Synthetics.seen worker.pass).root ≡ false) c.meeting.workers.items c.pop.new.self.items c.pop.result c.pop.ensures.items i.no_roots).0;
      no_meets = (All-pop (λ worker. (g.T.Synthetics.seen worker.pass).meets ≡ 0) c.meeting.workers.items c.pop.new.self.items c.pop.result c.pop.ensures.items i.no_meets).0;
      keeps = Keeps-trans first old new i.keeps met.keeps;
      forks = met.forks ∙ i.forks;
      meets = omega (arith, met.meets, i.meets, no_meets, one_less);
      met = λ script reads done are.
          let had = i.met script reads done are in
          let popped = All-pop (λ worker. IsDone script reads old.known (g.T.Synthetics.seen worker.pass) worker.given.items worker.is_short) c.meeting.workers.items c.pop.new.self.items c.pop.result c.pop.ensures.items had.1 in
          let here : IsDone script reads old.known (g.T.Synthetics.seen c.in-Some.worker.pass) c.in-Some.worker.given.items c.in-Some.worker.is_short = rw c.in-Some.is at popped.1 in
          let after = met.met script reads here had.0.right in (
            HasMet-trans script reads first.known old.known new.known c.meeting.outcomes c.meet_one.new.outcomes had.0 after,
            All-weaker (λ worker. IsDone script reads old.known (g.T.Synthetics.seen worker.pass) worker.given.items worker.is_short)
                (λ worker. IsDone script reads new.known (g.T.Synthetics.seen worker.pass) worker.given.items worker.is_short)
                (λ worker done. IsDone-grows script reads old.known new.known met.keeps.known (g.T.Synthetics.seen worker.pass) worker.given.items worker.is_short done)
                c.pop.new.self.items popped.0,
          );
    }

pub returns-in_err-meet_one-clause-keeps : goal.returns-in_err-meet_one-clause-keeps
returns-in_err-meet_one-clause-keeps g c = Keeps-trans _ _ _ c.meeting.invariant.keeps c.in_err-meet_one.ensures.keeps

pub returns-clause-met : goal.returns-clause-met
returns-clause-met g c = λ script reads done are. (c.meeting.invariant.met script reads done are).0
