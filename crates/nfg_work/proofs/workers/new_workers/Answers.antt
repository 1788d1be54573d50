use Rattle.std.proofs.Common.{◌∙◌, ap, arith, length}
use Rattle.std.proofs.lemmas.List.{length_push}
use Rattle.std.proofs.lemmas.List.Elements.{All-push, All-same}
use Rattle.nfg_syn.specs.SeenLaws.{Keeps-trans}
use Rattle.nfg_work.specs.Workers.{IsReady}
use Rattle.nfg_work.proofs.MetWorkers.{IsReady-same}
use Rattle.nfg_work.proofs.workers.new_workers.Goals as goal

pub forking-preserved : goal.forking-preserved
forking-preserved g c =
    let first = g.T.Synthetics.seen c.args.pass.now in
    let old = g.T.Synthetics.seen c.forking.pass in
    let new = g.T.Synthetics.seen c.new_worker.new.pass in
    let i = c.forking.invariant in
    let made = c.in_ok-new_worker.ensures in
    let one = c.in_ok-new_worker.field-0 in
    let pushed = c.in_ok-push.ensures.items in
    record {
      table = made.table;
      keeps = Keeps-trans first old new i.keeps made.keeps;
      known = λ k. made.known k ∙ i.known k;
      meets = made.meets ∙ i.meets;
      forks = omega (arith, made.counted, i.forks);
      many = omega (arith, ap length pushed, length_push c.forking.workers.items one, i.many);
      fork_tables = All-same (λ worker. g.T.Synthetics.is_of c.args.table.now worker.pass) _ _ pushed
          (All-push (λ worker. g.T.Synthetics.is_of c.args.table.now worker.pass) c.forking.workers.items one i.fork_tables made.fork_table);
      ready = All-same (λ worker. IsReady first.known (g.T.Synthetics.seen worker.pass) worker.given.items) _ _ pushed
          (All-push (λ worker. IsReady first.known (g.T.Synthetics.seen worker.pass) worker.given.items) c.forking.workers.items one i.ready
          (IsReady-same first.known old.known i.known (g.T.Synthetics.seen one.pass) one.given.items made.ready));
    }
