use Rattle.std.proofs.Common.{◌∙◌, ap, arith, length}
use Rattle.std.proofs.lemmas.List.{length_push}
use Rattle.std.proofs.lemmas.List.Elements.{All-push, All-same}
use Rattle.nfg_syn.specs.SeenLaws.{Keeps-trans}
use Rattle.nfg_work.specs.Parts.{IsReadyToLoad}
use Rattle.nfg_work.proofs.LoadedParts.{IsReadyToLoad-same}
use Rattle.nfg_work.proofs.loaders.new_loaders.Goals as goal

pub forking-preserved : goal.forking-preserved
forking-preserved g c =
    let first = g.T.Synthetics.seen c.args.pass.now in
    let old = g.T.Synthetics.seen c.forking.pass in
    let new = g.T.Synthetics.seen c.new_loader.new.pass in
    let i = c.forking.invariant in
    let made = c.in_ok-new_loader.ensures in
    let one = c.in_ok-new_loader.field-0 in
    let pushed = c.in_ok-push.ensures.items in
    record {
      table = made.table;
      keeps = Keeps-trans first old new i.keeps made.keeps;
      known = λ k. made.known k ∙ i.known k;
      meets = made.meets ∙ i.meets;
      forks = omega (arith, made.counted, i.forks);
      many = omega (arith, ap length pushed, length_push c.forking.loaders.items one, i.many);
      fork_tables = All-same (λ loader. g.T.Synthetics.is_of c.args.table.now loader.pass) _ _ pushed
          (All-push (λ loader. g.T.Synthetics.is_of c.args.table.now loader.pass) c.forking.loaders.items one i.fork_tables made.fork_table);
      ready = All-same (λ loader. IsReadyToLoad first.known (g.T.Synthetics.seen loader.pass)) _ _ pushed
          (All-push (λ loader. IsReadyToLoad first.known (g.T.Synthetics.seen loader.pass)) c.forking.loaders.items one i.ready
          (IsReadyToLoad-same first.known old.known i.known (g.T.Synthetics.seen one.pass) made.ready));
    }
