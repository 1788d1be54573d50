use Rattle.nfg_work.proofs.RightOutcomes.{AreRight-grows, AreRight-set}
use Rattle.nfg_work.proofs.large.load_at.Goals as goal

pub returns-clause-met : goal.returns-clause-met
returns-clause-met g c =
    let script = c.args.script.now in
    let reads = c.args.reads.now in
    let outcomes = c.args.outcomes.now in
    let old = (g.T.Synthetics.seen c.args.pass.now).known in
    let new = (g.T.Synthetics.seen c.load_large_file-loaded.new.pass).known in
    let loaded = c.in_ok-outcome.ensures in
    let done = loaded.done script reads c.args.k c.in-Some.ensures.file in
    record {
      grown = done.0;
      right = AreRight-set new script reads outcomes c.args.k c.in_ok-outcome.outcome
          (AreRight-grows old new loaded.keeps.known script reads outcomes c.requires.outcomes) done.1;
    }
