use Rattle.std.proofs.Common.{◌≡◌, length, sym, ap, ◌∙◌, arith}
use Rattle.std.proofs.lemmas.Result.{on_ok_weaker}
use Rattle.std.proofs.lemmas.List.Elements.{All-same, All-weaker}
use Rattle.nfg_syn.specs.Known.{IsSame}
use Rattle.nfg_syn.specs.KnownLaws.{IsWithin-same, IsWithin-same_back, IsWithin-trans}
use Rattle.nfg_syn.specs.SeenLaws.{Keeps-trans}
use Rattle.nfg_work.specs.Workers.{IsDone, IsReady}
use Rattle.nfg_work.proofs.GivenOutcomes.{GrowsBy-same, GrowsBy-trans}
use Rattle.nfg_work.proofs.MetWorkers.{HasMet-trans, IsDone-grows, IsReady-same, lent_back}
use Rattle.nfg_work.proofs.RightOutcomes.{AreRight-grows}
use Rattle.nfg_work.proofs.ahead.do_level.Goals as goal

pub returns-clause-counted : goal.returns-clause-counted
returns-clause-counted g c =
    let count = c.others.result in
    on_ok_weaker c.meet_all.result
    (λ meets. record {
      by = count;
      forks = omega (arith, c.in_ok-forks.ensures.counted, c.in_ok-given.ensures.counts.forks, c.meet_all.ensures.forks);
      meets = omega (arith, meets, c.in_ok-forks.ensures.meets, c.in_ok-given.ensures.counts.meets, c.in_ok-given.ensures.many, c.in_ok-forks.ensures.many, c.as_mut_slice.ensures.len);
      within = c.others.ensures.within;
    })
    c.meet_all.ensures.meets

pub do_shares-requires-clause-outcomes : goal.do_shares-requires-clause-outcomes
do_shares-requires-clause-outcomes g c κs within =
    let old = g.T.Synthetics.seen c.args.pass.now in
    let forked = g.T.Synthetics.seen c.new_workers.new.pass in
    AreRight-grows old.known forked.known (IsWithin-same old.known forked.known c.in_ok-forks.ensures.known) c.args.script.now c.args.reads.now c.args.outcomes.now
    c.requires.outcomes

pub do_shares-requires-clause-ready : goal.do_shares-requires-clause-ready
do_shares-requires-clause-ready g c κs within =
    let old = g.T.Synthetics.seen c.args.pass.now in
    let forked = g.T.Synthetics.seen c.new_workers.new.pass in
    let back : IsSame forked.known old.known = λ k. sym (c.in_ok-forks.ensures.known k) in
    All-same (λ worker. IsReady forked.known (g.T.Synthetics.seen worker.pass) worker.given.items) c.as_mut_slice.result.now c.in_ok-forks.forks.items
    c.as_mut_slice.ensures.value
    (All-weaker (λ worker. IsReady old.known (g.T.Synthetics.seen worker.pass) worker.given.items)
    (λ worker. IsReady forked.known (g.T.Synthetics.seen worker.pass) worker.given.items)
    (λ worker ready. IsReady-same forked.known old.known back (g.T.Synthetics.seen worker.pass) worker.given.items ready)
    c.in_ok-forks.forks.items c.in_ok-forks.ensures.ready)

pub returns-in_err-given-clause-keeps : goal.returns-in_err-given-clause-keeps
returns-in_err-given-clause-keeps g c = Keeps-trans _ _ _ c.in_ok-forks.ensures.keeps c.in_err-given.ensures.keeps

pub returns-clause-keeps : goal.returns-clause-keeps
returns-clause-keeps g c =
    let old = g.T.Synthetics.seen c.args.pass.now in
    let forked = g.T.Synthetics.seen c.new_workers.new.pass in
    let shared = g.T.Synthetics.seen c.do_shares.new.pass in
    let new = g.T.Synthetics.seen c.meet_all.new.pass in
    Keeps-trans old shared new (Keeps-trans old forked shared c.in_ok-forks.ensures.keeps c.in_ok-given.ensures.keeps) c.meet_all.ensures.keeps

pub returns-clause-met : goal.returns-clause-met
returns-clause-met g c =
    let script = c.args.script.now in
    let reads = c.args.reads.now in
    let old = g.T.Synthetics.seen c.args.pass.now in
    let forked = g.T.Synthetics.seen c.new_workers.new.pass in
    let shared = g.T.Synthetics.seen c.do_shares.new.pass in
    let new = g.T.Synthetics.seen c.meet_all.new.pass in
    let same = c.in_ok-forks.ensures.known in
    let did = c.in_ok-given.ensures in
    let within = IsWithin-trans old.known forked.known shared.known (IsWithin-same old.known forked.known same) did.keeps.known in
    let right = c.keep_all.ensures shared.known script reads (AreRight-grows old.known shared.known within script reads c.args.outcomes.now c.requires.outcomes) did.given.right in
    let grown = GrowsBy-trans script reads old.known forked.known shared.known (GrowsBy-same script reads old.known forked.known (IsWithin-same_back old.known forked.known same)) did.given.grown in
    let done = All-weaker (λ worker. IsDone script reads forked.known (g.T.Synthetics.seen worker.pass) worker.given.items worker.is_short)
    (λ worker. IsDone script reads shared.known (g.T.Synthetics.seen worker.pass) worker.given.items worker.is_short)
    (λ worker is. IsDone-grows script reads forked.known shared.known did.keeps.known (g.T.Synthetics.seen worker.pass) worker.given.items worker.is_short is)
    c.do_shares.new.others did.done in
    let forks = c.in_ok-forks.forks in
    let as_many : length c.do_shares.new.others ≡ length forks.items = did.many ∙ ap length c.as_mut_slice.ensures.value in
    let lent = lent_back forks.len forks.items c.do_shares.new.others as_many (omega (arith, forks.ok.0)) in
    let all_done = All-same (λ worker. IsDone script reads shared.known (g.T.Synthetics.seen worker.pass) worker.given.items worker.is_short) _ c.do_shares.new.others lent done in
    on_ok_weaker c.meet_all.result
    (λ met. HasMet-trans script reads old.known shared.known new.known c.keep_all.new.outcomes c.meet_all.new.outcomes
    (record { grown = grown; right = right }) (met script reads all_done right))
    c.meet_all.ensures.met
