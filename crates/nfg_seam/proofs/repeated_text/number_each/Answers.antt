use Rattle.std.proofs.Common.{◌≤◌, ◌++◌, ◌∷◌, [], suc, ◌+◌, ◌<◌, length, take, drop, set, to_z, of_z, w32, arith, ap, sym, subst, ◌∙◌}
use Rattle.std.proofs.lemmas.List.{take_more, take_more_set, length-set}
use Rattle.nfg_syn.specs.SeenLaws.{Keeps-trans, SameCounts-trans}
use Rattle.nfg_seam.specs.Numbered.{IsCluster, AreNumbered}
use Rattle.nfg_seam.proofs.RepeatLearned.{Numbered-push, Refused-at}
use Rattle.nfg_seam.proofs.RepeatSinks.{cluster_at, cluster_short, split_at}
use Rattle.nfg_seam.proofs.RepeatLists.{back}
use Rattle.nfg_seam.proofs.repeated_text.number_each.Goals as goal

pub number_of-requires-clause-cluster : goal.number_of-requires-clause-cluster
number_of-requires-clause-cluster g c κs within =
    subst IsCluster (sym c.get.ensures)
    (cluster_at c.args.clusters.now.heads c.numbering.k c.requires.clusters (omega (arith, c.numbering-test.true, c.numbering.invariant.count, c.requires.room)))

pub number_of-requires-clause-short : goal.number_of-requires-clause-short
number_of-requires-clause-short g c κs within =
    subst (λ t. length t ≤ 1024) (sym c.get.ensures)
    (cluster_short c.args.clusters.now.heads c.numbering.k c.requires.short (omega (arith, c.numbering-test.true, c.numbering.invariant.count, c.requires.room)))

pub returns-in-Err-clause-refused : goal.returns-in-Err-clause-refused
returns-in-Err-clause-refused g c =
    let k = c.numbering.k in
    let heads = c.args.clusters.now.heads in
    Refused-at heads (take k heads) _ (drop (suc k) heads)
    (g.T.Synthetics.seen c.args.pass.now) (g.T.Synthetics.seen c.numbering.pass) (g.T.Synthetics.seen c.number_of.new.pass)
    (take k c.numbering.into) c.in-Err.error
    (split_at heads k (omega (arith, c.numbering-test.true, c.numbering.invariant.count, c.requires.room)) ∙ ap (λ t. take k heads ++ t ∷ drop (suc k) heads) (sym c.get.ensures))
    c.requires.short c.numbering.invariant.numbered c.in-Err.ensures.refused

pub numbering-preserved : goal.numbering-preserved
numbering-preserved g c =
    let k = c.numbering.k in
    let i = c.numbering.invariant in
    let heads = c.args.clusters.now.heads in
    let written = c.numbering.into in
    let kept = to_z w32 (of_z w32 c.in-Ok.number) in
    let inside : k < length written = omega (arith, c.numbering-test.true, i.count) in
    let fits = back c.in-Ok.number (rw c.in-Ok.is at c.number_of.type_inv).1.1.1.1.0.1 in
    record {
      count = omega (arith, length-set written k kept, i.count);
      table = c.in-Ok.ensures.table;
      keeps = Keeps-trans _ _ _ i.keeps c.in-Ok.ensures.keeps;
      counts = SameCounts-trans _ _ _ i.counts c.in-Ok.ensures.counts;
      numbered =
          subst (λ cs. AreNumbered cs (g.T.Synthetics.seen c.args.pass.now).known (g.T.Synthetics.seen c.number_of.new.pass).known (take (k + 1) (set written k kept)))
          (ap (λ t. take k heads ++ t ∷ []) c.get.ensures ∙ sym (take_more heads k [] (omega (arith, inside, i.count, c.requires.room))))
          (Numbered-push (take k heads) _ (g.T.Synthetics.seen c.args.pass.now).known
          (g.T.Synthetics.seen c.numbering.pass).known (g.T.Synthetics.seen c.number_of.new.pass).known
          (take k written) (take (k + 1) (set written k kept)) c.in-Ok.number c.in-Ok.ensures.keeps.known i.numbered
          (take_more_set written k kept inside ∙ ap (λ n. take k written ++ n ∷ []) fits) c.in-Ok.ensures.number);
    }
