-- one cluster after another
use Rattle.std.proofs.Common.{rules, ◌≡◌, w32, to_z, of_z, arith}
use Rattle.nfg_syn.specs.RepresentsLaws.{Represents-length}
use Rattle.nfg_seam.proofs.SeamReading.{asked-again, cluster-asked, spelled-asked, text-left_more}
use Rattle.nfg_seam.proofs.SeamText.{text-whole}
use Rattle.nfg_seam.proofs.seam.append_from.Goals as goal

pub append_cluster-requires-clause-known : goal.append_cluster-requires-clause-known
append_cluster-requires-clause-known g c κs within =
    let same : to_z w32 (of_z w32 c.get.result) ≡ c.get.result = search rules in
    spelled-asked _ _ c.loop-place.invariant.asked c.args.a.now.graphemes c.requires.known c.loop-place.place c.get.result (to_z w32 (of_z w32 c.get.result)) same c.get.ensures

pub loop-place-preserved : goal.loop-place-preserved
loop-place-preserved g c =
    let same : to_z w32 (of_z w32 c.get.result) ≡ c.get.result = search rules in
    let place = c.loop-place.place in
    record {
      within = omega (arith, c.loop-place-test.true, c.len.ensures.len);
      table = c.in_ok-append_cluster.ensures.table;
      asked = asked-again _ _ _ c.loop-place.invariant.asked c.in_ok-append_cluster.ensures.keeps c.in_ok-append_cluster.ensures.counts c.in_ok-append_cluster.ensures.known;
      added = λ list represents.
          let found = cluster-asked _ _ c.loop-place.invariant.asked c.args.a.now.graphemes list represents place c.get.result (to_z w32 (of_z w32 c.get.result)) same c.get.ensures in
          text-left_more _ c.loop-place.into c.append_cluster.new.into list place found.0 found.1
          (c.loop-place.invariant.added list represents) (c.in_ok-append_cluster.ensures.added found.0 found.2);
    }

pub returns-clause-added : goal.returns-clause-added
returns-clause-added g c = λ list represents.
    let long = Represents-length _ c.args.a.now.graphemes list represents in
    text-whole c.loop-place.into _ list c.loop-place.place (omega (arith, long, c.loop-place-test.false, c.len.ensures.len))
    (c.loop-place.invariant.added list represents)
