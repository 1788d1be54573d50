-- one cluster after another, up to one that begins safely
use Rattle.std.proofs.Common.{rules, ◌≡◌, w32, to_z, of_z, sym, ◌∙◌, arith}
use Rattle.nfg_syn.specs.RepresentsLaws.{Represents-length}
use Rattle.nfg_seam.proofs.SeamReading.{asked-again, asked-both, cluster-asked, spelled-asked, text-front_more}
use Rattle.nfg_seam.proofs.SeamText.{safe-found, safe-none}
use Rattle.nfg_seam.proofs.seam.append_to_safe_start.Goals as goal

pub begins_safely-requires-clause-known : goal.begins_safely-requires-clause-known
begins_safely-requires-clause-known g c κs within =
    let same : to_z w32 (of_z w32 c.get-number.result) ≡ c.get-number.result = search rules in
    spelled-asked _ _ c.loop-place.invariant.asked c.args.b.now.graphemes c.requires.known c.loop-place.place
    c.get-number.result (to_z w32 (of_z w32 c.get-number.result)) same c.get-number.ensures

pub returns-then-begins_safely-clause-safe : goal.returns-then-begins_safely-clause-safe
returns-then-begins_safely-clause-safe g c = λ list represents.
    let same : to_z w32 (of_z w32 c.get-number.result) ≡ c.get-number.result = search rules in
    let found = cluster-asked _ _ c.loop-place.invariant.asked c.args.b.now.graphemes list represents c.loop-place.place
    c.get-number.result (to_z w32 (of_z w32 c.get-number.result)) same c.get-number.ensures in
    safe-found list c.loop-place.place found.0 found.1 (sym (c.begins_safely.ensures.begins found.0 found.2) ∙ c.if-begins_safely.true)

pub append_cluster-requires-clause-known : goal.append_cluster-requires-clause-known
append_cluster-requires-clause-known g c κs within =
    let same : to_z w32 (of_z w32 c.get-number.result) ≡ c.get-number.result = search rules in
    spelled-asked _ _ (asked-both _ _ _ c.loop-place.invariant.asked c.begins_safely.ensures.asked) c.args.b.now.graphemes c.requires.known c.loop-place.place
    c.get-number.result (to_z w32 (of_z w32 c.get-number.result)) same c.get-number.ensures

pub loop-place-preserved : goal.loop-place-preserved
loop-place-preserved g c =
    let same : to_z w32 (of_z w32 c.get-number.result) ≡ c.get-number.result = search rules in
    let place = c.loop-place.place in
    let asked = asked-both _ _ _ c.loop-place.invariant.asked c.begins_safely.ensures.asked in
    record {
      within = omega (arith, c.loop-place-test.true, c.len.ensures.len);
      table = c.in_ok-append_cluster.ensures.table;
      asked = asked-again _ _ _ asked c.in_ok-append_cluster.ensures.keeps c.in_ok-append_cluster.ensures.counts c.in_ok-append_cluster.ensures.known;
      added = λ list represents.
          let found = cluster-asked _ _ asked c.args.b.now.graphemes list represents place
          c.get-number.result (to_z w32 (of_z w32 c.get-number.result)) same c.get-number.ensures in
          text-front_more c.args.into.now c.loop-place.into c.append_cluster.new.into list place found.0 found.1
          (c.loop-place.invariant.added list represents) (c.in_ok-append_cluster.ensures.added found.0 found.2);
    }

pub returns-clause-safe : goal.returns-clause-safe
returns-clause-safe g c = λ list represents.
    let long = Represents-length _ c.args.b.now.graphemes list represents in
    safe-none list c.loop-place.place (omega (arith, long, c.loop-place-test.false, c.len.ensures.len))
