-- the cluster at each place, from the end on
use Rattle.std.proofs.Common.{rules, ◌≡◌, ◌-◌, suc, w32, to_z, of_z, sym, ◌∙◌, arith}
use Rattle.nfg_syn.specs.RepresentsLaws.{Represents-length}
use Rattle.nfg_seam.proofs.SeamReading.{asked-none, asked-both, cluster-asked, spelled-asked}
use Rattle.nfg_seam.proofs.SeamText.{unsafe-more, left-found, unsafe-none}
use Rattle.nfg_seam.proofs.left_end.left_end.Goals as goal

pub loop-left-init : goal.loop-left-init
loop-left-init g c = record {
  within = omega (arith, c.len-left.ensures.len);
  table = c.requires.table;
  asked = asked-none (g.T.Synthetics.seen c.args.pass.now);
  none = λ list represents.
      let long = Represents-length _ c.args.a.now.graphemes list represents in
      unsafe-none list c.len-left.result (omega (arith, long, c.len-left.ensures.len));
}

pub begins_safely-requires-clause-known : goal.begins_safely-requires-clause-known
begins_safely-requires-clause-known g c κs within =
    let same : to_z w32 (of_z w32 c.get-number.result) ≡ c.get-number.result = search rules in
    spelled-asked _ _ c.loop-left.invariant.asked c.args.a.now.graphemes c.requires.known (c.loop-left.left - 1)
    c.get-number.result (to_z w32 (of_z w32 c.get-number.result)) same c.get-number.ensures

pub returns-then-begins_safely-clause-found : goal.returns-then-begins_safely-clause-found
returns-then-begins_safely-clause-found g c = λ list represents.
    let same : to_z w32 (of_z w32 c.get-number.result) ≡ c.get-number.result = search rules in
    let left = c.loop-left.left in
    let found = cluster-asked _ _ c.loop-left.invariant.asked c.args.a.now.graphemes list represents (left - 1)
    c.get-number.result (to_z w32 (of_z w32 c.get-number.result)) same c.get-number.ensures in
    let is : left ≡ suc (left - 1) = omega (arith, c.loop-left-test.true) in
    left-found list (left - 1) left found.0 is found.1 (sym (c.begins_safely.ensures.begins found.0 found.2) ∙ c.if-begins_safely.true)
    (c.loop-left.invariant.none list represents)

pub loop-left-preserved : goal.loop-left-preserved
loop-left-preserved g c =
    let same : to_z w32 (of_z w32 c.get-number.result) ≡ c.get-number.result = search rules in
    let left = c.loop-left.left in
    let is : left ≡ suc (left - 1) = omega (arith, c.loop-left-test.true) in
    record {
      within = omega (arith, c.loop-left.invariant.within);
      table = c.begins_safely.ensures.table;
      asked = asked-both _ _ _ c.loop-left.invariant.asked c.begins_safely.ensures.asked;
      none = λ list represents.
          let found = cluster-asked _ _ c.loop-left.invariant.asked c.args.a.now.graphemes list represents (left - 1)
          c.get-number.result (to_z w32 (of_z w32 c.get-number.result)) same c.get-number.ensures in
          unsafe-more list (left - 1) left found.0 is found.1 (sym (c.begins_safely.ensures.begins found.0 found.2) ∙ c.if-begins_safely.false)
          (c.loop-left.invariant.none list represents);
    }
