-- equal numbers are equal graphemes, and these decide equivalence
use Rattle.nfg_ops.proofs.Standing.{numbers-equivalent}
use Rattle.nfg_ops.proofs.order.equal.Goals as goal

pub returns : goal.returns
returns g c =
    let knows = g.met.T.Synthetics.knows c.args.table.now c.args.pass.now c.requires.table in
    record {
      equivalent = λ left right represents other_represents.
          numbers-equivalent _ _ _ knows c.args.a.now.graphemes c.args.b.now.graphemes c.requires.left c.requires.right left right
          represents other_represents c.are_same.result c.are_same.ensures;
    }
