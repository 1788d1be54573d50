-- a code point is written where it stands for itself
use Rattle.std.proofs.Common.{rules, ◌≡◌, Some, w32, to_z, of_z, sym, subst, arith}
use Rattle.nfg_syn.specs.Represents.{spelling}
use Rattle.nfg_ops.proofs.Writing.{code-written}
use Rattle.nfg_ops.proofs.spelled.write_cluster.Goals as goal

pub returns-then-n-ge0-clause-written : goal.returns-then-n-ge0-clause-written
returns-then-n-ge0-clause-written g c = λ cluster e.
    let known = (g.T.Synthetics.seen c.args.pass.now).known in
    let number = to_z w32 (of_z w32 c.args.n) in
    let same : number ≡ c.args.n = search rules in
    code-written known number c.args.into.now cluster c.if-n-ge0.true (omega (arith, c.requires.room))
    (subst (λ n. spelling known n ≡ Some cluster) (sym same) e)
