use Rattle.std.proofs.Common.{int_eq, arith}
use Rattle.nfg_bench.proofs.ElementLemmas.{all_in_common}
use Rattle.nfg_bench.proofs.plain.common_front32.Goals as goal

pub returns : goal.returns
returns c = all_in_common int_eq c.args.a.now c.args.b.now c.loop-at.at c.min-len.result c.loop-at.invariant c.min-len.ensures (omega (arith, c.loop-at-test.false))
