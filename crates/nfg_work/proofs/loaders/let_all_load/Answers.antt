use Rattle.std.proofs.Common.{◌+◌, ◌<◌, length, sym, subst, arith, rules}
use Rattle.nfg_work.proofs.loaders.let_all_load.Goals as goal

pub for_each_mut-requires-clause-accepts : goal.for_each_mut-requires-clause-accepts
for_each_mut-requires-clause-accepts g c κs within = λ i p in_range is.
    let table = subst (λ loader. g.T.Synthetics.is_of c.args.table.now loader.pass) (sym is) (c.requires.tables i p.now in_range) in
    let place : i + 2 < length c.args.parts.bounds.now = omega (arith, in_range, c.requires.many) in
    let few : i + 1 < 64 = omega (arith, in_range, c.requires.few) in
    (c.requires.bounds, (place, (few, (c.requires.limit, (table, (search rules, search rules, search rules))))))
