use Rattle.std.proofs.Common.{sym, subst, rules}
use Rattle.nfg_bench.proofs.threads.let_all_number.Goals as goal

pub for_each_mut-requires-clause-accepts : goal.for_each_mut-requires-clause-accepts
for_each_mut-requires-clause-accepts g c κs within = λ i p in_range is.
    let pass = subst (λ caller. g.S.Synthetics.is_of c.args.table.now caller.pass) (sym is) (c.requires i p.now in_range) in
    (pass, (search rules, search rules))
