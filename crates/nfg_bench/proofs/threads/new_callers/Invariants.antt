use Rattle.std.proofs.Common.{◌≡◌, true}
use Rattle.std.specs.Prelude.{All}
use Rattle.nfg_bench.proofs.threads.new_callers.Given as goal

abbrev pub invariant-forking : goal.invariant-forking
invariant-forking g l = record {
  pass : g.S.Synthetics.is_of l.table l.pass;
  root : (g.S.Synthetics.seen l.pass).root ≡ true;
  passes : All (λ caller. g.S.Synthetics.is_of l.table caller.pass) l.callers.items;
}
