use Rattle.std.proofs.Common.{ap, ◌∙◌, ◌^◌, unwrap_or}
use Rattle.std.specs.Ordering.{nat_cmp}
use Rattle.std.specs.FinSet.{FinSet, contains, insert, from_list}
use Rattle.nfg_io.specs.Calls.{Calls}
use Rattle.nfg_io.proofs.CallsLemmas.{from_list-insert, contains-insert_other}
use Rattle.nfg_io.proofs.calls.Calls.fail_at.Goals as goal

pub invariant_of-self-2 : goal.invariant_of-self-2
invariant_of-self-2 c =
    ap (λ numbers. contains numbers (2 ^ 64)) (from_list-insert _ _ c.args.call c.in_ok-insert.ensures.updates.0)
    ∙ contains-insert_other (from_list {R = nat_cmp} c.self.inside.failing.keys) c.args.call (2 ^ 64) c.ranges.call.fits c.self.invariant

pub returns-clause-ok : goal.returns-clause-ok
returns-clause-ok c =
    let seen : FinSet nat_cmp → Calls = λ numbers. record { failing = numbers; made = unwrap_or c.self.inside.next (2 ^ 64); faults = c.self.inside.faults } in
    let inserted : Calls → Calls = λ calls. record calls { failing = insert calls.failing c.args.call } in
    ap seen (from_list-insert _ _ c.args.call c.in_ok-insert.ensures.updates.0) ∙ ap inserted c.self.view_is
