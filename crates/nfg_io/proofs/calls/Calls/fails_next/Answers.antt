use Rattle.std.proofs.Common.{sym, ap, ◌∙◌, unwrap_or, ◌^◌}
use Rattle.std.specs.Ordering.{nat_cmp}
use Rattle.std.specs.Cmp.{nat_cmp_total}
use Rattle.std.specs.FinSet.{contains, from_list, contains-from_list}
use Rattle.nfg_io.specs.Calls.{fails_next}
use Rattle.nfg_io.proofs.calls.Calls.fails_next.Goals as goal

pub returns-in-Some : goal.returns-in-Some
returns-in-Some c =
    c.contains.ensures
    ∙ sym (contains-from_list nat_cmp_total c.self.inside.failing.keys c.in-Some.number)
    ∙ ap (λ next. contains (from_list {R = nat_cmp} c.self.inside.failing.keys) (unwrap_or next (2 ^ 64))) (sym c.in-Some.is)
    ∙ ap fails_next c.self.view_is
