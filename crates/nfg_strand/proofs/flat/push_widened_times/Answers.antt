use Rattle.std.proofs.Common.{◌++◌, ap, ◌∙◌}
use Rattle.nfg_strand.proofs.Repeats.{pushed_again}
use Rattle.nfg_strand.proofs.flat.push_widened_times.Goals as goal

pub times-preserved : goal.times-preserved
times-preserved c =
    c.in_ok-push_widened.ensures ∙ ap (λ l. l ++ c.args.cells.now) c.times.invariant
    ∙ pushed_again c.args.into.now.items c.times._k c.args.cells.now
