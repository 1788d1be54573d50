use Rattle.std.proofs.Common.{◌≡◌, ◌++◌, Some, pos, slice_index_or, append-nil, ap, sym, ◌∙◌, w32, to_z, of_z, rules}
use Rattle.nfg_syn.specs.Represents.{spelling}
use Rattle.nfg_work.specs.Separated.{shown_with_space}
use Rattle.nfg_work.proofs.Joined.{mapped-next, spelled_at}
use Rattle.nfg_work.proofs.Tables.{slice_get-at}
use Rattle.nfg_work.proofs.printing.show_run.Goals as goal

pub spell-len-requires-clause-known : goal.spell-len-requires-clause-known
spell-len-requires-clause-known g c κs within =
    let n = slice_index_or c.args.numbers.now 0 (pos 0) in
    let n_is : to_z w32 (of_z w32 n) ≡ n = search rules in
    let s = spelled_at (g.T.Synthetics.seen c.args.pass.now).known c.args.numbers.now c.requires.known.0 0 n c.requires.known.1
    (slice_get-at c.args.numbers.now 0 (pos 0) c.requires.some) in
    (s.cluster, ap (spelling (g.T.Synthetics.seen c.args.pass.now).known) n_is ∙ s.spelled)

pub returns-clause-shown : goal.returns-clause-shown
returns-clause-shown g c = λ clusters are.
    let n = slice_index_or c.args.numbers.now 0 (pos 0) in
    let n_is : to_z w32 (of_z w32 n) ≡ n = search rules in
    let s = spelled_at (g.T.Synthetics.seen c.args.pass.now).known c.args.numbers.now clusters 0 n are
    (slice_get-at c.args.numbers.now 0 (pos 0) c.requires.some) in
    let spelled : spelling (g.T.Synthetics.seen c.args.pass.now).known (to_z w32 (of_z w32 n)) ≡ Some s.cluster = ap (spelling (g.T.Synthetics.seen c.args.pass.now).known) n_is ∙ s.spelled in
    mapped-next shown_with_space clusters 0 s.cluster c.args.output.now c.args.output.now c.append_cluster.new.output s.at
    (sym (append-nil c.args.output.now))
    (c.in_ok-append_cluster.ensures ∙ ap (λ v. c.args.output.now ++ shown_with_space v) (c.spell-len.ensures.spelled s.cluster spelled))
