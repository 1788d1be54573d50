-- the memory goes on over the cluster that is added
use Rattle.std.proofs.Common.{rules, ◌≡◌, ◌++◌, length, drop, reverse, w32, to_z, of_z, sym, ap, subst, ◌∙◌, arith, length-append}
use Rattle.nfg_syn.specs.Represents.{spelling}
use Rattle.nfg_text.specs.Breaks.{Remembers}
use Rattle.nfg_text.specs.Text.{IsText}
use Rattle.nfg_seam.proofs.SeamReading.{spelled-text, behind-added}
use Rattle.nfg_seam.proofs.right_end.append_remembered.Goals as goal

pub behind-requires : goal.behind-requires
behind-requires g c =
    let known = (g.T.Synthetics.seen c.args.pass.now).known in
    let same : to_z w32 (of_z w32 c.args.n) ≡ c.args.n = search rules in
    let cluster = c.requires.known.0 in
    let added = c.in_ok-append_cluster.ensures.added cluster (ap (spelling known) same ∙ c.requires.known.1) in
    let long = ap length added ∙ length-append c.args.text.now cluster in
    let read = ap length c.as_slice.ensures in
    omega (arith, long, read, c.len-start.ensures)

pub remembered-requires : goal.remembered-requires
remembered-requires g c =
    let knows = g.met.T.Synthetics.knows c.args.table.now c.args.pass.now c.requires.table in
    let known = (g.T.Synthetics.seen c.args.pass.now).known in
    let same : to_z w32 (of_z w32 c.args.n) ≡ c.args.n = search rules in
    let cluster = c.requires.known.0 in
    let added = c.in_ok-append_cluster.ensures.added cluster (ap (spelling known) same ∙ c.requires.known.1) in
    let behind = c.behind.ensures ∙ ap (λ n. drop n c.as_slice.result.now) c.len-start.ensures ∙ ap (drop (length c.args.text.now)) c.as_slice.ensures
    ∙ behind-added c.args.text.now c.append_cluster.new.into cluster added in
    subst IsText (sym behind) (spelled-text _ _ _ knows c.args.n cluster c.requires.known.1)

pub returns-clause-memory : goal.returns-clause-memory
returns-clause-memory g c =
    let known = (g.T.Synthetics.seen c.args.pass.now).known in
    let same : to_z w32 (of_z w32 c.args.n) ≡ c.args.n = search rules in
    let cluster = c.requires.known.0 in
    let added = c.in_ok-append_cluster.ensures.added cluster (ap (spelling known) same ∙ c.requires.known.1) in
    let behind = c.behind.ensures ∙ ap (λ n. drop n c.as_slice.result.now) c.len-start.ensures ∙ ap (drop (length c.args.text.now)) c.as_slice.ensures
    ∙ behind-added c.args.text.now c.append_cluster.new.into cluster added in
    subst (λ t. Remembers c.remembered.result (reverse t)) (ap (λ t. c.args.text.now ++ t) behind ∙ sym added) (c.remembered.ensures c.args.text.now c.requires.memory)
