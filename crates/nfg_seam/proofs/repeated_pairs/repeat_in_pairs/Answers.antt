use Rattle.std.proofs.Common.{◌≡◌, ◌≤◌, ◌<◌, ◌*◌, ◌/◌, ◌%◌, ◌++◌, ◌∙◌, None, ap, sym, subst}
use Rattle.std.specs.List.{repeat}
use Rattle.nfg_text.specs.Graphemes.{graphemes_of, IsInNfg}
use Rattle.nfg_strand.specs.Pieces.{flat_piece}
use Rattle.nfg_syn.specs.Learned.{first_long}
use Rattle.nfg_syn.specs.RepresentsLaws.{Represents-clusters, Represents-length}
use Rattle.nfg_seam.specs.Made.{length_limit}
use Rattle.nfg_seam.specs.Numbered.{AreNumbered, AreRefused}
use Rattle.nfg_seam.specs.Seam.{GoOnSafely}
use Rattle.nfg_seam.specs.Woven.{woven}
use Rattle.nfg_seam.proofs.RepeatPairs.{pairs_made, pairs_refused, pairs_stop}
use Rattle.nfg_seam.proofs.repeated_pairs.repeat_in_pairs.Goals as goal

pub returns-in-Ok-joined_in_pairs-clause-repeated : goal.returns-in-Ok-joined_in_pairs-clause-repeated
returns-in-Ok-joined_in_pairs-clause-repeated g c list are =
    let old = g.T.Synthetics.seen c.args.pass.now in
    let new = g.T.Synthetics.seen c.number_repeated.new.pass in
    let size = g.T.Synthetics.size c.args.table.now in
    let ns = c.args.a.now.graphemes in
    let n = c.args.n in
    let count = Represents-length old.known ns list are in
    let e = c.in-Ok-joined_in_pairs.ensures in
    let double = c.in-Ok.double.items in
    let text = c.requires.spelled list are in
    let value = ap (λ l. woven (repeat (n % 2) ns) 0 0 l (n / 2)) c.deref.ensures.value in
    pairs_made size old new (g.met.T.Synthetics.knows c.args.table.now c.args.pass.now c.requires.table) ns list n c.args.a.now.pieces are
    (subst IsInNfg (Represents-clusters old.known ns c.requires.graphemes.0 list c.requires.graphemes.1 are) c.requires.graphemes.2)
    (subst (λ t. GoOnSafely (t ++ t) list) text (c.requires.boundary list are)) (subst (λ k. 0 < k) count c.requires.nonempty) c.requires.several
    (subst (λ k. k * n ≤ length_limit) count c.requires.bounded)
    c.in-Ok.ensures.keeps.known (g.met.T.Synthetics.knows c.args.table.now c.number_repeated.new.pass c.in-Ok.ensures.table) double c.in-Ok-joined_in_pairs.made
    (subst (λ t. first_long (graphemes_of (repeat 2 t)) ≡ None) text c.in-Ok.ensures.short)
    (subst (λ t. AreNumbered (graphemes_of (repeat 2 t)) old.known new.known double) text c.in-Ok.ensures.numbers)
    (e.graphemes ∙ value)
    (λ same. e.again (value ∙ same))
    (λ other. e.anew (λ same. other (sym value ∙ same)) ∙ ap flat_piece value)

pub returns-in-Ok-clause-repeated : goal.returns-in-Ok-clause-repeated
returns-in-Ok-clause-repeated g c list are =
    let old = g.T.Synthetics.seen c.args.pass.now in
    let new = g.T.Synthetics.seen c.number_repeated.new.pass in
    let ns = c.args.a.now.graphemes in
    let count = Represents-length old.known ns list are in
    let text = c.requires.spelled list are in
    pairs_stop (g.T.Synthetics.size c.args.table.now) old new (g.met.T.Synthetics.knows c.args.table.now c.args.pass.now c.requires.table) ns list c.args.n c.args.a.now.pieces are
    (subst IsInNfg (Represents-clusters old.known ns c.requires.graphemes.0 list c.requires.graphemes.1 are) c.requires.graphemes.2)
    (subst (λ t. GoOnSafely (t ++ t) list) text (c.requires.boundary list are)) (subst (λ k. 0 < k) count c.requires.nonempty) c.requires.several
    (subst (λ k. k * c.args.n ≤ length_limit) count c.requires.bounded)
    c.in-Ok.ensures.keeps.known c.in-Ok.double.items
    (subst (λ t. AreNumbered (graphemes_of (repeat 2 t)) old.known new.known c.in-Ok.double.items) text c.in-Ok.ensures.numbers)

pub returns-clause-repeated : goal.returns-clause-repeated
returns-clause-repeated g c list are =
    let old = g.T.Synthetics.seen c.args.pass.now in
    let new = g.T.Synthetics.seen c.number_repeated.new.pass in
    let ns = c.args.a.now.graphemes in
    let count = Represents-length old.known ns list are in
    let text = c.requires.spelled list are in
    pairs_refused (g.T.Synthetics.size c.args.table.now) old new (g.met.T.Synthetics.knows c.args.table.now c.args.pass.now c.requires.table) ns list c.args.n c.args.a.now.pieces are
    (subst IsInNfg (Represents-clusters old.known ns c.requires.graphemes.0 list c.requires.graphemes.1 are) c.requires.graphemes.2)
    (subst (λ t. GoOnSafely (t ++ t) list) text (c.requires.boundary list are)) (subst (λ k. 0 < k) count c.requires.nonempty) c.requires.several
    (subst (λ k. k * c.args.n ≤ length_limit) count c.requires.bounded)
    c.in-Err.error
    (subst (λ t. AreRefused (graphemes_of (repeat 2 t)) old new c.in-Err.error) text c.in-Err.ensures.refused)
