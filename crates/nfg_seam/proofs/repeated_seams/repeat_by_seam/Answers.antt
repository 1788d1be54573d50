use Rattle.std.proofs.Common.{◌≡◌, ◌≤◌, ◌<◌, ◌-◌, ◌*◌, ◌∙◌, None, ap, sym, subst}
use Rattle.std.specs.List.{repeat}
use Rattle.nfg_text.specs.Graphemes.{graphemes_of, IsInNfg}
use Rattle.nfg_text.specs.Text.{IsText}
use Rattle.nfg_strand.specs.Pieces.{flat_piece}
use Rattle.nfg_syn.specs.Learned.{first_long}
use Rattle.nfg_syn.specs.RepresentsLaws.{Represents-clusters, Represents-length}
use Rattle.nfg_seam.specs.Made.{length_limit}
use Rattle.nfg_seam.specs.Numbered.{AreNumbered, AreRefused}
use Rattle.nfg_seam.specs.Woven.{woven}
use Rattle.nfg_seam.proofs.RepeatSeam.{seam_text, seam_made, seam_refused, seam_stops}
use Rattle.nfg_seam.proofs.repeated_seams.repeat_by_seam.Goals as goal

pub number_repeated-requires-clause-text : goal.number_repeated-requires-clause-text
number_repeated-requires-clause-text g c κs within =
    let seen = g.T.Synthetics.seen c.args.pass.now in
    let list = c.requires.graphemes.0 in
    let are = c.requires.graphemes.1 in
    subst IsText (sym c.as_slice.ensures)
    (seam_text (g.T.Synthetics.size c.args.table.now) seen (g.met.T.Synthetics.knows c.args.table.now c.args.pass.now c.requires.table)
    c.args.a.now.graphemes list c.args.seam.now are (c.requires.seam list are))

pub joined_by-requires-clause-inside : goal.joined_by-requires-clause-inside
joined_by-requires-clause-inside g c =
    let list = c.requires.graphemes.0 in
    let are = c.requires.graphemes.1 in
    subst (λ k. c.args.seam.now.left ≤ k) (sym (Represents-length (g.T.Synthetics.seen c.args.pass.now).known c.args.a.now.graphemes list are)) (c.requires.seam list are).left_within

pub returns-in-Ok-joined_by-clause-repeated : goal.returns-in-Ok-joined_by-clause-repeated
returns-in-Ok-joined_by-clause-repeated g c list are =
    let old = g.T.Synthetics.seen c.args.pass.now in
    let new = g.T.Synthetics.seen c.number_repeated.new.pass in
    let size = g.T.Synthetics.size c.args.table.now in
    let ns = c.args.a.now.graphemes in
    let seam = c.args.seam.now in
    let count = Represents-length old.known ns list are in
    let e = c.in-Ok-joined_by.ensures in
    let made = c.in-Ok-joined_by.made in
    let middle = c.in-Ok.middle.items in
    let n = c.args.n in
    let text = c.as_slice.ensures in
    let value = c.deref.ensures.value in
    seam_made size old new (g.met.T.Synthetics.knows c.args.table.now c.args.pass.now c.requires.table) ns list seam n c.args.a.now.pieces are
    (subst IsInNfg (Represents-clusters old.known ns c.requires.graphemes.0 list c.requires.graphemes.1 are) c.requires.graphemes.2)
    (c.requires.seam list are) c.requires.ordered (subst (λ k. 0 < k) count c.requires.nonempty) c.requires.several
    (subst (λ k. k * n ≤ length_limit) count c.requires.bounded)
    c.in-Ok.ensures.keeps.known (g.met.T.Synthetics.knows c.args.table.now c.number_repeated.new.pass c.in-Ok.ensures.table) middle made
    (subst (λ t. first_long (graphemes_of (repeat 1 t)) ≡ None) text c.in-Ok.ensures.short)
    (subst (λ t. AreNumbered (graphemes_of (repeat 1 t)) old.known new.known middle) text c.in-Ok.ensures.numbers)
    (e.graphemes ∙ ap (λ l. woven ns seam.left seam.right l (n - 1)) value)
    (λ same. e.again (ap (λ l. woven ns seam.left seam.right l (n - 1)) value ∙ same))
    (λ other. e.anew (λ same. other (sym (ap (λ l. woven ns seam.left seam.right l (n - 1)) value) ∙ same))
    ∙ ap (λ l. flat_piece (woven ns seam.left seam.right l (n - 1))) value)

pub returns-in-Ok-clause-repeated : goal.returns-in-Ok-clause-repeated
returns-in-Ok-clause-repeated g c list are =
    let old = g.T.Synthetics.seen c.args.pass.now in
    let new = g.T.Synthetics.seen c.number_repeated.new.pass in
    let ns = c.args.a.now.graphemes in
    let count = Represents-length old.known ns list are in
    seam_stops (g.T.Synthetics.size c.args.table.now) old new (g.met.T.Synthetics.knows c.args.table.now c.args.pass.now c.requires.table) ns list c.args.seam.now c.args.n c.args.a.now.pieces are
    (subst IsInNfg (Represents-clusters old.known ns c.requires.graphemes.0 list c.requires.graphemes.1 are) c.requires.graphemes.2)
    (c.requires.seam list are) c.requires.ordered (subst (λ k. 0 < k) count c.requires.nonempty) c.requires.several
    (subst (λ k. k * c.args.n ≤ length_limit) count c.requires.bounded)
    c.in-Ok.ensures.keeps.known c.in-Ok.middle.items
    (subst (λ t. AreNumbered (graphemes_of (repeat 1 t)) old.known new.known c.in-Ok.middle.items) c.as_slice.ensures c.in-Ok.ensures.numbers)

pub returns-clause-repeated : goal.returns-clause-repeated
returns-clause-repeated g c list are =
    let old = g.T.Synthetics.seen c.args.pass.now in
    let new = g.T.Synthetics.seen c.number_repeated.new.pass in
    let ns = c.args.a.now.graphemes in
    let count = Represents-length old.known ns list are in
    seam_refused (g.T.Synthetics.size c.args.table.now) old new (g.met.T.Synthetics.knows c.args.table.now c.args.pass.now c.requires.table) ns list c.args.seam.now c.args.n c.args.a.now.pieces are
    (subst IsInNfg (Represents-clusters old.known ns c.requires.graphemes.0 list c.requires.graphemes.1 are) c.requires.graphemes.2)
    (c.requires.seam list are) c.requires.ordered (subst (λ k. 0 < k) count c.requires.nonempty) c.requires.several
    (subst (λ k. k * c.args.n ≤ length_limit) count c.requires.bounded)
    c.in-Err.error c.shifted.result
    (subst (λ t. AreRefused (graphemes_of (repeat 1 t)) old new c.in-Err.error) c.as_slice.ensures c.in-Err.ensures.refused)
    c.shifted.ensures
