-- the clusters of the seam between what is kept of both strings
use Rattle.std.proofs.Common.{◌++◌, take, drop, sym, ap, subst, ◌∙◌, arith}
use Rattle.std.specs.List.{repeat}
use Rattle.nfg_text.specs.Graphemes.{graphemes_of, clusters, IsInNfg}
use Rattle.nfg_text.specs.Text.{text_of, IsText}
use Rattle.nfg_text.proofs.Proved.{parts_of_text, nfc_of_text}
use Rattle.nfg_syn.specs.Learned.{first_long}
use Rattle.nfg_syn.specs.RepresentsLaws.{Represents-clusters, Represents-length, Represents-take, Represents-drop}
use Rattle.nfg_seam.specs.Numbered.{AreNumbered, AreRefused}
use Rattle.nfg_seam.proofs.ConcatMade.{seam-graphemes, joined-answer, refused-answer}
use Rattle.nfg_seam.proofs.RepeatSpelled.{none_is_long}
use Rattle.nfg_seam.proofs.SeamReading.{represented-text}
use Rattle.nfg_seam.proofs.joining.join_at.Goals as goal

pub number_repeated-requires-clause-text : goal.number_repeated-requires-clause-text
number_repeated-requires-clause-text g c κs within =
    let knows = g.met.T.Synthetics.knows c.args.table.now c.args.pass.now c.requires.table in
    let a = c.requires.left.0 in
    let b = c.requires.right.0 in
    let seam = c.args.seam.now in
    let is = c.requires.seam a b c.requires.left.1 c.requires.right.1 in
    let middle = text_of (drop seam.left a) ++ text_of (take seam.right b) in
    let text : IsText middle =
    (parts_of_text (text_of (drop seam.left a)) (text_of (take seam.right b))).1 (
      represented-text _ _ _ knows (drop seam.left c.args.a.now.graphemes) (drop seam.left a) (Represents-drop _ seam.left c.args.a.now.graphemes a c.requires.left.1),
      represented-text _ _ _ knows (take seam.right c.args.b.now.graphemes) (take seam.right b) (Represents-take _ seam.right c.args.b.now.graphemes b c.requires.right.1),
    ) in
    subst IsText (sym (c.as_slice.ensures ∙ is.text)) (nfc_of_text middle text)

pub put_between-requires-clause-left : goal.put_between-requires-clause-left
put_between-requires-clause-left g c =
    let is = c.requires.seam c.requires.left.0 c.requires.right.0 c.requires.left.1 c.requires.right.1 in
    let long = Represents-length _ c.args.a.now.graphemes c.requires.left.0 c.requires.left.1 in
    omega (arith, long, is.left_within)

pub put_between-requires-clause-right : goal.put_between-requires-clause-right
put_between-requires-clause-right g c =
    let is = c.requires.seam c.requires.left.0 c.requires.right.0 c.requires.left.1 c.requires.right.1 in
    let long = Represents-length _ c.args.b.now.graphemes c.requires.right.0 c.requires.right.1 in
    omega (arith, long, is.right_within)

pub returns-in-Ok-clause-joined : goal.returns-in-Ok-clause-joined
returns-in-Ok-clause-joined g c = λ a b ra rb.
    let old = g.T.Synthetics.seen c.args.pass.now in
    let new = g.T.Synthetics.seen c.number_repeated.new.pass in
    let knows_old = g.met.T.Synthetics.knows c.args.table.now c.args.pass.now c.requires.table in
    let knows = g.met.T.Synthetics.knows c.args.table.now c.number_repeated.new.pass c.number_repeated.ensures.table in
    let seam = c.args.seam.now in
    let is = c.requires.seam a b ra rb in
    let nfg_a = subst IsInNfg (Represents-clusters _ c.args.a.now.graphemes c.requires.left.0 a c.requires.left.1 ra) c.requires.left.2 in
    let nfg_b = subst IsInNfg (Represents-clusters _ c.args.b.now.graphemes c.requires.right.0 b c.requires.right.1 rb) c.requires.right.2 in
    let long_a = Represents-length _ c.args.a.now.graphemes a ra in
    let long_b = Represents-length _ c.args.b.now.graphemes b rb in
    let whole = ap (λ t. graphemes_of (repeat 1 t)) c.as_slice.ensures ∙ seam-graphemes a b seam is in
    let numbered = subst (λ cs. AreNumbered cs old.known new.known c.in-Ok.middle.items) whole c.in-Ok.ensures.numbers in
    let short = ap first_long (sym whole) ∙ c.in-Ok.ensures.short in
    let middle = c.deref.ensures.value in
    joined-answer _ old new knows c.number_repeated.ensures.keeps.known a b seam c.args.a.now c.args.b.now c.deref.result.now c.put_between.result
    (omega (arith, long_a, long_b, c.requires.within)) nfg_a nfg_b is ra rb
    (none_is_long _ _ _ knows_old (take seam.left c.args.a.now.graphemes) (take seam.left a) (Represents-take _ seam.left c.args.a.now.graphemes a ra))
    (none_is_long _ _ _ knows_old (drop seam.right c.args.b.now.graphemes) (drop seam.right b) (Represents-drop _ seam.right c.args.b.now.graphemes b rb))
    short (subst (AreNumbered (clusters seam.text) old.known new.known) (sym middle) numbered)
    c.put_between.ensures.graphemes c.put_between.ensures.pieces c.put_between.ensures.refused

pub returns-in-Err-clause-joined : goal.returns-in-Err-clause-joined
returns-in-Err-clause-joined g c = λ a b ra rb.
    let old = g.T.Synthetics.seen c.args.pass.now in
    let new = g.T.Synthetics.seen c.number_repeated.new.pass in
    let knows_old = g.met.T.Synthetics.knows c.args.table.now c.args.pass.now c.requires.table in
    let seam = c.args.seam.now in
    let is = c.requires.seam a b ra rb in
    let nfg_a = subst IsInNfg (Represents-clusters _ c.args.a.now.graphemes c.requires.left.0 a c.requires.left.1 ra) c.requires.left.2 in
    let nfg_b = subst IsInNfg (Represents-clusters _ c.args.b.now.graphemes c.requires.right.0 b c.requires.right.1 rb) c.requires.right.2 in
    let long_a = Represents-length _ c.args.a.now.graphemes a ra in
    let long_b = Represents-length _ c.args.b.now.graphemes b rb in
    let whole = ap (λ t. graphemes_of (repeat 1 t)) c.as_slice.ensures ∙ seam-graphemes a b seam is in
    refused-answer old new a b seam c.args.a.now c.args.b.now c.in-Err.error c.counted_from.result
    (omega (arith, long_a, long_b, c.requires.within)) nfg_a nfg_b is ra
    (none_is_long _ _ _ knows_old (take seam.left c.args.a.now.graphemes) (take seam.left a) (Represents-take _ seam.left c.args.a.now.graphemes a ra))
    (none_is_long _ _ _ knows_old (drop seam.right c.args.b.now.graphemes) (drop seam.right b) (Represents-drop _ seam.right c.args.b.now.graphemes b rb))
    (subst (λ cs. AreRefused cs old new c.in-Err.error) whole c.in-Err.ensures.refused) c.counted_from.ensures
