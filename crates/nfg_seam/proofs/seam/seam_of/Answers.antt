-- the text of a seam, composed once and gone on with
use Rattle.std.proofs.Common.{[], take, drop, reverse, sym, ap, subst, ◌∙◌, arith}
use Rattle.nfg_text.specs.Breaks.{Remembers}
use Rattle.nfg_text.specs.Forms.{nfc}
use Rattle.nfg_text.specs.Graphemes.{IsInNfg}
use Rattle.nfg_text.specs.Text.{text_of, IsText}
use Rattle.nfg_text.proofs.Proved.{parts_of_text}
use Rattle.nfg_syn.specs.RepresentsLaws.{Represents-length, Represents-clusters, Represents-take, Represents-drop}
use Rattle.nfg_seam.proofs.SeamReading.{asked-both, Represents-asked, known-asked, represented-text}
use Rattle.nfg_seam.proofs.SeamText.{joined-is, seam-text}
use Rattle.nfg_seam.proofs.seam.seam_of.Goals as goal

pub nfc_of-requires : goal.nfc_of-requires
nfc_of-requires g c =
    let knows = g.met.T.Synthetics.knows c.args.table.now c.args.pass.now c.requires.table in
    let a = c.requires.left.0 in
    let b = c.requires.right.0 in
    let left = c.left_end-left.result in
    let start = c.in_ok-start.start in
    let first = c.left_end-left.ensures.asked in
    let second = asked-both _ _ _ first c.in_ok-append_from.ensures.asked in
    let joined = joined-is c.new-joined.result c.append_from.new.into c.append_to_safe_start.new.into (text_of (drop left a)) (text_of (take start b)) c.new-joined.ensures
    (c.in_ok-append_from.ensures.added a (Represents-asked _ _ first c.args.a.now.graphemes a c.requires.left.1))
    (c.in_ok-start.ensures.added b (Represents-asked _ _ second c.args.b.now.graphemes b c.requires.right.1)) in
    let text = (parts_of_text (text_of (drop left a)) (text_of (take start b))).1 (
      represented-text _ _ _ knows (drop left c.args.a.now.graphemes) (drop left a) (Represents-drop _ left c.args.a.now.graphemes a c.requires.left.1),
      represented-text _ _ _ knows (take start c.args.b.now.graphemes) (take start b) (Represents-take _ start c.args.b.now.graphemes b c.requires.right.1),
    ) in
    subst IsText (sym (c.as_slice.ensures ∙ joined)) text

pub append_to_boundary-requires-clause-known : goal.append_to_boundary-requires-clause-known
append_to_boundary-requires-clause-known g c κs within =
    let asked = asked-both _ _ _ (asked-both _ _ _ c.left_end-left.ensures.asked c.in_ok-append_from.ensures.asked) c.in_ok-start.ensures.asked in
    known-asked _ _ asked c.args.b.now.graphemes (c.requires.right.0, c.requires.right.1)

pub append_to_boundary-requires-clause-memory : goal.append_to_boundary-requires-clause-memory
append_to_boundary-requires-clause-memory g c κs within =
    subst (λ t. Remembers c.remembered-memory.result (reverse t)) c.as_slice-2.ensures (c.remembered-memory.ensures [] c.new.ensures)

pub returns-clause-found : goal.returns-clause-found
returns-clause-found g c = λ a b of_a of_b.
    let left = c.left_end-left.result in
    let start = c.in_ok-start.start in
    let right = c.in_ok-right.right in
    let first = c.left_end-left.ensures.asked in
    let second = asked-both _ _ _ first c.in_ok-append_from.ensures.asked in
    let third = asked-both _ _ _ second c.in_ok-start.ensures.asked in
    let at_start = Represents-asked _ _ second c.args.b.now.graphemes b of_b in
    let at_end = Represents-asked _ _ third c.args.b.now.graphemes b of_b in
    let long_a = Represents-length _ c.args.a.now.graphemes a of_a in
    let long_b = Represents-length _ c.args.b.now.graphemes b of_b in
    let nfg = subst IsInNfg (Represents-clusters _ c.args.b.now.graphemes c.requires.right.0 b c.requires.right.1 of_b) c.requires.right.2 in
    let joined = joined-is c.new-joined.result c.append_from.new.into c.append_to_safe_start.new.into (text_of (drop left a)) (text_of (take start b)) c.new-joined.ensures
    (c.in_ok-append_from.ensures.added a (Represents-asked _ _ first c.args.a.now.graphemes a of_a))
    (c.in_ok-start.ensures.added b at_start) in
    let end = c.left_end-left.ensures.found a of_a in
    record {
      left_within = omega (arith, long_a, c.left_end-left.ensures.within);
      right_within = omega (arith, long_b, c.in_ok-right.ensures.within);
      text = seam-text (text_of (drop left a)) b start right c.append_to_safe_start.new.into c.in_ok-text.text c.append_to_boundary.new.text nfg c.in_ok-right.ensures.later
          (c.in_ok-start.ensures.safe b at_start) joined (c.in_ok-text.ensures.codes ∙ ap nfc c.as_slice.ensures) (c.in_ok-right.ensures.text b at_end);
      left = end.start;
      last = end.last;
      right = c.in_ok-right.ensures.boundary b at_end;
    }
