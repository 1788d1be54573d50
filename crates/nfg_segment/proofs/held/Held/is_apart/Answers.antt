use Rattle.std.proofs.Common.{◌≡◌, ◌∷◌, ◌∙◌, [], slice_index_or, ap, sym, subst, refl, eqb-true}
use Rattle.std.proofs.lemmas.Bool.{and_from}
use Rattle.nfg_text.specs.Plain.{AllPlain}
use Rattle.nfg_segment.specs.Held.{Keeps}
use Rattle.nfg_segment.proofs.PlainSteps.{apart-from, no_item, one_item}
use Rattle.nfg_segment.proofs.held.Held.is_apart.Goals as goal

pub returns-then-tail-ne1-clause-apart : goal.returns-then-tail-ne1-clause-apart
returns-then-tail-ne1-clause-apart c empty fed given f =
    let cluster = f.tracks.cluster in
    let none : c.args.self.now.now.tail ≡ [] =
    sym (ap (λ h. h.now.tail) c.self.view_is) ∙ sym c.as_slice-tail.ensures.codes ∙ no_item _ (eqb-true _ 0 (sym c.is_empty.ensures ∙ empty)) in
    apart-from c.args.self.now.now fed given f
    (sym (c.is_some.ensures.cluster cluster (subst (λ h. Keeps h.now.cluster cluster) (sym c.self.view_is) f.tracks.keeps)) ∙ c.if-is_some.false)
    (subst AllPlain (sym none) refl)

pub returns-clause-apart : goal.returns-clause-apart
returns-clause-apart c plain fed given f =
    let cluster = f.tracks.cluster in
    let first = slice_index_or c.as_slice-tail.result.now 0 0 in
    let one = one_item c.as_slice-tail.result.now first 0 c.if-tail-ne1.false refl in
    let tail : c.args.self.now.now.tail ≡ first ∷ [] = sym (ap (λ h. h.now.tail) c.self.view_is) ∙ sym c.as_slice-tail.ensures.codes ∙ one in
    apart-from c.args.self.now.now fed given f
    (sym (c.is_some.ensures.cluster cluster (subst (λ h. Keeps h.now.cluster cluster) (sym c.self.view_is) f.tracks.keeps)) ∙ c.if-is_some.false)
    (subst AllPlain (sym tail) (and_from _ _ (sym c.is_plain.ensures ∙ plain) refl))
