use Rattle.std.proofs.Common.{◌≡◌, ◌≤◌, ◌∙◌, false, length, refl, sym, ap, subst}
use Rattle.nfg_text.specs.Text.{IsText}
use Rattle.nfg_segment.proofs.TextLemmas.{IsText-take}
use Rattle.nfg_segment.proofs.draft.Draft.clear.Goals as goal
use Rattle.nfg_segment.proofs.draft.Draft.clear.Goals.{then-not-self, else-not-self}

pub invariant_of-self : goal.invariant_of-self
invariant_of-self c =
    let codes = c.clear.new.self.items in
    let none = subst IsText (sym c.clear.ensures.items) refl in
    elim c.if-not-self.branch [
      | then-not-self w ↦ subst (λ s. (s.is_aside ≡ false → s.marked ≤ length codes) × IsText codes × IsText s.aside.items) (sym w.self-inside-is)
          (λ clash. cc, none, subst IsText (sym (ap (λ v. v.items) w.swap.ensures.y_after ∙ w.truncate.ensures.items)) (IsText-take c.self.inside.marked c.self.inside.codes.items c.self.invariant.1))
      | else-not-self w ↦ subst (λ s. (s.is_aside ≡ false → s.marked ≤ length codes) × IsText codes × IsText s.aside.items) (sym w.self-inside-is)
          (λ here. let clash = sym here ∙ w.if-not-self.false in cc, none, c.self.invariant.2)
    ]
