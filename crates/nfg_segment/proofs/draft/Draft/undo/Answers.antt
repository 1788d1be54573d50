use Rattle.std.proofs.Common.{sym, ap, subst, length, arith}
use Rattle.std.proofs.lemmas.List.{length-take}
use Rattle.nfg_text.specs.Text.{IsText}
use Rattle.nfg_segment.proofs.TextLemmas.{IsText-take}
use Rattle.nfg_segment.proofs.draft.Draft.undo.Goals as goal

pub invariant_of-self-else-self : goal.invariant_of-self-else-self
invariant_of-self-else-self c =
    let s = c.self.inside in (
      λ here. omega (arith, c.self.invariant.0 here, ap length c.truncate.ensures.items, length-take s.marked s.codes.items),
      subst IsText (sym c.truncate.ensures.items) (IsText-take s.marked s.codes.items c.self.invariant.1),
      c.self.invariant.2,
    )
