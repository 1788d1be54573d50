use Rattle.std.proofs.Common.{◌∷◌, [], sym, ap, subst, length, arith}
use Rattle.std.proofs.lemmas.List.{length-append}
use Rattle.nfg_text.specs.Text.{IsText}
use Rattle.nfg_segment.proofs.TextLemmas.{IsText-append, IsText-single}
use Rattle.nfg_segment.proofs.draft.Draft.push.Goals as goal

pub invariant_of-self-2 : goal.invariant_of-self-2
invariant_of-self-2 c =
    let codes = c.self.inside.codes.items in
    let more = c.args.c ∷ [] in (
      λ here. omega (arith, c.self.invariant.0 here, ap length c.in_ok-push.ensures.items, length-append codes more),
      subst IsText (sym c.in_ok-push.ensures.items) (IsText-append codes more c.self.invariant.1 (IsText-single c.args.c c.requires)),
      c.self.invariant.2,
    )
