-- the graphemes n times in a row are n times as many
use Rattle.std.proofs.Common.{◌*◌, length, ap, sym, ◌∙◌}
use Rattle.nfg_strand.specs.Strand.{graphemes}
use Rattle.nfg_strand.proofs.Repeats.{length-repeat}
use Rattle.nfg_strand.proofs.string.NString.repeated.Goals as goal

pub invariant_of-result : goal.invariant_of-result
invariant_of-result c =
    let counted = c.self.invariant.0 ∙ ap (λ ss. length (graphemes ss)) (sym c.as_slice.ensures.value) in
    let many = ap (λ k. k * c.args.n) counted ∙ sym (ap length c.in_ok-repeated.ensures.graphemes ∙ length-repeat c.args.n (graphemes c.as_slice.result.now)) in
    let len = ap (λ s. length s.graphemes) (sym c.self.view_is) ∙ sym c.self.invariant.0 in
    (many, rw len at c.requires, c.in_ok-repeated.ensures.few)
