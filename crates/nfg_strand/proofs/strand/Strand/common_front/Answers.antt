-- each unit is its block from `start` on, up to `end`
use Rattle.std.proofs.Common.{◌+◌, ap, ap₂, ◌∙◌, arith}
use Rattle.std.specs.Prelude.{slice_range}
use Rattle.std.specs.List.{common_prefix_len}
use Rattle.std.specs.Ordering.{int_eq}
use Rattle.nfg_strand.proofs.Ranges.{unit_part}
use Rattle.nfg_strand.proofs.strand.Strand.common_front.Goals as goal

pub returns : goal.returns
returns c =
    let from = c.self.inside.start + c.args.at in
    let other_from = c.other.inside.start + c.args.other_at in
    c.common_front.ensures
    ∙ ap₂ (common_prefix_len int_eq)
    (ap (λ b. slice_range b.list from (from + c.args.count)) c.deref.ensures
    ∙ unit_part c.self.inside.block.value.list c.args.self.now.unit c.self.inside.start c.self.inside.end c.args.at c.args.count (ap (λ s. s.unit) c.self.view_is) (omega arith) c.self.invariant.inside c.requires.inside)
    (ap (λ b. slice_range b.list other_from (other_from + c.args.count)) c.deref-2.ensures
    ∙ unit_part c.other.inside.block.value.list c.args.other.now.unit c.other.inside.start c.other.inside.end c.args.other_at c.args.count (ap (λ s. s.unit) c.other.view_is) (omega arith) c.other.invariant.inside c.requires.other_inside)
