-- the unit is the block from `start` on, up to `end`
use Rattle.std.proofs.Common.{◌+◌, length, ap, ◌∙◌, arith}
use Rattle.std.specs.Prelude.{slice_range}
use Rattle.nfg_strand.proofs.Ranges.{unit_part}
use Rattle.nfg_strand.proofs.strand.Strand.copy.Goals as goal

pub returns : goal.returns
returns c =
    let from = c.self.inside.start + c.args.at in
    c.copy_into.ensures
    ∙ ap (λ b. slice_range b.list from (from + length c.args.into.now)) c.deref.ensures
    ∙ unit_part c.self.inside.block.value.list c.args.self.now.unit c.self.inside.start c.self.inside.end c.args.at (length c.args.into.now) (ap (λ s. s.unit) c.self.view_is) (omega arith) c.self.invariant.inside c.requires
