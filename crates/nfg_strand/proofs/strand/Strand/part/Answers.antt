-- the part of the unit is one of the block
use Rattle.std.proofs.Common.{◌+◌, ap, ◌∙◌, arith}
use Rattle.std.specs.Prelude.{slice_range}
use Rattle.nfg_strand.proofs.Ranges.{unit_part}
use Rattle.nfg_strand.proofs.strand.Strand.part.Goals as goal

pub returns-clause-unit : goal.returns-clause-unit
returns-clause-unit c =
    let from = c.self.inside.start + c.args.at in
    ap (λ b. slice_range b.list from (from + c.args.count)) c.in_ok-try_clone.ensures
    ∙ unit_part c.self.inside.block.value.list c.args.self.now.unit c.self.inside.start c.self.inside.end c.args.at c.args.count (ap (λ s. s.unit) c.self.view_is) (omega arith) c.self.invariant.inside c.requires.inside
