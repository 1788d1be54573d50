-- the unit is the block from `start` on, up to `end`
use Rattle.std.proofs.Common.{◌≡◌, ◌+◌, ◌-◌, length, ap, ap₂, ◌∙◌, arith}
use Rattle.std.proofs.lemmas.List.{take_rest}
use Rattle.std.specs.Prelude.{slice_range}
use Rattle.nfg_strand.proofs.Ranges.{length-slice_range, unit_part}
use Rattle.nfg_strand.proofs.strand.Strand.run.Goals as goal

pub returns : goal.returns
returns c =
    let list = c.self.inside.block.value.list in
    let start = c.self.inside.start in
    let end = c.self.inside.end in
    let unit = c.args.self.now.unit in
    let view = ap (λ s. s.unit) c.self.view_is in
    let view_len = ap length view in
    let unit_len = length-slice_range list start end c.self.invariant.inside in
    let until : end ≡ start + c.args.at + (length unit - c.args.at) = omega arith in
    c.run.ensures
    ∙ ap₂ (λ b e. slice_range b.list (start + c.args.at) e) c.deref.ensures until
    ∙ unit_part list unit start end c.args.at (length unit - c.args.at) view (omega arith) c.self.invariant.inside (omega arith)
    ∙ take_rest unit c.args.at
