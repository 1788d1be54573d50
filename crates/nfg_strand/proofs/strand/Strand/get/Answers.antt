-- the unit is the block from `start` on, up to `end`
use Rattle.std.proofs.Common.{◌+◌, ◌-◌, ◌<◌, length, ap, sym, ◌∙◌, arith, rules, get_or}
use Rattle.std.proofs.lemmas.Int.{to_z-of_z}
use Rattle.std.specs.Int.{w32}
use Rattle.std.specs.Prelude.{pos}
use Rattle.nfg_strand.proofs.Ranges.{length-slice_range, get_or-slice_range}
use Rattle.nfg_strand.proofs.strand.Strand.get.Goals as goal

pub overflow_add-self-inside : goal.overflow_add-self-inside
overflow_add-self-inside c =
    let len = ap (λ s. length s.unit) c.self.view_is in
    let unit_len = length-slice_range c.self.inside.block.value.list c.self.inside.start c.self.inside.end c.self.invariant.inside in
    omega arith

pub get-requires : goal.get-requires
get-requires c =
    let len = ap (λ s. length s.unit) c.self.view_is in
    let block = ap (λ b. length b.list) c.deref.ensures in
    let unit_len = length-slice_range c.self.inside.block.value.list c.self.inside.start c.self.inside.end c.self.invariant.inside in
    omega arith

pub returns : goal.returns
returns c =
    let len = ap (λ s. length s.unit) c.self.view_is in
    let unit_len = length-slice_range c.self.inside.block.value.list c.self.inside.start c.self.inside.end c.self.invariant.inside in
    let within : c.args.at < c.self.inside.end - c.self.inside.start = omega arith in
    to_z-of_z w32 c.get.result (search rules) ∙ c.get.ensures
    ∙ ap (λ b. get_or b.list (c.self.inside.start + c.args.at) (pos 0)) c.deref.ensures
    ∙ sym (get_or-slice_range c.self.inside.block.value.list c.self.inside.start c.self.inside.end c.args.at (pos 0) within)
    ∙ ap (λ s. get_or s.unit c.args.at (pos 0)) c.self.view_is
