-- the unit is the block from `start` on, up to `end`, and the place counts from the place in the unit
use Rattle.std.proofs.Common.{◌≡◌, ◌+◌, ap, sym, ◌∙◌, arith, rules}
use Rattle.std.specs.Prelude.{slice_range, Some, None}
use Rattle.std.specs.List.{position_from}
use Rattle.std.specs.Ordering.{int_eq}
use Rattle.nfg_strand.proofs.Ranges.{unit_part}
use Rattle.nfg_strand.proofs.Positions.{found_from_start, absent_from}
use Rattle.nfg_strand.proofs.strand.Strand.find.Goals as goal

pub overflow_sub-result : goal.overflow_sub-result
overflow_sub-result c =
    let from = c.self.inside.start + c.args.at in
    let xs = slice_range c.deref.result.now.list from (from + c.args.count) in
    let found : position_from (λ y. int_eq y c.args.x) from xs ≡ Some c.in-Some.found = search rules in
    (found_from_start (λ y. int_eq y c.args.x) from c.in-Some.found xs found).0

pub returns-in-Some : goal.returns-in-Some
returns-in-Some c =
    let from = c.self.inside.start + c.args.at in
    let xs = slice_range c.deref.result.now.list from (from + c.args.count) in
    let found : position_from (λ y. int_eq y c.args.x) from xs ≡ Some c.in-Some.found = search rules in
    let part = ap (λ b. slice_range b.list from (from + c.args.count)) c.deref.ensures
    ∙ unit_part c.self.inside.block.value.list c.args.self.now.unit c.self.inside.start c.self.inside.end c.args.at c.args.count (ap (λ s. s.unit) c.self.view_is) (omega arith) c.self.invariant.inside c.requires in
    sym (found_from_start (λ y. int_eq y c.args.x) from c.in-Some.found xs found).1
    ∙ ap (position_from (λ y. int_eq y c.args.x) 0) part

pub returns-in-None : goal.returns-in-None
returns-in-None c =
    let from = c.self.inside.start + c.args.at in
    let xs = slice_range c.deref.result.now.list from (from + c.args.count) in
    let absent : position_from (λ y. int_eq y c.args.x) from xs ≡ None = search rules in
    let part = ap (λ b. slice_range b.list from (from + c.args.count)) c.deref.ensures
    ∙ unit_part c.self.inside.block.value.list c.args.self.now.unit c.self.inside.start c.self.inside.end c.args.at c.args.count (ap (λ s. s.unit) c.self.view_is) (omega arith) c.self.invariant.inside c.requires in
    sym (absent_from (λ y. int_eq y c.args.x) from 0 xs absent)
    ∙ ap (position_from (λ y. int_eq y c.args.x) 0) part
