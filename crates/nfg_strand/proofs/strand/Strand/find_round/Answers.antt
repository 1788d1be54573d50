-- the first part comes before the second
use Rattle.std.proofs.Common.{◌≡◌, ◌+◌, take, drop, length, ap, sym, ◌∙◌, arith, rules, length-take-le, length-drop}
use Rattle.std.specs.Prelude.{Some, None}
use Rattle.std.specs.List.{position_from}
use Rattle.std.specs.Ordering.{int_eq}
use Rattle.nfg_strand.proofs.Ranges.{length-slice_range}
use Rattle.nfg_strand.proofs.Positions.{found-append, found-second, absent-both, found_lt}
use Rattle.nfg_strand.proofs.strand.Strand.find_round.Goals as goal

pub returns-in-Some : goal.returns-in-Some
returns-in-Some c = sym (found-append (λ y. int_eq y c.args.x) 0 c.in-Some.found (take c.args.count (drop c.args.at c.args.self.now.unit)) (take c.args.again c.args.self.now.unit) (search rules))

pub overflow_add-result : goal.overflow_add-result
overflow_add-result c =
    let unit = c.args.self.now.unit in
    let found : position_from (λ y. int_eq y c.args.x) 0 (take c.args.again unit) ≡ Some c.in-Some-find.found = search rules in
    let below = found_lt (λ y. int_eq y c.args.x) 0 c.in-Some-find.found (take c.args.again unit) found in
    let len = length-take-le c.args.again unit c.requires.again_inside in
    let view = ap (λ s. length s.unit) c.self.view_is in
    let unit_len = length-slice_range c.self.inside.block.value.list c.self.inside.start c.self.inside.end c.self.invariant.inside in
    omega arith

pub returns-in-Some-find : goal.returns-in-Some-find
returns-in-Some-find c =
    let unit = c.args.self.now.unit in
    let found : position_from (λ y. int_eq y c.args.x) 0 (take c.args.again unit) ≡ Some c.in-Some-find.found = search rules in
    let absent : position_from (λ y. int_eq y c.args.x) 0 (take c.args.count (drop c.args.at unit)) ≡ None = search rules in
    let len = length-take-le c.args.count (drop c.args.at unit) (simp length-drop (omega arith)) in
    ap (λ n. Some (n + c.in-Some-find.found)) (sym len)
    ∙ sym (found-second (λ y. int_eq y c.args.x) c.in-Some-find.found (take c.args.count (drop c.args.at unit)) (take c.args.again unit) absent found)

pub returns-in-None-find : goal.returns-in-None-find
returns-in-None-find c = sym (absent-both (λ y. int_eq y c.args.x) (take c.args.count (drop c.args.at c.args.self.now.unit)) (take c.args.again c.args.self.now.unit) (search rules) (search rules))
