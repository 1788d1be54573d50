-- what is looked through is the front of what is left
use Rattle.std.proofs.Common.{◌≡◌, take, drop, ap, sym, ◌∙◌, arith, rules}
use Rattle.std.specs.Prelude.{ℤ, slice_range}
use Rattle.std.specs.List.{position_from}
use Rattle.std.specs.Ordering.{int_eq}
use Rattle.std.proofs.lemmas.List.{drop-drop}
use Rattle.nfg_strand.specs.Strand.{graphemes}
use Rattle.nfg_strand.proofs.Positions.{found_in_range, absent_in_range, found_below}
use Rattle.nfg_strand.proofs.search.find.Goals as goal

pub overflow_add-result : goal.overflow_add-result
overflow_add-result c =
    let test = λ (y : ℤ). int_eq y c.args.x in
    let xs = graphemes c.args.strands.now in
    let at = c.loop-at.at in
    let seen = c.find_here-seen.result.0 in
    let said : c.find_here-seen.result.1 ≡ position_from test 0 (take seen c.loop-at.rest) = search rules in
    let found = ap (λ ys. position_from test 0 (take seen ys)) (sym c.loop-at.invariant.left) ∙ sym said ∙ c.in-Some.is in
    let below = found_below test xs at c.args.until seen (omega arith) c.requires.inside c.in-Some.place found in
    omega arith

pub returns-in-Some : goal.returns-in-Some
returns-in-Some c =
    let test = λ (y : ℤ). int_eq y c.args.x in
    let xs = graphemes c.args.strands.now in
    let at = c.loop-at.at in
    let seen = c.find_here-seen.result.0 in
    let said : c.find_here-seen.result.1 ≡ position_from test 0 (take seen c.loop-at.rest) = search rules in
    let found = ap (λ ys. position_from test 0 (take seen ys)) (sym c.loop-at.invariant.left) ∙ sym said ∙ c.in-Some.is in
    let passed : position_from test c.args.from (slice_range xs c.args.from c.args.until) ≡ position_from test at (slice_range xs at c.args.until) = search rules in
    sym (found_in_range test xs at c.args.until seen (omega arith) c.requires.inside c.in-Some.place found) ∙ sym passed

pub loop-at-preserved : goal.loop-at-preserved
loop-at-preserved c =
    let test = λ (y : ℤ). int_eq y c.args.x in
    let xs = graphemes c.args.strands.now in
    let at = c.loop-at.at in
    let seen = c.find_here-seen.result.0 in
    let said : c.find_here-seen.result.1 ≡ position_from test 0 (take seen c.loop-at.rest) = search rules in
    let absent = ap (λ ys. position_from test 0 (take seen ys)) (sym c.loop-at.invariant.left) ∙ sym said ∙ c.in-None.is in
    let passed : position_from test c.args.from (slice_range xs c.args.from c.args.until) ≡ position_from test at (slice_range xs at c.args.until) = search rules in
    let next = passed ∙ absent_in_range test xs at c.args.until seen (omega arith) c.requires.inside absent in
    record {
      low = omega arith;
      high = omega arith;
      left = c.advance.ensures ∙ ap (drop seen) c.loop-at.invariant.left ∙ drop-drop seen at xs;
      passed = search rules;
    }
