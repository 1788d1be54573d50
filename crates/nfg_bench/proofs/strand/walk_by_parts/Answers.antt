-- what is read is the front of what is left
use Rattle.std.proofs.Common.{◌≡◌, ℕ, ◌≤◌, List, ◌++◌, ℤ, int_eq, negsuc, not, take, drop, length, ap, ◌∙◌, arith, length-take-le, length-drop}
use Rattle.std.proofs.lemmas.List.{take_at}
use Rattle.std.specs.List.{position_or_len, prefix_len}
use Rattle.nfg_bench.proofs.ElementLemmas.{prefix_len-within, prefix_len-behind}
use Rattle.nfg_bench.proofs.strand.walk_by_parts.Goals as goal

-- the place in what is read
place_in : (left part old : List ℤ) (count place : ℕ) → count ≤ length left → part ≡ take count left ++ drop count old →
    place ≡ position_or_len (λ y. int_eq y (negsuc 0)) (take count part) → place ≡ prefix_len (λ y. not (int_eq y (negsuc 0))) (take count left)
place_in left part old count place few read is =
    is ∙ ap (position_or_len (λ y. int_eq y (negsuc 0))) (ap (take count) read ∙ take_at (take count left) (drop count old) count (length-take-le count left few))

pub returns-then-place-count : goal.returns-then-place-count
returns-then-place-count c =
    let left = c.loop-at.left in
    let few : c.read-count.result ≤ length left = omega (arith, c.read-count.ensures.count) in
    let place = place_in left _ c.loop-at.part _ _ few c.read-count.ensures.read c.first_equal32-place.ensures in
    let found = prefix_len-within (λ (y : ℤ). not (int_eq y (negsuc 0))) left c.read-count.result few (omega (arith, place, c.if-place-count.true)) in
    omega (arith, place, found, c.loop-at.invariant.rest)

pub loop-at-preserved : goal.loop-at-preserved
loop-at-preserved c =
    let left = c.loop-at.left in
    let few : c.read-count.result ≤ length left = omega (arith, c.read-count.ensures.count) in
    let place = place_in left _ c.loop-at.part _ _ few c.read-count.ensures.read c.first_equal32-place.ensures in
    let other = λ (y : ℤ). not (int_eq y (negsuc 0)) in
    let behind = prefix_len-behind other left c.read-count.result few (omega (arith, place, c.if-place-count.false)) in
    record {
      place = omega (arith, few, c.loop-at.invariant.place, ap length c.read-count.ensures.left, length-drop c.read-count.result left);
      limit = c.loop-at.invariant.limit;
      rest = omega (arith, behind, ap (prefix_len other) c.read-count.ensures.left, c.loop-at.invariant.rest);
    }
