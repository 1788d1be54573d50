use Rattle.std.proofs.Common.{ℤ, Bool, not, int_eq, arith, w32, to_z, of_z, ap, ◌∙◌, ◌*◌}
use Rattle.std.proofs.lemmas.Int.{to_z-of_z}
use Rattle.std.specs.List.{position_or_len}
use Rattle.nfg_lanes.proofs.RunLemmas.{run_ends, run_fills}
use Rattle.nfg_lanes.proofs.first.first_equal32.Goals as goal

pub returns-then-equal-ne0 : goal.returns-then-equal-ne0
returns-then-equal-ne0 c =
    let differs : ℤ → Bool = λ y. not (int_eq y (to_z w32 (of_z w32 c.args.x))) in
    let i = c.loop-block.block * 16 in
    run_ends differs c.args.a.now i 16 c.equal32_in-equal.result c.loop-block.invariant (omega arith) c.equal32_in-equal.ensures c.if-equal-ne0.true
    ∙ ap (λ x. position_or_len (λ y. int_eq y x) c.args.a.now) (to_z-of_z w32 c.args.x c.ranges.x)

pub loop-block-preserved : goal.loop-block-preserved
loop-block-preserved c =
    let differs : ℤ → Bool = λ y. not (int_eq y (to_z w32 (of_z w32 c.args.x))) in
    let i = c.loop-block.block * 16 in
    run_fills differs c.args.a.now i 16 c.equal32_in-equal.result _ c.loop-block.invariant (omega arith) c.equal32_in-equal.ensures c.if-equal-ne0.false (omega arith)
