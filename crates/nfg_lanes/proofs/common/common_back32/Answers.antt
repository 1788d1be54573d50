use Rattle.std.proofs.Common.{◌≡◌, ◌-◌, arith, refl, rules, sym, ◌∙◌, length, get_or, reverse, int_eq, pos, w32, true, false, FitsSigned}
use Rattle.std.proofs.lemmas.Bool.{eq-eqb, ne_eqb}
use Rattle.std.proofs.lemmas.Bool.Decides.{Decides-int_eq}
use Rattle.std.proofs.lemmas.List.{length-reverse}
use Rattle.nfg_lanes.proofs.FrontLemmas.{back_ends, back_fills, back_goes_on, front_complete}
use Rattle.nfg_lanes.proofs.MaskLemmas.{bits_equal}
use Rattle.nfg_lanes.proofs.common.common_back32.Goals as goal

pub loop-count-preserved : goal.loop-count-preserved
loop-count-preserved c =
    back_fills int_eq (λ x. (Decides-int_eq x x).1 refl) c.args.a.now c.args.b.now c.loop-count.count 16 _ (pos 0) c.loop-count.invariant (omega arith) (omega arith)
    (c.equal32_at.ensures.0 c.if-equal32_at.true) (omega arith)

pub loop-count-2-preserved : goal.loop-count-2-preserved
loop-count-2-preserved c =
    let a = c.args.a.now in
    let b = c.args.b.now in
    let n = c.loop-count-2.count in
    let x = get_or a (length a - 1 - n) (pos 0) in
    let y = get_or b (length b - 1 - n) (pos 0) in
    let x_fits : FitsSigned w32 x = search rules in
    let y_fits : FitsSigned w32 y = search rules in
    let equal : int_eq x y ≡ true = sym (bits_equal w32 x y x_fits y_fits) ∙ eq-eqb _ _ c.if-a-count.true in
    back_goes_on int_eq a b n (pos 0) (pos 0) c.loop-count-2.invariant (omega arith) (omega arith) equal

pub returns-else-a-count : goal.returns-else-a-count
returns-else-a-count c =
    let a = c.args.a.now in
    let b = c.args.b.now in
    let n = c.loop-count-2.count in
    let x = get_or a (length a - 1 - n) (pos 0) in
    let y = get_or b (length b - 1 - n) (pos 0) in
    let x_fits : FitsSigned w32 x = search rules in
    let y_fits : FitsSigned w32 y = search rules in
    let differ : int_eq x y ≡ false = sym (bits_equal w32 x y x_fits y_fits) ∙ ne_eqb _ _ c.if-a-count.false in
    back_ends int_eq a b n (pos 0) (pos 0) c.loop-count-2.invariant (omega arith) (omega arith) differ

pub returns-after-loop-count-2 : goal.returns-after-loop-count-2
returns-after-loop-count-2 c =
    front_complete int_eq (reverse c.args.a.now) (reverse c.args.b.now) c.loop-count-2.count c.min-len.result c.loop-count-2.invariant
    (omega (arith, c.min-len.ensures, length-reverse c.args.a.now, length-reverse c.args.b.now)) (omega (arith, c.loop-count-2-test.false))
