use Rattle.std.proofs.Common.{◌++◌, ◌-◌, ◌∙◌, ap₂, sym, length, take, drop, take-append-drop, arith}
use Rattle.std.proofs.lemmas.List.{take_all, length-drop}
use Rattle.std.specs.Cmp.Rules.{signed_items}
use Rattle.nfg_seam.proofs.copies.is_plain_seam.Goals as goal

pub returns-then-eq : goal.returns-then-eq
returns-then-eq c holds =
    let list = c.args.list.now in
    let middle = c.args.middle.now in
    let back = length list - c.args.left in
    let behind = length middle - back in
    sym (take-append-drop back middle)
    ∙ ap₂ ◌++◌
    ((signed_items (take back middle) (take back (drop c.args.left list))).0 (sym c.eq.ensures ∙ c.if-eq.true)
    ∙ take_all back (drop c.args.left list) (omega (arith, length-drop c.args.left list)))
    (sym (take_all behind (drop back middle) (omega (arith, length-drop back middle)))
    ∙ (signed_items (take behind (drop back middle)) (take c.args.right list)).0 (sym c.eq-then-eq.ensures ∙ holds))
