use Rattle.std.proofs.Common.{◌≡◌, ◌∙◌, ◌-◌, ◌++◌, suc, IfOk, drop, take, ap, sym, subst, arith}
use Rattle.std.specs.List.{repeat}
use Rattle.nfg_seam.specs.Woven.{woven}
use Rattle.nfg_seam.proofs.RepeatLaws.{woven_plain}
use Rattle.nfg_seam.proofs.repeated_seams.joined_by.Goals as goal
use Rattle.nfg_seam.proofs.repeated_seams.joined_by.Goals.{After-drop-list}

-- the middle is what stands there anyway
plain : (c : After-drop-list) → woven c.args.a.now.graphemes c.args.seam.now.left c.args.seam.now.right c.args.middle.now (c.args.n - 1) ≡ repeat c.args.n c.args.a.now.graphemes
plain c =
    let list = c.args.a.now.graphemes in
    let left = c.args.seam.now.left in
    let right = c.args.seam.now.right in
    let middle = c.args.middle.now in
    let same = c.deref.ensures.value ∙ c.in_ok-list.ensures in
    let n : suc (c.args.n - 1) ≡ c.args.n = omega (arith, c.requires.several) in
    woven_plain list middle left right (c.args.n - 1) c.requires.ordered
    (c.is_plain_seam.ensures c.if-is_plain_seam.true ∙ ap (λ l. drop left l ++ take right l) same)
    ∙ ap (λ k. repeat k list) n

pub returns-then-is_plain_seam-clause-graphemes : goal.returns-then-is_plain_seam-clause-graphemes
returns-then-is_plain_seam-clause-graphemes c = subst (λ l. IfOk c.again.result (λ made. made.graphemes ≡ l)) (sym (plain c)) c.again.ensures.graphemes

pub returns-then-is_plain_seam-clause-anew : goal.returns-then-is_plain_seam-clause-anew
returns-then-is_plain_seam-clause-anew c other = absurd (other (plain c))
