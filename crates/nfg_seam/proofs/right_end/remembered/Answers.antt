use Rattle.std.proofs.Common.{◌++◌, take, reverse, get_or, sym, subst, append-nil}
use Rattle.nfg_text.specs.Breaks.{Remembers}
use Rattle.nfg_seam.proofs.SeamReading.{scalar-at, scalar-limit, reversed-more}
use Rattle.nfg_seam.proofs.right_end.remembered.Goals as goal

pub loop-i-init : goal.loop-i-init
loop-i-init c = λ text remembers. subst (λ t. Remembers c.args.memory (reverse t)) (sym (append-nil text)) remembers

pub of_number-requires : goal.of_number-requires
of_number-requires c = scalar-limit _ (scalar-at c.args.more.now c.loop-i.i 0 c.requires c.loop-i-test.true)

pub loop-i-preserved : goal.loop-i-preserved
loop-i-preserved c = λ text remembers.
    let more = c.args.more.now in
    let i = c.loop-i.i in
    subst (Remembers c.then-memory.result) (sym (reversed-more text more i c.loop-i-test.true))
    (c.then-memory.ensures (reverse (text ++ take i more)) (get_or more i 0) (c.loop-i.invariant text remembers) c.of_number.ensures)
