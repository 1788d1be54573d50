use Rattle.std.proofs.Common.{take, reverse, get_or, sym, subst}
use Rattle.nfg_text.specs.Breaks.{Remembers}
use Rattle.nfg_segment.proofs.Marked.{reverse-more}
use Rattle.nfg_segment.proofs.TextLemmas.{scalar-at}
use Rattle.nfg_segment.proofs.marked_run.memory_of.Goals as goal

pub kind_of-requires : goal.kind_of-requires
kind_of-requires c = scalar-at c.args.text.now c.loop-c.c-index 0 c.requires c.loop-c-test.true

pub loop-c-preserved : goal.loop-c-preserved
loop-c-preserved c =
    let text = c.args.text.now in
    let at = c.loop-c.c-index in
    subst (Remembers c.then-memory.result) (sym (reverse-more text at c.loop-c-test.true))
    (c.then-memory.ensures (reverse (take at text)) (get_or text at 0) c.loop-c.invariant c.kind_of.ensures)
