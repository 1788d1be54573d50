-- nothing is added of nothing
use Rattle.std.proofs.Common.{◌++◌, take, drop, ap, sym, ◌∙◌}
use Rattle.std.proofs.lemmas.List.{append-nil}
use Rattle.std.specs.List.{repeat}
use Rattle.nfg_strand.specs.Strand.{graphemes}
use Rattle.nfg_strand.proofs.Repeats.{repeat-nil}
use Rattle.nfg_strand.proofs.cut.push_part.Goals as goal

pub returns-then-count-eq0-clause-graphemes : goal.returns-then-count-eq0-clause-graphemes
returns-then-count-eq0-clause-graphemes c =
    let old = graphemes c.args.into.now.items in
    sym (ap (λ n. old ++ repeat c.args.times (take n (drop c.args.at c.args.strand.now.unit))) c.if-count-eq0.true
    ∙ ap (λ xs. old ++ xs) (repeat-nil c.args.times)
    ∙ append-nil old)
