-- nothing repeated is nothing
use Rattle.std.proofs.Common.{◌≡◌, length, ap, sym, ◌∙◌, rules}
use Rattle.std.specs.List.{repeat}
use Rattle.nfg_strand.specs.Strand.{graphemes}
use Rattle.nfg_strand.proofs.Places.{graphemes-none}
use Rattle.nfg_strand.proofs.Repeats.{repeat-nil}
use Rattle.nfg_strand.proofs.join.repeated.Goals as goal

pub returns-then-is_empty-clause-graphemes : goal.returns-then-is_empty-clause-graphemes
returns-then-is_empty-clause-graphemes c =
    let none : length c.args.strands.now ≡ 0 = search rules in
    ap graphemes c.new-many.ensures.items
    ∙ sym (ap (repeat c.args.n) (graphemes-none c.args.strands.now none) ∙ repeat-nil c.args.n)
