use Rattle.std.proofs.Common.{ap, sym, ◌∙◌}
use Rattle.std.specs.List.{list_all}
use Rattle.nfg_block.specs.Lanes.{is_narrow_grapheme}
use Rattle.nfg_strand.proofs.Repeats.{all-repeat}
use Rattle.nfg_strand.proofs.flat.push_narrow.Goals as goal

pub returns-in_ok-push_times-in-Narrow-clause-fit : goal.returns-in_ok-push_times-in-Narrow-clause-fit
returns-in_ok-push_times-in-Narrow-clause-fit c = λ same.
    let strand = c.args.strand.now in
    all-repeat is_narrow_grapheme strand.times strand.unit
    (ap (list_all is_narrow_grapheme) (sym c.in-Narrow.ensures.cells) ∙ c.in-Narrow.ensures.fit)
