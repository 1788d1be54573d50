use Rattle.std.proofs.Common.{◌∙◌, sym, ap}
use Rattle.std.specs.List.{list_all}
use Rattle.nfg_segment.specs.PlainLines.{is_of_low_lines}
use Rattle.nfg_segment.proofs.PlainLines.{capped-lines}
use Rattle.nfg_segment.proofs.plain.are_lines_of.Goals as goal

pub returns : goal.returns
returns c h =
    capped-lines c.args.block.now (sym (ap (list_all is_of_low_lines) c.cap_all.ensures) ∙ c.are_low_lines_of.ensures h)
