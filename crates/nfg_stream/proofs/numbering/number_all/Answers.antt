use Rattle.std.proofs.Common.{◌∙◌, sym}
use Rattle.nfg_stream.proofs.Numbered.{Numbered-plain}
use Rattle.nfg_stream.proofs.numbering.number_all.Goals as goal

pub returns-then-len-eq0-clause-numbers : goal.returns-then-len-eq0-clause-numbers
returns-then-len-eq0-clause-numbers g c =
    Numbered-plain c.args.longer.now (g.T.Synthetics.seen c.args.pass.now).known c.args.numbers.now (sym c.len.ensures ∙ c.if-len-eq0.true) c.requires.counted c.requires.clusters
