use Rattle.std.proofs.Common.{[]}
use Rattle.nfg_text.specs.Graphemes.{graphemes_of}
use Rattle.nfg_stream.proofs.GraphemeTexts.{Holds-finished, Holds-some}
use Rattle.nfg_stream.proofs.whole.string_of.Goals as goal

pub string_from-requires-clause-clusters : goal.string_from-requires-clause-clusters
string_from-requires-clause-clusters g c κs within =
    let fed = c.in_ok-feed.ensures.fed [] [] c.new-segmenter.ensures in
    let finished = c.in_ok-finish.ensures.finished c.args.text.now fed.more fed.follows in
    Holds-some c.finish.new.out (graphemes_of c.args.text.now)
    (Holds-finished c.new-clusters.result c.feed.new.out c.finish.new.out fed.more finished.more c.args.text.now c.requires.text c.new-clusters.ensures fed.appended finished.appended finished.whole)

pub returns-clause-made : goal.returns-clause-made
returns-clause-made g c =
    let fed = c.in_ok-feed.ensures.fed [] [] c.new-segmenter.ensures in
    let finished = c.in_ok-finish.ensures.finished c.args.text.now fed.more fed.follows in
    c.string_from.ensures.made (graphemes_of c.args.text.now)
    (Holds-finished c.new-clusters.result c.feed.new.out c.finish.new.out fed.more finished.more c.args.text.now c.requires.text c.new-clusters.ensures fed.appended finished.appended finished.whole)
