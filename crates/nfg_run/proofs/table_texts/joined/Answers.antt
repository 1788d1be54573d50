use Rattle.nfg_text.specs.Graphemes.{graphemes_of}
use Rattle.nfg_text.proofs.Proved.{graphemes_are_in_nfg}
use Rattle.nfg_syn.specs.RepresentsLaws.{Represents-grows}
use Rattle.nfg_run.proofs.table_texts.joined.Goals as goal

pub concat-requires-clause-left : goal.concat-requires-clause-left
concat-requires-clause-left g c κs within =
    let clusters = graphemes_of c.args.left.now in
    (clusters, Represents-grows _ _ c.in-Ok-string_of.ensures.keeps.known c.in-Ok.a.graphemes clusters c.in-Ok.ensures.made.represents, graphemes_are_in_nfg c.args.left.now)

pub concat-requires-clause-right : goal.concat-requires-clause-right
concat-requires-clause-right g c κs within =
    let clusters = graphemes_of c.args.right.now in
    (clusters, c.in-Ok-string_of.ensures.made.represents, graphemes_are_in_nfg c.args.right.now)
