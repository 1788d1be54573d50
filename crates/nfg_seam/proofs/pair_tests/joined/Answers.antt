use Rattle.std.proofs.Common.{◌+◌, ◌++◌, length}
use Rattle.nfg_text.specs.Text.{text_of}
use Rattle.nfg_syn.specs.OwnTexts.{seen_of}
use Rattle.nfg_syn.specs.RepresentsLaws.{Represents-grows}
use Rattle.nfg_seam.specs.ConcatPieces.{concat_pieces}
use Rattle.nfg_seam.proofs.RepeatSeam.{joined_graphemes}
use Rattle.nfg_seam.proofs.pair_tests.joined.Goals as goal

pub concat-requires-clause-left : goal.concat-requires-clause-left
concat-requires-clause-left g c κs =
    let left = c.in_ok-left.ensures.graphemes in
    (left.0, Represents-grows _ _ c.in_ok-right.ensures.keeps.known c.in_ok-left.left.graphemes left.0 left.1, left.2)

pub returns-clause-graphemes : goal.returns-clause-graphemes
returns-clause-graphemes g c =
    let left = c.in_ok-left.ensures.graphemes in
    let right = c.in_ok-right.ensures.graphemes in
    joined_graphemes (length left.0 + length right.0) (text_of left.0 ++ text_of right.0)
    (concat_pieces left.0 right.0 c.in_ok-left.left.pieces c.in_ok-right.right.pieces)
    (seen_of c.string_of-2.new.pass) (seen_of c.concat.new.pass) c.concat.result
    (c.concat.ensures.joined left.0 right.0 (Represents-grows _ _ c.in_ok-right.ensures.keeps.known c.in_ok-left.left.graphemes left.0 left.1) right.1)
