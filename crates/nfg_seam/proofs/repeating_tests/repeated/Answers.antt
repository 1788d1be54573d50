use Rattle.std.proofs.Common.{◌*◌, length}
use Rattle.std.specs.List.{repeat}
use Rattle.nfg_text.specs.Text.{text_of}
use Rattle.nfg_syn.specs.OwnTexts.{seen_of}
use Rattle.nfg_seam.specs.ConcatPieces.{repetition_pieces}
use Rattle.nfg_seam.proofs.RepeatSeam.{joined_graphemes}
use Rattle.nfg_seam.proofs.repeating_tests.repeated.Goals as goal

pub returns-clause-graphemes : goal.returns-clause-graphemes
returns-clause-graphemes g c =
    let list = c.in_ok-string.ensures.graphemes.0 in
    joined_graphemes (length list * c.args.n) (repeat c.args.n (text_of list)) (repetition_pieces list c.in_ok-string.string.pieces c.args.n) (seen_of c.string_of.new.pass) (seen_of c.repeat.new.pass) c.repeat.result
    (c.repeat.ensures.repeated list c.in_ok-string.ensures.graphemes.1)
