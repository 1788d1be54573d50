use Rattle.nfg_decode.proofs.Utf8Text.{some_part}
use Rattle.nfg_decode.proofs.utf8.part_len.Goals as goal

pub returns-clause-some : goal.returns-clause-some
returns-clause-some c =
    some_part c.args.text.now c.floor_char_boundary.result c.args.room c.utf8.text c.requires.text c.requires.room c.floor_char_boundary.ensures.nearest
