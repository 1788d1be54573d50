use Rattle.std.proofs.Common.{arith}
use Rattle.nfg_words.proofs.Asks.{codes_asks, seat_stays, tells_codes}
use Rattle.nfg_words.proofs.loads.read_codes.Goals as goal
use Rattle.nfg_words.specs.SoundLaws.{named_inside}

pub code_word-requires-clause-code : goal.code_word-requires-clause-code
code_word-requires-clause-code g c = named_inside c.args.n c.args.holder.now.me.0 c.requires.table.sound c.args.c c.requires.named

pub load-requires : goal.load-requires
load-requires g c =
    let table = c.requires.table in
    let words = table.words in
    let inside = named_inside c.args.n c.args.holder.now.me.0 table.sound c.args.c c.requires.named in
    let at = c.code_word.ensures in
    let shared = c.args.words.now.shared in
    (table.table, omega arith, codes_asks c.args.n shared.key shared.table_id.slots c.args.holder.now.id c.args.c c.code_word.result c.args.holder.now.me c.requires.key at table.size c.requires.named)

pub returns-clause-table : goal.returns-clause-table
returns-clause-table g c = seat_stays _ c.args.n c.args.holder.now c.load.new.seat c.requires.table c.load.ensures.0 c.load.ensures.2.1

pub returns-clause-read : goal.returns-clause-read
returns-clause-read g c = tells_codes c.args.n c.args.words.now.shared.table_id.slots c.args.c c.code_word.result c.load.result c.args.holder.now.me c.load.new.seat.me c.code_word.ensures c.requires.table.size c.load.ensures.2
