use Rattle.std.proofs.Common.{arith}
use Rattle.nfg_words.proofs.Asks.{seat_stays, write_asks, tells_written}
use Rattle.nfg_words.proofs.words.write_codes.Goals as goal

pub store-requires : goal.store-requires
store-requires g c =
    let table = c.requires.table in
    let words = table.words in
    let inside = c.requires.code in
    let at = c.code_word.ensures in
    let shared = c.args.words.now.shared in
    (table.table, omega arith, write_asks c.args.n shared.key shared.table_id.slots c.args.holder.now.id c.args.c c.args.codes c.code_word.result c.args.holder.now.me c.requires.key at table.size c.requires.unspent.0 c.requires.unspent.1 inside)

pub returns-clause-table : goal.returns-clause-table
returns-clause-table g c = seat_stays _ c.args.n c.args.holder.now c.store.new.seat c.requires.table c.store.ensures.0 c.store.ensures.2.1

pub returns-clause-written : goal.returns-clause-written
returns-clause-written g c = tells_written c.args.n c.args.words.now.shared.table_id.slots c.args.c c.args.codes c.code_word.result c.args.holder.now.me c.store.new.seat.me c.code_word.ensures c.requires.table.size c.store.ensures.2
