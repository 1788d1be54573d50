use Rattle.std.proofs.Common.{◌≡◌, ◌≢◌, arith}
use Rattle.std.proofs.lemmas.Bool.Decides.{nat_tests}
use Rattle.nfg_words.proofs.Asks.{seat_stays, take_asks, tells_taken, tells_found}
use Rattle.nfg_words.proofs.words.take_chunk.Goals as goal

pub compare_exchange-requires : goal.compare_exchange-requires
compare_exchange-requires g c =
    let table = c.requires.table in
    let words = table.words in
    let fits = c.requires.chunk in
    let at = c.chunk_word.ensures in
    let shared = c.args.words.now.shared in
    (table.table, omega arith, take_asks c.args.n shared.key shared.table_id.slots c.args.holder.now.id c.args.chunk c.chunk_word.result c.args.holder.now.me c.requires.key at table.size fits)

pub returns-clause-table : goal.returns-clause-table
returns-clause-table g c = seat_stays _ c.args.n c.args.holder.now c.compare_exchange.new.seat c.requires.table c.compare_exchange.ensures.0 c.compare_exchange.ensures.2.2

pub returns-clause-taken : goal.returns-clause-taken
returns-clause-taken g c = λ is.
    let free : c.compare_exchange.result ≡ 0 = grind (arith, nat_tests) in
    tells_taken c.args.n c.args.words.now.shared.table_id.slots c.args.chunk c.chunk_word.result c.compare_exchange.result c.args.holder.now.me c.compare_exchange.new.seat.me c.chunk_word.ensures c.requires.table.size c.compare_exchange.ensures.2 free

pub returns-clause-found : goal.returns-clause-found
returns-clause-found g c = λ is.
    let taken : c.compare_exchange.result ≢ 0 = grind (arith, nat_tests) in
    tells_found c.args.n c.args.words.now.shared.table_id.slots c.args.chunk c.chunk_word.result c.compare_exchange.result c.args.holder.now.me c.compare_exchange.new.seat.me c.chunk_word.ensures c.requires.table.size c.compare_exchange.ensures.2 taken
