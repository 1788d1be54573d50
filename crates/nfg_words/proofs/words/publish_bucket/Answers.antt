use Rattle.std.proofs.Common.{arith}
use Rattle.nfg_words.proofs.Asks.{publish_asks, seat_stays}
use Rattle.nfg_words.proofs.words.publish_bucket.Goals as goal

pub compare_exchange-requires : goal.compare_exchange-requires
compare_exchange-requires g c =
    let table = c.requires.table in
    let words = table.words in
    let below = c.requires.place in
    let shared = c.args.words.now.shared in
    (table.table, omega arith, publish_asks c.args.n shared.key shared.table_id.slots c.args.holder.now.id c.args.place c.args.bucket c.args.holder.now.me c.requires.can.0 c.requires.key table.size below c.requires.can.1)

pub returns-clause-table : goal.returns-clause-table
returns-clause-table g c = seat_stays _ c.args.n c.args.holder.now c.compare_exchange.new.seat c.requires.table c.compare_exchange.ensures.0 c.compare_exchange.ensures.2.2
