use Rattle.std.proofs.Common.{arith}
use Rattle.nfg_words.proofs.Asks.{read_asks, seat_stays}
use Rattle.nfg_words.proofs.words.read_bucket.Goals as goal

pub load-requires : goal.load-requires
load-requires g c =
    let table = c.requires.table in
    let words = table.words in
    let below = c.requires.place in
    let shared = c.args.words.now.shared in
    (table.table, omega arith, read_asks c.args.n shared.key shared.table_id.slots c.args.holder.now.id c.args.place c.args.holder.now.me c.requires.key table.size below)

pub returns-clause-table : goal.returns-clause-table
returns-clause-table g c = seat_stays _ c.args.n c.args.holder.now c.load.new.seat c.requires.table c.load.ensures.0 c.load.ensures.2.2
