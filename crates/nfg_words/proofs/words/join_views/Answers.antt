use Rattle.std.proofs.Common.{ℕ, sym, ap, subst, ◌∙◌, arith}
use Rattle.atomic_table.specs.Table.{Me}
use Rattle.nfg_words.specs.Words.{IsSound}
use Rattle.nfg_words.specs.declared.view.View.{View}
use Rattle.nfg_words.proofs.Asks.{joins, sight_asks}
use Rattle.nfg_words.proofs.words.join_views.Goals as goal

pub join_seat-requires : goal.join_seat-requires
join_seat-requires c =
    let table = c.requires.table in
    let words = table.words in (
      table.table,
      c.requires.other_table.table,
      c.requires.other_table.no_slots,
      omega arith,
      joins c.args.words.now.shared.key c.args.holder.now.id c.args.holder.now.me.0 (table.size ∙ sym c.requires.key) c.args.other.id c.args.other.me.0,
    )

pub load-requires : goal.load-requires
load-requires c =
    let table = c.requires.table in
    let words = table.words in
    let shared = c.args.words.now.shared in
    let seat = c.join_seat.new.seat in
    let done = c.join_seat.ensures in
    (done.0 ∙ table.table, omega arith, sight_asks c.args.n shared.key shared.table_id.slots seat.id 0 seat.me c.requires.key (ap (λ (me : Me ℕ View). me.0.size) done.2 ∙ table.size))

pub returns-clause-table : goal.returns-clause-table
returns-clause-table c =
    let table = c.requires.table in
    let joined = c.join_seat.ensures in
    let seen = c.load.ensures in
    let size = ap (λ (me : Me ℕ View). me.0.size) joined.2 ∙ table.size in
    record {
      table = seen.0 ∙ (joined.0 ∙ table.table);
      words = table.words;
      size = ap (λ (me : Me ℕ View). me.0.size) seen.2.0 ∙ size;
      no_slots = ap (λ (me : Me ℕ View). me.1) seen.2.0 ∙ (ap (λ (me : Me ℕ View). me.1) joined.2 ∙ table.no_slots);
      sound = subst (λ m. IsSound m c.load.new.seat.me.0) size seen.2.1;
    }
