use Rattle.std.proofs.Common.{ℕ, sym, ap, subst, ◌∙◌, arith}
use Rattle.atomic_table.specs.Table.{Me}
use Rattle.nfg_words.specs.Words.{IsSound}
use Rattle.nfg_words.specs.declared.view.View.{View}
use Rattle.nfg_words.proofs.Asks.{splits, split_sound, split_off_sound}
use Rattle.nfg_words.proofs.words.split_view.Goals as goal

pub split_seat-requires : goal.split_seat-requires
split_seat-requires c =
    let table = c.requires.table in
    let words = table.words in
    (table.table, omega arith, splits c.args.words.now.shared.key c.args.holder.now.id c.args.holder.now.me.0 (table.size ∙ sym c.requires.key))

pub returns-clause-table : goal.returns-clause-table
returns-clause-table c =
    let table = c.requires.table in
    let done = c.split_seat.ensures in
    let view = ap (λ (me : Me ℕ View). me.0) done.2 in
    record {
      table = done.0 ∙ table.table;
      words = table.words;
      size = ap (λ (v : View). v.size) view ∙ table.size;
      no_slots = ap (λ (me : Me ℕ View). me.1) done.2 ∙ table.no_slots;
      sound = subst (IsSound c.args.n) (sym view) (split_sound c.args.n c.args.holder.now.me.0 table.size table.sound);
    }

pub returns-clause-new_table : goal.returns-clause-new_table
returns-clause-new_table c =
    let table = c.requires.table in
    let done = c.split_seat.ensures in
    let view = ap (λ (me : Me ℕ View). me.0) done.4 in
    record {
      table = done.3 ∙ table.table;
      words = table.words;
      size = ap (λ (v : View). v.size) view ∙ table.size;
      no_slots = ap (λ (me : Me ℕ View). me.1) done.4;
      sound = subst (IsSound c.args.n) (sym view) (split_off_sound c.args.n c.args.holder.now.me.0 table.size table.sound);
    }
