use Rattle.std.proofs.Common.{ap, arith}
use mathlib.Core.Logic.{dite}
use native.Mathlib.Decide.{ℕ_discrete}
use Rattle.nfg_words.specs.declared.view.View.{View}
use Rattle.nfg_words.proofs.Asks.{number_asks, seat_stays, tells_numbered, tells_other}
use Rattle.nfg_words.proofs.loads.read_for.Goals as goal
use Rattle.nfg_words.specs.SoundLaws.{named_inside}

pub code_word-requires-clause-code : goal.code_word-requires-clause-code
code_word-requires-clause-code g c = named_inside c.args.n c.args.holder.now.me.0 c.requires.table.sound c.args.c c.requires.named

pub load-requires : goal.load-requires
load-requires g c =
    let table = c.requires.table in
    let words = table.words in
    let inside = named_inside c.args.n c.args.holder.now.me.0 table.sound c.args.c c.requires.named in
    let at = c.code_word.ensures in
    let shared = c.args.words.now.shared in
    let target = g.K.Target in
    (table.table, omega arith, number_asks c.args.n shared.key shared.table_id.slots c.args.holder.now.id c.args.c c.code_word.result c.args.place target.place c.args.wanted target.wanted c.args.holder.now.me c.requires.key at c.requires.target.0 c.requires.target.1 table.size c.requires.named c.requires.justified)

pub returns-clause-table : goal.returns-clause-table
returns-clause-table g c = seat_stays _ c.args.n c.args.holder.now c.load.new.seat c.requires.table c.load.ensures.0 c.load.ensures.2.2

pub returns-clause-numbered : goal.returns-clause-numbered
returns-clause-numbered g c = tells_numbered c.args.n c.args.words.now.shared.table_id.slots c.args.c c.code_word.result c.load.result g.K.Target.place c.args.place g.K.Target.wanted c.args.wanted c.args.holder.now.me c.load.new.seat.me c.code_word.ensures c.requires.table.size c.requires.target.0 c.requires.target.1 c.load.ensures.2

pub returns-clause-read : goal.returns-clause-read
returns-clause-read g c = tells_other c.args.n c.args.words.now.shared.table_id.slots c.args.c c.code_word.result c.load.result g.K.Target.place g.K.Target.wanted c.args.wanted c.args.holder.now.me c.load.new.seat.me c.code_word.ensures c.requires.table.size c.requires.target.1 c.load.ensures.2

pub returns-clause-made : goal.returns-clause-made
returns-clause-made g c = dite (ℕ_discrete c.load.result g.K.Target.wanted)
    (λ is. ap (λ (v : View). v.steps) (c.load.ensures.2.0 is))
    (λ other. ap (λ (v : View). v.steps) (c.load.ensures.2.1 other))
