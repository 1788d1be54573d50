use Rattle.nfg_words.proofs.MeetLemmas.{keeps_met, meets_met, pass_joined}
use Rattle.nfg_words.proofs.table.WordTableShared.meet.Goals as goal

pub returns-clause-table : goal.returns-clause-table
returns-clause-table c =
    let is = c.requires.into_table in record {
      row_size = is.row_size;
      key = is.key;
      of_pass = pass_joined _ _ c.args.into.now c.args.from c.join_views.new.holder c.later-into.result is.of_pass c.requires.from_table.of_pass c.join_views.ensures.table c.join_views.ensures.joined c.later-into.ensures;
    }

pub returns-clause-keeps : goal.returns-clause-keeps
returns-clause-keeps c =
    let is = c.requires.into_table.of_pass in
    let from = c.requires.from_table.of_pass in
    keeps_met _ _ c.args.into.now c.args.from _ is from
    (pass_joined _ _ c.args.into.now c.args.from c.join_views.new.holder c.later-into.result is from c.join_views.ensures.table c.join_views.ensures.joined c.later-into.ensures) c.join_views.ensures.joined

pub returns-clause-met : goal.returns-clause-met
returns-clause-met c =
    let is = c.requires.into_table.of_pass in
    let from = c.requires.from_table.of_pass in
    meets_met _ _ c.args.into.now c.args.from _ is from
    (pass_joined _ _ c.args.into.now c.args.from c.join_views.new.holder c.later-into.result is from c.join_views.ensures.table c.join_views.ensures.joined c.later-into.ensures) c.join_views.ensures.joined
