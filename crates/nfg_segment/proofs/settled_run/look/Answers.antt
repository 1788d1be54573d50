use Rattle.std.proofs.Common.{drop}
use Rattle.nfg_segment.proofs.SettledRuns.{read-whole, read-within, read-settled, read-ids}
use Rattle.nfg_segment.proofs.settled_run.look.Goals as goal

pub returns-clause-within : goal.returns-clause-within
returns-clause-within c =
    let text = c.args.text.now in
    let into = c.ids_of.new.into in
    let rest = drop c.args.end c.args.ids.now in
    let first = c.first_unsettled.result in
    let is = read-whole text into rest c.args.end first c.ids_of.ensures c.first_unsettled.ensures c.requires.within in
    read-within text into c.args.end first c.ids_of.ensures is c.requires.within

pub returns-clause-settled : goal.returns-clause-settled
returns-clause-settled c =
    let text = c.args.text.now in
    let into = c.ids_of.new.into in
    let rest = drop c.args.end c.args.ids.now in
    let first = c.first_unsettled.result in
    let is = read-whole text into rest c.args.end first c.ids_of.ensures c.first_unsettled.ensures c.requires.within in
    read-settled text into c.args.end first c.ids_of.ensures is c.requires.within

pub returns-clause-ids : goal.returns-clause-ids
returns-clause-ids c =
    let text = c.args.text.now in
    let into = c.ids_of.new.into in
    let rest = drop c.args.end c.args.ids.now in
    let first = c.first_unsettled.result in
    let is = read-whole text into rest c.args.end first c.ids_of.ensures c.first_unsettled.ensures c.requires.within in
    read-ids text into rest c.args.end first c.ids_of.ensures is c.requires.within
