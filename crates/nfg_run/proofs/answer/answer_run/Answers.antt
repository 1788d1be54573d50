use Rattle.std.proofs.Common.{◌≡◌, ◌≢◌, Some, None, [], length, slice_index_or, refl, subst, ◌∙◌}
use Rattle.nfg_run.specs.CommandLine.{Run, workers_of, places_of}
use Rattle.nfg_run.proofs.Answered.{IsAnswered-unread, IfOk-map}
use Rattle.nfg_run.proofs.Lines.{run_of-none, run_of-one}
use Rattle.nfg_run.proofs.answer.answer_run.Goals as goal

pub returns-then-len-ne1-clause-answered : goal.returns-then-len-ne1-clause-answered
returns-then-len-ne1-clause-answered g c =
    let other : length c.args.said.now.plain ≢ 1 = subst (λ v. v ≢ 1) c.len.ensures c.if-len-ne1.true in
    IfOk-map _ _ c.text_answer.result
    (λ given is words said. IsAnswered-unread words None _ given (said ∙ run_of-none c.args.said.now c.args.said.now.plain other) refl is)
    c.text_answer.ensures

pub returns-clause-answered : goal.returns-clause-answered
returns-clause-answered g c =
    let read = c.args.said.now in
    let one : length read.plain ≡ 1 = cc in
    let path = c.get.ensures in
    let workers = c.means.ensures.workers in
    let places = c.means.ensures.places in
    let asked : Some (Run (workers_of read) (places_of read) (slice_index_or read.plain 0 [])) ≡ Some (Run c.means.result.workers c.means.result.places c.get.result.now) = cc in
    IfOk-map _ _ c.answer_path.result (λ given is words said. is words (said ∙ run_of-one read read.plain one ∙ asked)) c.answer_path.ensures
