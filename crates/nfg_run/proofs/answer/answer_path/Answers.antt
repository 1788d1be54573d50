use Rattle.std.proofs.Common.{◌≡◌, ◌≢◌, [], Ok, Err, sym, ap, ◌∙◌}
use Rattle.nfg_script.specs.declared.error.ScriptError.TheVariants.{OutOfMemory}
use Rattle.nfg_script.specs.Script.{load_paths}
use Rattle.nfg_script.specs.Grammar.{parse, byte_limit}
use Rattle.nfg_work.specs.Evaluation.{evaluate}
use Rattle.nfg_run.specs.Answer.{answer_script, answer_output}
use Rattle.nfg_run.specs.Headline.{AreLoadsRead}
use Rattle.nfg_run.proofs.Answered.{IsAnswered-refused, IsAnswered-accepted, HasFailedAt-earlier, IfOk-map, IfOk-both}
use Rattle.nfg_run.proofs.Loads.{AreWithinLimit-of}
use Rattle.nfg_run.proofs.answer.answer_path.Goals as goal

pub returns-in-Err : goal.returns-in-Err
returns-in-Err g c =
    let bytes : c.as_slice.result.now ≡ c.in-Ok.bytes = c.as_slice.ensures in
    IfOk-both (λ given. given ≡ answer_script 0 (Err c.in-Err.error) []) (λ given. c.in-Err.error ≢ OutOfMemory) _ c.refusal_answer.result
    (λ given is refused words said. IsAnswered-refused words c.args.means.workers c.args.means.places c.args.path.now c.in-Ok.bytes _ _ given c.in-Err.error said c.in-Ok.ensures.bytes
    (ap parse (sym bytes) ∙ c.in-Err.ensures.refused refused)
    (record { open_path = c.in-Ok.ensures.open_path; position = λ whole. c.in-Ok.ensures.position }) is)
    c.refusal_answer.ensures.told c.refusal_answer.ensures.refused

pub evaluated-requires-clause-reads : goal.evaluated-requires-clause-reads
evaluated-requires-clause-reads g c κs within = rw (c.as_slice-in-Ok-parse.ensures.value)
    (AreWithinLimit-of _ 0 (load_paths c.in-Ok-parse.script) _ c.in_ok-reads-in-Ok-parse.ensures.read)

pub returns : goal.returns
returns g c =
    let accepted : parse c.in-Ok.bytes ≡ Ok c.in-Ok-parse.script =
    ap parse (sym c.as_slice.ensures) ∙ c.in-Ok-parse.ensures.parsed in
    let reads = c.in_ok-reads-in-Ok-parse.reads.items in
    let loads : AreLoadsRead (g.F.Files.state c.args.files.now).contents 0 (load_paths c.in-Ok-parse.script) reads =
    rw (c.in-Ok.ensures.contents) at c.in_ok-reads-in-Ok-parse.ensures.read in
    let cause = HasFailedAt-earlier (g.F.Files.state c.args.files.now) _ _ _ c.in-Ok.ensures.never_falls
    c.in_ok-reads-in-Ok-parse.ensures.failed in
    let last_open = c.in_ok-reads-in-Ok-parse.ensures.last_open c.args.path.now byte_limit
    (record { open_path = c.in-Ok.ensures.open_path; position = λ whole. c.in-Ok.ensures.position }) in
    let output : c.in_ok-output-in-Ok-parse.output ≡ evaluate c.in-Ok-parse.script reads c.args.means.places =
    c.in_ok-output-in-Ok-parse.ensures ∙ ap (λ v. evaluate c.in-Ok-parse.script v c.args.means.places) c.as_slice-in-Ok-parse.ensures.value in
    IfOk-map (λ given. given ≡ answer_output c.in_ok-output-in-Ok-parse.output.bytes c.in_ok-output-in-Ok-parse.output.refused) _ c.answer_to_output.result
    (λ given is words said. IsAnswered-accepted words c.args.means.workers c.args.means.places c.args.path.now c.in-Ok.bytes _ _ given c.in-Ok-parse.script reads
    said c.in-Ok.ensures.bytes accepted loads cause last_open (is ∙ ap (λ o. answer_output o.bytes o.refused) output))
    c.answer_to_output.ensures
