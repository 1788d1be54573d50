use Rattle.std.proofs.Common.{◌∙◌, [], Err, ap, sym, subst, arith}
use Rattle.nfg_script.specs.declared.error.ScriptError.TheVariants.{Malformed}
use Rattle.nfg_script.specs.Answer.{so_far, Answers}
use Rattle.nfg_script.specs.Grammar.{commands_from, lines_of, parse}
use Rattle.nfg_script.proofs.LinesRead.{parse-text, parse-malformed, answers-ok, answers-err}
use Rattle.nfg_script.proofs.reading.parse.Goals as goal

whole : (c : goal.After-read_text) → Answers c.read_text.result (parse c.args.bytes.now)
whole c =
    let same = c.in-Ok.ensures.cases.0 in
    subst (Answers c.read_text.result)
    (ap (λ v. commands_from (so_far [] []) 1 (lines_of v)) same
    ∙ sym (parse-text c.args.bytes.now (omega arith) (omega arith) c.in-Ok.ensures.cases.1))
    c.read_text.ensures

pub returns-in-Ok-clause-parsed : goal.returns-in-Ok-clause-parsed
returns-in-Ok-clause-parsed c = answers-ok c.read_text.result _ (whole c)

pub returns-in-Ok-clause-refused : goal.returns-in-Ok-clause-refused
returns-in-Ok-clause-refused c = answers-err c.read_text.result _ (whole c)

pub returns-in-Err-clause-refused : goal.returns-in-Err-clause-refused
returns-in-Err-clause-refused c = λ other.
    parse-malformed c.args.bytes.now (omega arith) (omega arith) c.in-Err.ensures.cases.0
    ∙ ap (λ v. Err (Malformed v)) (sym (c.valid_up_to.ensures ∙ c.in-Err.ensures.valid_len))
