use Rattle.std.proofs.Common.{◌≡◌, ◌∙◌, ap, sym, ◌+◌, [], drop, Err, arith, rules}
use Rattle.std.proofs.lemmas.List.{drop_all}
use Rattle.nfg_script.specs.Answer.{texts}
use Rattle.nfg_script.specs.Words.{code_points_of}
use Rattle.nfg_script.proofs.CodePoints.{after_codes, after_codes-cons, after_codes-err, after_codes-end, code_points-text}
use Rattle.nfg_script.proofs.Texts.{texts-drop}
use Rattle.nfg_script.proofs.code_points.read_code_points.Goals as goal

pub loop-word-preserved : goal.loop-word-preserved
loop-word-preserved c =
    let k = c.loop-word.word-index in
    let codes = c.loop-word.codes.items in
    let rest = texts (drop (k + 1) c.args.words.now) in
    ap (λ v. after_codes v (code_points_of rest)) c.in_ok-push.ensures.items
    ∙ sym (after_codes-cons codes _ rest _ (sym c.in_ok-read_code_point.ensures))
    ∙ ap (λ v. after_codes codes (code_points_of v)) (sym (texts-drop c.args.words.now k _ (omega arith)))
    ∙ c.loop-word.invariant

pub returns-in_err-read_code_point-clause-codes : goal.returns-in_err-read_code_point-clause-codes
returns-in_err-read_code_point-clause-codes c =
    let k = c.loop-word.word-index in
    let codes = c.loop-word.codes.items in
    let rest = texts (drop (k + 1) c.args.words.now) in
    let refused : code_points_of (texts c.args.words.now) ≡ Err c.in_err-read_code_point.field-0.0 =
    sym c.loop-word.invariant
    ∙ ap (λ v. after_codes codes (code_points_of v)) (texts-drop c.args.words.now k _ (omega arith))
    ∙ after_codes-err codes _ rest _ (sym c.in_err-read_code_point.ensures) in
    rw refused (search rules)

pub returns-clause-codes : goal.returns-clause-codes
returns-clause-codes c =
    let all : drop c.loop-word.word-index c.args.words.now ≡ [] = drop_all c.loop-word.word-index c.args.words.now (omega arith) in
    sym c.loop-word.invariant
    ∙ ap (λ v. after_codes c.loop-word.codes.items (code_points_of (texts v))) all
    ∙ after_codes-end c.loop-word.codes.items

pub returns-clause-text : goal.returns-clause-text
returns-clause-text c = code_points-text (texts c.args.words.now) _ (returns-clause-codes c)
