use Rattle.std.proofs.Common.{◌≡◌, ◌++◌, ◌∷◌, [], ap, ◌∙◌, string_bytes, codes}
use Rattle.std.specs.Fmt.{decimal}
use Rattle.nfg_run.proofs.Answered.{append-five}
use Rattle.nfg_run.proofs.answer.refusal_text.Goals as goal

pub returns-in_ok-text-in-Line-clause-told : goal.returns-in_ok-text-in-Line-clause-told
returns-in_ok-text-in-Line-clause-told c =
    let number = decimal c.in-Line.line in
    let told : string_bytes c.in_ok-text-in-Line.text ≡ codes "script line " ++ (number ++ (codes ": " ++ (c.reason_text.result.now ++ 10 ∷ []))) = c.in_ok-text-in-Line.ensures.ok in
    rw c.in-Line.is (told ∙ ap (λ v. codes "script line " ++ (number ++ (codes ": " ++ (v ++ 10 ∷ [])))) c.reason_text.ensures
    ∙ append-five (codes "script line ") number (codes ": ") _ (10 ∷ []))
