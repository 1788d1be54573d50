use Rattle.std.proofs.Common.{◌≡◌, ◌∙◌, ◌==◌, List, ℕ, [], Bor, ap, subst, map, length, arith}
use Rattle.std.specs.List.{slice_split}
use Rattle.std.specs.Str.Lines.{strip_carriage_return}
use Rattle.std.proofs.lemmas.List.{length-map}
use Rattle.nfg_script.specs.Answer.{texts, so_far, Answers}
use Rattle.nfg_script.specs.Grammar.{commands_from}
use Rattle.nfg_script.proofs.LinesRead.{few_parts, parts_read}
use Rattle.nfg_script.proofs.reading.read_text.Goals as goal

pub read_lines-requires : goal.read_lines-requires
read_lines-requires c =
    let parts : texts c.as_slice.result.now ≡ slice_split (λ b. b == 10) c.args.text.now =
    ap texts c.as_slice.ensures.value ∙ c.in_ok-parts.ensures in
    let few = few_parts c.args.text.now in
    omega (arith, ap length parts, length-map c.as_slice.result.now (λ (part : Bor (List ℕ)). part.now))

pub returns : goal.returns
returns c =
    let parts : texts c.as_slice.result.now ≡ slice_split (λ b. b == 10) c.args.text.now =
    ap texts c.as_slice.ensures.value ∙ c.in_ok-parts.ensures in
    subst (Answers c.read_lines.result)
    (ap (λ v. commands_from (so_far [] []) 1 (map strip_carriage_return v)) parts ∙ parts_read c.args.text.now (so_far [] []) 1)
    c.read_lines.ensures
