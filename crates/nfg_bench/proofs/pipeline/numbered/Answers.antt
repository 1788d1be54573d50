use Rattle.std.proofs.Common.{◌≡◌, length, ap, ◌∙◌, subst}
use Rattle.std.specs.Prelude.{IfOk}
use Rattle.nfg_text.specs.Graphemes.{clusters}
use Rattle.nfg_bench.proofs.GraphemeLemmas.{length-ends_from}
use Rattle.nfg_bench.proofs.pipeline.numbered.Goals as goal

pub returns : goal.returns
returns c =
    let ends = ap length (c.as_slice-3.ensures ∙ c.in_ok-ends.ensures) ∙ length-ends_from 0 (clusters c.as_slice.result.now) in
    let composed = c.as_slice.ensures ∙ c.in_ok-composed.ensures.codes in
    subst (λ n. IfOk c.numbers_of.result (λ numbers. length numbers.items ≡ n)) (ends ∙ ap (λ t. length (clusters t)) composed) c.numbers_of.ensures
