use Rattle.std.proofs.Common.{◌≡◌, ◌≤◌, ◌++◌, ◌/◌, length, max, replicate, sym, ap, ◌∙◌, rules, subst}
use Rattle.std.specs.List.{concat}
use Rattle.nfg_bench.proofs.SampleLemmas.{once_more, samples_fit}
use Rattle.nfg_bench.proofs.texts.repeated.Goals as goal

pub loop-k-preserved : goal.loop-k-preserved
loop-k-preserved c =
    let sample = c.args.sample.now in
    c.in_ok-extend_from_slice.ensures.items ∙ ap (λ l. l ++ sample) c.loop-k.invariant ∙ sym (once_more sample c.loop-k._k)

pub returns-clause-within : goal.returns-clause-within
returns-clause-within c =
    let sample = c.args.sample.now in
    let count : c.loop-k._k ≡ c.args.size / max (length sample) 1 = search rules in
    let whole : c.loop-k.bytes.items ≡ concat (replicate (c.args.size / max (length sample) 1) sample) =
    c.loop-k.invariant ∙ ap (λ n. concat (replicate n sample)) count in
    subst (λ l. length l ≤ c.args.size) (sym whole) (samples_fit sample c.args.size)
