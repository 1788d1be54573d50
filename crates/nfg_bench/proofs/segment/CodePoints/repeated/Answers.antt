use Rattle.std.proofs.Common.{◌++◌, replicate, sym, ap, ◌∙◌, append_assoc}
use Rattle.std.specs.List.{concat}
use Rattle.std.specs.Prelude.{chars}
use Rattle.nfg_bench.proofs.SampleLemmas.{once_more}
use Rattle.nfg_bench.proofs.segment.CodePoints.repeated.Goals as goal

pub loop-k-preserved : goal.loop-k-preserved
loop-k-preserved c =
    let front = chars c.args.front.now in
    let sample = chars c.args.sample.now in
    c.in_ok-append-2.ensures ∙ ap (λ l. l ++ sample) c.loop-k.invariant
    ∙ append_assoc front (concat (replicate c.loop-k._k sample)) sample ∙ ap (λ l. front ++ l) (sym (once_more sample c.loop-k._k))

pub returns : goal.returns
returns c = (c.loop-k._k, c.loop-k.invariant)
