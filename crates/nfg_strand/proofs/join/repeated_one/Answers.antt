-- one strand is repeated as it is, and more are one flat strand first
use Rattle.std.proofs.Common.{◌≡◌, ◌*◌, length, ap, sym, ◌∙◌, arith}
use Rattle.std.proofs.lemmas.Result.{IfOk-weaker}
use Rattle.std.specs.List.{repeat}
use Rattle.nfg_strand.specs.Strand.{graphemes, graphemes_of}
use Rattle.nfg_strand.proofs.Joins.{only_one, graphemes-one, graphemes_of-repeated}
use Rattle.nfg_strand.proofs.Places.{length-graphemes-past}
use Rattle.nfg_strand.proofs.Repeats.{length-repeat}
use Rattle.nfg_strand.proofs.join.repeated_one.Goals as goal

pub repeated-requires-clause-bounded : goal.repeated-requires-clause-bounded
repeated-requires-clause-bounded c =
    let s = c.index-strands-0.result in
    let all = ap graphemes (only_one c.args.strands.now s c.if-strands-eq1.true c.index-strands-0.is) ∙ graphemes-one s in
    let same : length s.unit * s.times ≡ c.args.len = sym (c.requires.counted ∙ ap length all ∙ length-repeat s.times s.unit) in
    rw same c.requires.bounded

pub flattened_one-requires-clause-some : goal.flattened_one-requires-clause-some
flattened_one-requires-clause-some c =
    let s = c.index-strands-0.result in
    let parts = length-graphemes-past c.args.strands.now 0 s 0 c.span-span.result c.requires.some c.index-strands-0.is c.span-span.ensures.len in
    omega arith

pub returns-then-strands-eq1-clause-graphemes : goal.returns-then-strands-eq1-clause-graphemes
returns-then-strands-eq1-clause-graphemes c =
    let s = c.index-strands-0.result in
    let all = ap graphemes (only_one c.args.strands.now s c.if-strands-eq1.true c.index-strands-0.is) ∙ graphemes-one s in
    IfOk-weaker c.repeated.result (λ r. r ≡ record s { times = s.times * c.args.n }) (λ r. graphemes_of r ≡ repeat c.args.n (graphemes c.args.strands.now))
    (λ r made. ap graphemes_of made ∙ graphemes_of-repeated s c.args.n ∙ ap (repeat c.args.n) (sym all))
    c.repeated.ensures
