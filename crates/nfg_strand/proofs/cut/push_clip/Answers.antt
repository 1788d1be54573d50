-- a range of a repeated unit: a part of one repetition, or an end, whole ones and a start
use Rattle.std.proofs.Common.{◌+◌, ◌-◌, ◌*◌, ◌/◌, ◌++◌, take, drop, ap, ◌∙◌, arith, append_assoc}
use Rattle.std.proofs.lemmas.Result.{on_ok_weaker}
use Rattle.std.specs.List.{repeat}
use Rattle.nfg_strand.specs.Strand.{graphemes}
use Rattle.nfg_strand.proofs.Clips.{in_one, slice_range-in_one, slice_range-long}
use Rattle.nfg_strand.proofs.cut.push_clip.Goals as goal

pub push_part-requires-clause-inside : goal.push_part-requires-clause-inside
push_part-requires-clause-inside c =
    let s = c.args.strand.now in
    let within = in_one s.unit s.times c.unit_len-unit.result c.args.from c.args.until c.unit_len-unit.ensures.len c.unit_len-unit.ensures.nonempty c.requires.ordered c.requires.inside c.if-last-first.true in
    omega arith

pub returns-then-last-first-clause-graphemes : goal.returns-then-last-first-clause-graphemes
returns-then-last-first-clause-graphemes c =
    let s = c.args.strand.now in
    on_ok_weaker c.push_part.result
    (λ pushed. pushed ∙ ap (λ xs. graphemes c.args.into.now.items ++ xs)
    (slice_range-in_one s.unit s.times c.unit_len-unit.result c.args.from c.args.until c.unit_len-unit.ensures.len c.unit_len-unit.ensures.nonempty c.requires.ordered c.requires.inside c.if-last-first.true))
    c.push_part.ensures.graphemes

pub returns-clause-graphemes : goal.returns-clause-graphemes
returns-clause-graphemes c =
    let s = c.args.strand.now in
    let m = c.unit_len-unit.result in
    let old = graphemes c.args.into.now.items in
    let first = (c.args.from + (m - 1)) / m in
    let last = c.args.until / m in
    let start = repeat 1 (take (first * m - c.args.from) (drop (m - (first * m - c.args.from)) s.unit)) in
    let middle = repeat (last - first) (take m s.unit) in
    let end = repeat 1 (take (c.args.until - last * m) s.unit) in
    on_ok_weaker c.push_part-4.result
    (λ pushed. pushed
    ∙ ap (λ xs. xs ++ end) (c.in_ok-push_part-2.ensures.graphemes ∙ ap (λ xs. xs ++ middle) c.in_ok-push_part.ensures.graphemes)
    ∙ append_assoc (old ++ start) middle end
    ∙ append_assoc old start (middle ++ end)
    ∙ ap (λ xs. old ++ xs) (slice_range-long s.unit s.times m c.args.from c.args.until c.unit_len-unit.ensures.len c.unit_len-unit.ensures.nonempty c.requires.ordered c.requires.inside c.if-last-first.false))
    c.push_part-4.ensures.graphemes
