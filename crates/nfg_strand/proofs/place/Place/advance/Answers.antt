-- a place is a count of graphemes of the first strand, and the new place as many more
use Rattle.std.proofs.Common.{◌+◌, ◌-◌, ◌*◌, ◌<◌, length, drop, ap, ap₂, sym, ◌∙◌, arith, rules}
use Rattle.std.proofs.lemmas.List.{take_rest}
use Rattle.nfg_strand.specs.Strand.{graphemes}
use Rattle.nfg_strand.proofs.Places.{drop-left_of, drop-left_of-past, length-left_of}
use Rattle.nfg_strand.proofs.place.Place.advance.Goals as goal

pub from-requires : goal.from-requires
from-requires c =
    let strands = c.self.inside.strands.now in
    let at = c.self.inside.at in
    let later = c.self.inside.later in
    let some : 0 < length strands = search rules in
    let before = ap₂ (λ t u. (t - 1 - later) * u + at) c.times.ensures.times c.unit_len-unit.ensures.len ∙ ap (λ s. (s.times - 1 - later) * length s.unit + at) (sym c.index-self-0.is) in
    let covers = c.span-span.ensures.len ∙ ap (λ s. length s.unit * s.times) (sym c.index-self-0.is) in
    let len = length-left_of strands c.index-self-0.result at later _ c.span-span.result some c.index-self-0.is c.self.invariant before covers in
    let view = ap length c.self.view_is in
    rw (take_rest strands 1) (omega arith)

pub returns-then-count-span : goal.returns-then-count-span
returns-then-count-span c =
    let strands = c.self.inside.strands.now in
    let at = c.self.inside.at in
    let later = c.self.inside.later in
    let some : 0 < length strands = search rules in
    let before = ap₂ (λ t u. (t - 1 - later) * u + at) c.times.ensures.times c.unit_len-unit.ensures.len ∙ ap (λ s. (s.times - 1 - later) * length s.unit + at) (sym c.index-self-0.is) in
    let covers = c.span-span.ensures.len ∙ ap (λ s. length s.unit * s.times) (sym c.index-self-0.is) in
    c.self-then-count-span.view_is ∙ c.within.ensures
    ∙ sym (drop-left_of strands c.index-self-0.result at later _ c.span-span.result some c.index-self-0.is c.self.invariant before covers c.args.count)
    ∙ ap (drop c.args.count) c.self.view_is

pub returns-else-count-span : goal.returns-else-count-span
returns-else-count-span c =
    let strands = c.self.inside.strands.now in
    let at = c.self.inside.at in
    let later = c.self.inside.later in
    let some : 0 < length strands = search rules in
    let before = ap₂ (λ t u. (t - 1 - later) * u + at) c.times.ensures.times c.unit_len-unit.ensures.len ∙ ap (λ s. (s.times - 1 - later) * length s.unit + at) (sym c.index-self-0.is) in
    let covers = c.span-span.ensures.len ∙ ap (λ s. length s.unit * s.times) (sym c.index-self-0.is) in
    let over = (c.times.result - 1 - later) * c.unit_len-unit.result + at in
    c.self-else-count-span.view_is ∙ c.from.ensures
    ∙ ap (λ ss. drop (c.args.count - (c.span-span.result - over)) (graphemes ss)) (take_rest strands 1)
    ∙ sym (drop-left_of-past strands c.index-self-0.result at later over c.span-span.result some c.index-self-0.is c.self.invariant before covers c.args.count c.if-count-span.false)
    ∙ ap (drop c.args.count) c.self.view_is
