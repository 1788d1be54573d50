-- the unit comes again, so looking through it once is enough
use Rattle.std.proofs.Common.{◌≡◌, ◌+◌, ◌-◌, ◌*◌, ◌<◌, ◌++◌, min, get_or, length, take, drop, ap, ap₂, sym, ◌∙◌, arith, rules}
use Rattle.std.proofs.lemmas.List.{take_rest}
use Rattle.std.specs.List.{position_from}
use Rattle.std.specs.Prelude.{ℤ}
use Rattle.std.specs.Ordering.{int_eq}
use Rattle.nfg_strand.specs.Strand.{graphemes}
use Rattle.nfg_strand.proofs.Places.{left_of-first, IsPlaceIn-first}
use Rattle.nfg_strand.proofs.Positions.{position_from-round}
use Rattle.nfg_strand.proofs.place.Place.find_here.Goals as goal

pub returns-clause-found : goal.returns-clause-found
returns-clause-found c =
    let strands = c.self.inside.strands.now in
    let s = c.index-self-0.result in
    let at = c.self.inside.at in
    let later = c.self.inside.later in
    let test = λ (y : ℤ). int_eq y c.args.x in
    let some : 0 < length strands = search rules in
    let view = sym (left_of-first strands s at later some c.index-self-0.is) ∙ c.self.view_is in
    let place = IsPlaceIn-first strands s at later some c.index-self-0.is c.self.invariant in
    let read = get_or strands 0 s in
    let found : c.find_round-found.result ≡ position_from test 0 (take (c.unit_len-unit.result - at) (drop at read.unit) ++ take c.min-again.result read.unit) = search rules in
    let unit_len = c.unit_len-unit.ensures.len ∙ ap (λ t. length t.unit) (sym c.index-self-0.is) in
    let again = c.min-again.ensures ∙ ap (λ n. min (c.args.limit - (n - at)) at) unit_len in
    let past = c.if-limit-run.false in
    let limit_within = ap length view in
    found
    ∙ ap₂ (λ n t. position_from test 0 (take (n - at) (drop at t.unit) ++ take c.min-again.result t.unit)) unit_len (sym c.index-self-0.is)
    ∙ ap (λ xs. position_from test 0 (xs ++ take c.min-again.result s.unit)) (take_rest s.unit at)
    ∙ position_from-round test s.unit (graphemes (drop 1 strands)) at later c.args.limit c.min-again.result place.0 (omega (arith, c.if-self-eq0.false)) (omega arith) again (omega arith)
    ∙ ap₂ (λ n xs. position_from test 0 (take n xs)) (sym (c.min.ensures ∙ ap (λ n. min c.args.limit (n - at + later * n)) unit_len)) view
