-- the unit comes again after the rest of it
use Rattle.std.proofs.Common.{◌-◌, ◌<◌, ◌++◌, length, drop, ap, sym, ◌∙◌, rules}
use Rattle.nfg_strand.specs.Strand.{left_of}
use Rattle.nfg_strand.proofs.Places.{run_then_time}
use Rattle.nfg_strand.proofs.place.Place.take_run.Goals as goal

pub returns-then-self-gt0-clause-all : goal.returns-then-self-gt0-clause-all
returns-then-self-gt0-clause-all c =
    let strands = c.self.inside.strands.now in
    let at = c.self.inside.at in
    let later = c.self.inside.later in
    let some : 0 < length strands = search rules in
    sym c.self.view_is
    ∙ run_then_time strands c.index-self-0.result at later some c.index-self-0.is c.if-self-gt0.true
    ∙ ap (λ xs. xs ++ left_of strands 0 (later - 1)) (ap (λ s. drop at s.unit) c.index-self-0.is ∙ sym c.run-run.ensures)
