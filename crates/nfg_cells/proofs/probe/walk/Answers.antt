use Rattle.std.proofs.Common.{◌≡◌, length, ◌+◌, ◌%◌, Some, Ok, sym, ap, ◌∙◌, arith}
use Rattle.std.proofs.lemmas.Slice.Eq.{slice_eq-Decides}
use Rattle.std.proofs.lemmas.Bool.Decides.{Decides-eqb, not_from_Decides}
use Rattle.nfg_syn.specs.KnownLaws.{same_text}
use Rattle.nfg_cells.specs.Notes.{places_of}
use Rattle.nfg_cells.specs.Probe.{IsFound}
use Rattle.nfg_cells.specs.ProbeLaws.{ArePassed-grows, ArePassed-more, IsFound-grows, IsFound-one, never_unseen, not_full}
use Rattle.nfg_cells.proofs.probe.walk.Goals as goal

pub returns-then-eq-clause-found : goal.returns-then-eq-clause-found
returns-then-eq-clause-found c =
    let n = length c.args.cells.now in
    let t = c.args.codes.now in
    let step = c.loop-step.step in
    let same : c.in-Ok.cluster.now.codes.items ≡ t = sym c.as_slice.ensures.value ∙ (slice_eq-Decides Decides-eqb _ _ _ c.eq.ensures).0 c.if-eq.true in
    record {
      here = c.in-Ok.ensures.seen ∙ ap Some same;
      step = step;
      within = c.loop-step-test.true;
      reached = ap (λ hash. (hash + step) % n) (sym c.hash-hash.ensures.hash);
      passed = ArePassed-grows n (places_of c.loop-step.notes) (places_of c.look.new.notes) t step c.in-Ok.ensures.grown c.loop-step.invariant.passed;
    }

pub returns-then-eq-clause-already_found : goal.returns-then-eq-clause-already_found
returns-then-eq-clause-already_found c k found =
    let n = length c.args.cells.now in
    let t = c.args.codes.now in
    let new = places_of c.look.new.notes in
    let here : IsFound n new _ t = returns-then-eq-clause-found c in
    let there = IsFound-grows n (places_of c.args.notes.now) new k t (λ j u e. c.in-Ok.ensures.grown j u (c.loop-step.invariant.grown j u e)) found in
    ap (λ place. Ok place) (IsFound-one n new new t _ k (λ j u v e f. same_text u v (sym e ∙ f)) here there)

pub returns-in-Err-clause-already_found : goal.returns-in-Err-clause-already_found
returns-in-Err-clause-already_found c k found =
    let n = length c.args.cells.now in
    let t = c.args.codes.now in
    let step = c.loop-step.step in
    let places = places_of c.loop-step.notes in
    let there = IsFound-grows n (places_of c.args.notes.now) places k t c.loop-step.invariant.grown found in
    absurd (never_unseen n places t k step there c.loop-step.invariant.passed (ap (λ hash. places ((hash + step) % n)) (sym c.hash-hash.ensures.hash) ∙ c.in-Err.ensures.unseen))

pub loop-step-preserved : goal.loop-step-preserved
loop-step-preserved c =
    let n = length c.args.cells.now in
    let t = c.args.codes.now in
    let step = c.loop-step.step in
    let new = places_of c.look.new.notes in
    let differs = not_from_Decides _ (slice_eq-Decides Decides-eqb _ _ _ c.eq.ensures) c.if-eq.false in
    record {
      notes = c.in-Ok.ensures.notes;
      grown = λ j u e. c.in-Ok.ensures.grown j u (c.loop-step.invariant.grown j u e);
      marked = c.in-Ok.ensures.marked;
      named = λ j. c.in-Ok.ensures.named j ∙ c.loop-step.invariant.named j;
      passed = ArePassed-more n new t c.in-Ok.cluster.now.codes.items step (ArePassed-grows n (places_of c.loop-step.notes) new t step c.in-Ok.ensures.grown c.loop-step.invariant.passed)
          (ap (λ hash. new ((hash + step) % n)) (sym c.hash-hash.ensures.hash) ∙ c.in-Ok.ensures.seen) (λ same. differs (c.as_slice.ensures.value ∙ same));
    }

pub returns-clause-already_found : goal.returns-clause-already_found
returns-clause-already_found c k found =
    let n = length c.args.cells.now in
    let t = c.args.codes.now in
    let places = places_of c.loop-step.notes in
    let all = c.loop-step-test.false in
    let there = IsFound-grows n (places_of c.args.notes.now) places k t c.loop-step.invariant.grown found in
    absurd (not_full n places t k there (λ step less. c.loop-step.invariant.passed step (omega arith)))
