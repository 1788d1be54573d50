-- each part is what is read of the string
use Rattle.std.proofs.Common.{◌≡◌, ◌≤◌, ◌+◌, ◌-◌, ◌++◌, ℕ, ℤ, List, length, take, drop, slice_range, ap, subst, sym, ◌∙◌, arith, length-drop, length-take-le}
use Rattle.std.proofs.lemmas.List.{take_at}
use Rattle.nfg_syn.specs.Represents.{Represents, AreKnown}
use Rattle.nfg_ops.proofs.Asked.{asked-both}
use Rattle.nfg_ops.proofs.Spelling.{Represents-range, Represents-same_known, known-range, known-same, text-parts}
use Rattle.nfg_ops.proofs.spelled.append_codes.Goals as goal

-- what is copied into the front of the numbers is the range
part-is : (graphemes numbers copied : List ℤ) (place count : ℕ) → count ≤ length numbers → place + count ≤ length graphemes
    → copied ≡ slice_range graphemes place (place + length (take count numbers)) → take count (copied ++ drop count numbers) ≡ slice_range graphemes place (place + count)
part-is graphemes numbers copied place count room inside is =
    let range = is ∙ ap (λ n. slice_range graphemes place (place + n)) (length-take-le count numbers room) in
    let behind = length-drop place graphemes in
    let exact : place + count - place ≡ count = omega arith in
    let long = ap length range ∙ length-take-le (place + count - place) (drop place graphemes) (omega (arith, behind, inside)) ∙ exact in
    take_at copied (drop count numbers) count long ∙ range

pub append_numbers-requires-clause-known : goal.append_numbers-requires-clause-known
append_numbers-requires-clause-known g c κs within =
    let graphemes = c.args.a.now.graphemes in
    let place = c.loop-place.place in
    let count = c.min-count.result in
    let part : take count (c.copy_into.new.into ++ drop count c.loop-place.numbers) ≡ slice_range graphemes place (place + count) =
    part-is graphemes c.loop-place.numbers c.copy_into.new.into place count (omega (arith, c.min-count.array_long)) (omega (arith, c.requires.inside)) c.copy_into.ensures in
    subst (AreKnown (g.T.Synthetics.seen c.loop-place.pass).known) (sym part)
    (known-same _ _ c.loop-place.invariant.asked.known (slice_range graphemes place (place + count)) (known-range _ graphemes place (place + count) c.requires.known))

pub loop-place-preserved : goal.loop-place-preserved
loop-place-preserved g c =
    let graphemes = c.args.a.now.graphemes in
    let place = c.loop-place.place in
    let count = c.min-count.result in
    let part : take count (c.copy_into.new.into ++ drop count c.loop-place.numbers) ≡ slice_range graphemes place (place + count) =
    part-is graphemes c.loop-place.numbers c.copy_into.new.into place count (omega (arith, c.min-count.array_long)) (omega (arith, c.requires.inside)) c.copy_into.ensures in
    record {
      low = omega arith;
      high = omega arith;
      table = c.in_ok-append_numbers.ensures.table;
      asked = asked-both _ _ _ c.loop-place.invariant.asked c.in_ok-append_numbers.ensures.asked;
      added = λ list represents.
          let rest = Represents-same_known _ _ c.loop-place.invariant.asked.known (slice_range graphemes place (place + count)) (slice_range list place (place + count))
          (Represents-range _ graphemes list place (place + count) represents) in
          text-parts c.args.into.now c.loop-place.into c.append_numbers.new.into list c.args.start place (place + count) c.loop-place.invariant.low (omega arith)
          (c.loop-place.invariant.added list represents)
          (c.in_ok-append_numbers.ensures.added (slice_range list place (place + count))
          (subst (λ ns. Represents (g.T.Synthetics.seen c.loop-place.pass).known ns (slice_range list place (place + count))) (sym part) rest));
    }
