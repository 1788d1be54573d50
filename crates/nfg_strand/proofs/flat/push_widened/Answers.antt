use Rattle.std.proofs.Common.{◌++◌, take, ap, ◌∙◌, arith, append_assoc}
use Rattle.std.proofs.lemmas.List.{length-take}
use Rattle.nfg_strand.proofs.Repeats.{front-rest}
use Rattle.nfg_strand.proofs.flat.push_widened.Goals as goal

pub slice_bounds-push_part-end : goal.slice_bounds-push_part-end
slice_bounds-push_part-end c = omega (arith, c.parts-test.true, length-take 4096 c.parts.rest.now)

pub parts-preserved : goal.parts-preserved
parts-preserved c =
    let i = c.parts.invariant in
    let rest = c.parts.rest.now in
    let part = take 4096 rest in
    record {
      front = i.front ++ part;
      joined = append_assoc i.front part _ ∙ ap (λ l. i.front ++ l) (front-rest 4096 rest (omega (arith, c.parts-test.true))) ∙ i.joined;
      added = c.in_ok-push_part.ensures ∙ ap (λ l. l ++ part) i.added ∙ append_assoc c.args.into.now.items i.front part;
    }
