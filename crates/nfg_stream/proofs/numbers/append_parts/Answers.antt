use Rattle.std.proofs.Common.{◌++◌, ◌-◌, ◌∙◌, pos, length, take, drop, map, arith, append_assoc, ap, sym, subst}
use Rattle.std.proofs.lemmas.List.{length-take, map-append}
use Rattle.nfg_text.specs.Text.{IsText}
use Rattle.nfg_text.proofs.Proved.{parts_of_text}
use Rattle.nfg_stream.proofs.ReadingLemmas.{part-rest}
use Rattle.nfg_stream.proofs.numbers.append_parts.Goals as goal

pub slice_bounds-append_part-end : goal.slice_bounds-append_part-end
slice_bounds-append_part-end c = omega (arith, c.parts-test.true, length-take 256 c.parts.rest.now)

pub append_part-requires-clause-text : goal.append_part-requires-clause-text
append_part-requires-clause-text c =
    let rest = c.parts.rest.now in
    ((parts_of_text (take 256 rest) (take (length rest - 256) (drop 256 rest))).0
    (subst IsText (sym (part-rest 256 rest (omega (arith, c.parts-test.true)))) c.parts.invariant.text)).0

pub append_part-requires-clause-room : goal.append_part-requires-clause-room
append_part-requires-clause-room c = omega (arith, length-take 256 c.parts.rest.now, c.parts.invariant.room, c.parts-test.true)

pub parts-preserved : goal.parts-preserved
parts-preserved c =
    let i = c.parts.invariant in
    let rest = c.parts.rest.now in
    let part = take 256 rest in
    let whole = part-rest 256 rest (omega (arith, c.parts-test.true)) in
    record {
      front = i.front ++ part;
      joined = append_assoc i.front part _ ∙ ap (λ l. i.front ++ l) whole ∙ i.joined;
      appended =
          c.in_ok-append_part.ensures.appended ∙ ap (λ l. l ++ map (λ x. pos x) part) i.appended
          ∙ append_assoc c.args.numbers.now.items (map (λ x. pos x) i.front) (map (λ x. pos x) part)
          ∙ ap (λ l. c.args.numbers.now.items ++ l) (sym (map-append (λ x. pos x) i.front part));
      text = ((parts_of_text part (take (length rest - 256) (drop 256 rest))).0 (subst IsText (sym whole) i.text)).1;
      room = omega (arith, c.append_part.auto.scratch, i.room);
    }
