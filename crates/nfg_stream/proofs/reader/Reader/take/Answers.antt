use Rattle.std.proofs.Common.{arith, ◌++◌, length, take, ap, subst, ◌∙◌, append_assoc, length-append}
use Rattle.std.proofs.Math.Logic.{∥∥₁_map}
use Rattle.std.proofs.lemmas.List.{length-take}
use Rattle.nfg_decode.proofs.StreamLemmas.{bytes_all}
use Rattle.nfg_stream.specs.Reading.{IsReading}
use Rattle.nfg_stream.proofs.ReadingLemmas.{part-rest, early-whole, taken-whole}
use Rattle.nfg_stream.proofs.reader.Reader.take.Goals as goal

pub slice_bounds-take_part-end : goal.slice_bounds-take_part-end
slice_bounds-take_part-end c = omega (arith, c.parts-test.true, length-take 65536 c.parts.rest.now)

pub take_part-requires-clause-count : goal.take_part-requires-clause-count
take_part-requires-clause-count c =
    let i = c.parts.invariant in
    omega (arith, c.requires.count, i.count, ap length i.joined, length-append i.front c.parts.rest.now, c.parts-test.true, length-take 65536 c.parts.rest.now)

pub returns-in-Err-clause-taken : goal.returns-in-Err-clause-taken
returns-in-Err-clause-taken c e bytes reading =
    let i = c.parts.invariant in
    early-whole e bytes i.front c.parts.rest.now c.args.piece.now 65536 c.in-Err.error i.joined
    (bytes_all c.args.piece.now (λ k. omega (arith, c.type_inv.piece k)))
    (c.in-Err.ensures.taken e (bytes ++ i.front) (i.taken e bytes reading))

pub returns-in-Err-clause-count : goal.returns-in-Err-clause-count
returns-in-Err-clause-count c =
    let i = c.parts.invariant in
    omega (arith, c.in-Err.ensures.count, i.count, ap length i.joined, length-append i.front c.parts.rest.now, c.parts-test.true, length-take 65536 c.parts.rest.now)

pub parts-preserved : goal.parts-preserved
parts-preserved c =
    let i = c.parts.invariant in
    let part = take 65536 c.parts.rest.now in
    record {
      front = i.front ++ part;
      joined =
          append_assoc i.front part _ ∙ ap (λ l. i.front ++ l) (part-rest 65536 c.parts.rest.now (omega (arith, c.parts-test.true))) ∙ i.joined;
      taken = λ e bytes reading.
          subst (IsReading c.take_part.new.self e) (append_assoc bytes i.front part)
          (c.in-Ok.ensures.taken e (bytes ++ i.front) (i.taken e bytes reading)).0;
      reading = ∥∥₁_map i.reading (λ x. (x.0, x.1 ++ part, (c.in-Ok.ensures.taken x.0 x.1 x.2).0));
      count = omega (arith, c.in-Ok.ensures.count, i.count, length-append i.front part);
    }

pub returns-clause-taken : goal.returns-clause-taken
returns-clause-taken c e bytes reading =
    let i = c.parts.invariant in
    taken-whole c.take_part-2.new.self e bytes i.front c.parts.rest.now c.args.piece.now c.take_part-2.result i.joined
    (c.take_part-2.ensures.taken e (bytes ++ i.front) (i.taken e bytes reading))
