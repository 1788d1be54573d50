use Rattle.std.proofs.Common.{◌≡◌, ◌≤◌, ◌+◌, length, take, drop, Some, None, sym, ap, ◌∙◌, subst, refl, arith, rules}
use Rattle.nfg_syn.specs.RepresentsLaws.{Represents-length}
use Rattle.nfg_work.specs.declared.output.Cause.TheVariants.{NotEncodable, OutputTooLong}
use Rattle.nfg_work.specs.declared.stop.Stop.TheVariants.{Refused}
use Rattle.nfg_work.specs.Evaluation.{first_lacking}
use Rattle.nfg_work.specs.Holding.{IsRefusalOf}
use Rattle.nfg_work.proofs.Joined.{take-whole}
use Rattle.nfg_work.proofs.Lacking.{none-more, some-more}
use Rattle.nfg_work.proofs.Encoded.{range_represents}
use Rattle.nfg_work.proofs.Tables.{asked_same, asked_both}
use Rattle.nfg_work.proofs.put.refusal.Goals as goal

pub lacking-requires-clause-known : goal.lacking-requires-clause-known
lacking-requires-clause-known g c κs within =
    let count = c.min-count.result in
    let inside = c.looking.invariant.inside in (
      take count (drop c.looking.at c.requires.known.0),
      range_represents (g.T.Synthetics.seen c.args.pass.now).known (g.T.Synthetics.seen c.looking.pass).known c.args.string.now.graphemes c.looking.numbers c.copy_into.new.into c.requires.known.0 c.looking.at count
          (asked_same _ _ c.looking.invariant.asked) (omega (arith, c.min-count.array_long)) (omega (arith, inside, c.len-len.ensures.len)) c.copy_into.ensures c.requires.known.1,
    )

pub returns-in-Some-clause-refusal : goal.returns-in-Some-clause-refusal
returns-in-Some-clause-refusal g c = λ clusters are before.
    let count = c.min-count.result in
    let inside = c.looking.invariant.inside in
    let represents =
    range_represents (g.T.Synthetics.seen c.args.pass.now).known (g.T.Synthetics.seen c.looking.pass).known c.args.string.now.graphemes c.looking.numbers c.copy_into.new.into clusters c.looking.at count
    (asked_same _ _ c.looking.invariant.asked) (omega (arith, c.min-count.array_long)) (omega (arith, inside, c.len-len.ensures.len)) c.copy_into.ensures are in
    let within : c.looking.at ≤ length clusters = omega (arith, inside, Represents-length (g.T.Synthetics.seen c.args.pass.now).known c.args.string.now.graphemes clusters are) in
    let found : first_lacking c.args.e clusters ≡ Some (c.looking.at + c.in-Some.k) =
    some-more c.args.e clusters c.looking.at count c.in-Some.k (c.looking.invariant.had clusters are before) within
    (sym (c.in-Some.ensures.lacking (take count (drop c.looking.at clusters)) represents)) in
    subst (λ f. IsRefusalOf f (Refused (NotEncodable (c.looking.at + c.in-Some.k)))) (sym found) refl

pub looking-preserved : goal.looking-preserved
looking-preserved g c =
    let count = c.min-count.result in
    let inside = c.looking.invariant.inside in
    record {
      inside = omega (arith, inside, c.len-len.ensures.len);
      numbers = search rules;
      room = c.lacking.ensures.room;
      table = c.lacking.ensures.table;
      asked = asked_both _ _ _ c.looking.invariant.asked c.lacking.ensures.asked;
      had = λ clusters are before.
          let represents =
          range_represents (g.T.Synthetics.seen c.args.pass.now).known (g.T.Synthetics.seen c.looking.pass).known c.args.string.now.graphemes c.looking.numbers c.copy_into.new.into clusters c.looking.at count
          (asked_same _ _ c.looking.invariant.asked) (omega (arith, c.min-count.array_long)) (omega (arith, inside, c.len-len.ensures.len)) c.copy_into.ensures are in
          let within : c.looking.at ≤ length clusters = omega (arith, inside, Represents-length (g.T.Synthetics.seen c.args.pass.now).known c.args.string.now.graphemes clusters are) in
          none-more c.args.e clusters c.looking.at count (c.looking.invariant.had clusters are before) within
          (sym (c.in-None.ensures.lacking (take count (drop c.looking.at clusters)) represents));
    }

pub returns-clause-refusal : goal.returns-clause-refusal
returns-clause-refusal g c = λ clusters are before.
    let all : length clusters ≤ c.looking.at =
    omega (arith, c.looking-test.false, c.len-len.ensures.len, Represents-length (g.T.Synthetics.seen c.args.pass.now).known c.args.string.now.graphemes clusters are) in
    let none : first_lacking c.args.e clusters ≡ None = ap (first_lacking c.args.e) (sym (take-whole clusters c.looking.at all)) ∙ c.looking.invariant.had clusters are before in
    subst (λ f. IsRefusalOf f (Refused OutputTooLong)) (sym none) refl
