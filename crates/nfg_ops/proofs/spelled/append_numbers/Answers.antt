-- the text of each run follows that of the runs before it
use Rattle.std.proofs.Common.{◌≡◌, ◌≤◌, ◌-◌, ◌++◌, length, take, drop, OnOk, ap, subst, sym, ◌∙◌, arith, length-drop, length-take-le}
use Rattle.std.proofs.lemmas.List.{take-take, take_all}
use Rattle.nfg_text.specs.Text.{text_of}
use Rattle.nfg_syn.specs.RepresentsLaws.{Represents-length, Represents-take, Represents-drop}
use Rattle.nfg_ops.proofs.Asked.{asked-both}
use Rattle.nfg_ops.proofs.Spelling.{Represents-same_known, codes-text, known-range, known-same, text-front}
use Rattle.nfg_ops.proofs.spelled.append_numbers.Goals as goal

pub returns-then-are_codes-clause-added : goal.returns-then-are_codes-clause-added
returns-then-are_codes-clause-added g c = λ clusters represents.
    let known = (g.T.Synthetics.seen c.args.pass.now).known in
    let codes = sym c.are_codes.ensures ∙ c.if-are_codes.true in
    subst (λ t. OnOk c.append_plain.result (c.append_plain.new.into ≡ c.args.into.now ++ t))
    (codes-text known c.args.numbers.now clusters codes represents) c.append_plain.ensures.added

pub spell-spelled-requires-clause-known : goal.spell-spelled-requires-clause-known
spell-spelled-requires-clause-known g c κs within =
    known-same _ _ c.loop-at.invariant.asked.known (take (length c.args.numbers.now - c.loop-at.at) (drop c.loop-at.at c.args.numbers.now))
    (known-range _ c.args.numbers.now c.loop-at.at (length c.args.numbers.now) c.requires.known)

pub loop-at-preserved : goal.loop-at-preserved
loop-at-preserved g c =
    let numbers = c.args.numbers.now in
    let at = c.loop-at.at in
    let count = c.spell-spelled.result.numbers in
    let left = length numbers - at in
    let behind = length-drop at numbers in
    let long : length (take left (drop at numbers)) ≡ left = length-take-le left (drop at numbers) (omega (arith, behind)) in
    let few : count ≤ left = omega (arith, c.spell-spelled.ensures.numbers, long) in
    record {
      high = omega (arith, few, c.loop-at.invariant.high);
      table = c.spell-spelled.ensures.table;
      asked = asked-both _ _ _ c.loop-at.invariant.asked c.spell-spelled.ensures.asked;
      room = c.spell-spelled.ensures.room ∙ c.loop-at.invariant.room;
      added = λ clusters represents.
          let rest = Represents-same_known _ _ c.loop-at.invariant.asked.known (take left (drop at numbers)) (take left (drop at clusters))
          (Represents-take _ left (drop at numbers) (drop at clusters) (Represents-drop _ at numbers clusters represents)) in
          let written = c.spell-spelled.ensures.written (take left (drop at clusters)) rest
          ∙ ap text_of (take-take count left (drop at clusters) few) in
          text-front c.args.into.now c.loop-at.into c.append.new.self clusters at count (c.loop-at.invariant.added clusters represents)
          (c.in_ok-append.ensures.ok ∙ ap (λ t. c.loop-at.into ++ t) written);
    }

pub returns-clause-added : goal.returns-clause-added
returns-clause-added g c = λ clusters represents.
    let long = Represents-length _ c.args.numbers.now clusters represents in
    c.loop-at.invariant.added clusters represents
    ∙ ap (λ cs. c.args.into.now ++ text_of cs) (take_all c.loop-at.at clusters (omega (arith, long, c.loop-at-test.false)))
