use Rattle.std.proofs.Common.{◌≤◌, ◌+◌, ◌++◌, length, ap, ◌∙◌, sym, arith, rules, take, drop, length-drop}
use Rattle.std.proofs.lemmas.List.{drop-drop}
use Rattle.std.specs.List.{flat_map}
use Rattle.nfg_syn.specs.RepresentsLaws.{Represents-length}
use Rattle.nfg_work.specs.Separated.{shown_with_space}
use Rattle.nfg_work.proofs.Joined.{mapped-more, take-whole}
use Rattle.nfg_work.proofs.Printed.{part_represents, shown_over}
use Rattle.nfg_work.proofs.Tables.{asked_same, asked_both}
use Rattle.nfg_work.proofs.printing.show.Goals as goal

pub show_part-requires-clause-known : goal.show_part-requires-clause-known
show_part-requires-clause-known g c κs within =
    let count = c.read-count.result in (
      take count (drop c.showing.at c.requires.known.0),
      part_represents (g.T.Synthetics.seen c.args.pass.now).known (g.T.Synthetics.seen c.showing.pass).known c.args.string.now.graphemes c.showing.left c.read-count.new.into c.showing.numbers c.requires.known.0 c.showing.at count
          (asked_same _ _ c.showing.invariant.asked) c.showing.invariant.left (omega (arith, c.read-count.ensures.count))
          c.read-count.ensures.read c.requires.known.1,
    )

pub returns-in-Err-clause-shown : goal.returns-in-Err-clause-shown
returns-in-Err-clause-shown g c = λ clusters are.
    let count = c.read-count.result in
    let represents = part_represents (g.T.Synthetics.seen c.args.pass.now).known (g.T.Synthetics.seen c.showing.pass).known c.args.string.now.graphemes c.showing.left c.read-count.new.into c.showing.numbers clusters c.showing.at count
    (asked_same _ _ c.showing.invariant.asked) c.showing.invariant.left (omega (arith, c.read-count.ensures.count))
    c.read-count.ensures.read are in
    let out = mapped-more shown_with_space clusters c.showing.at count c.args.output.now c.showing.output c.show_part.new.output
    (c.showing.invariant.line clusters are) (c.in_ok-show_part.ensures.shown (take count (drop c.showing.at clusters)) represents) in
    shown_over c.args.output.now c.show_part.new.output c.within_limit.new.output c.len-had.result (c.showing.at + count) clusters c.in-Err.stop
    (sym c.len-had.ensures) out c.in-Err.ensures.refused

pub showing-preserved : goal.showing-preserved
showing-preserved g c =
    let count = c.read-count.result in
    record {
      rest = omega (arith, c.showing.invariant.rest, c.read-count.ensures.count, ap length c.read-count.ensures.left, length-drop count c.showing.left);
      left = c.read-count.ensures.left ∙ ap (drop count) c.showing.invariant.left ∙ drop-drop count c.showing.at c.args.string.now.graphemes;
      numbers = search rules;
      room = search rules;
      scratch = search rules;
      table = search rules;
      asked = asked_both _ _ _ c.showing.invariant.asked c.show_part.ensures.asked;
      line = λ clusters are.
          let represents = part_represents (g.T.Synthetics.seen c.args.pass.now).known (g.T.Synthetics.seen c.showing.pass).known c.args.string.now.graphemes c.showing.left c.read-count.new.into c.showing.numbers clusters c.showing.at count
          (asked_same _ _ c.showing.invariant.asked) c.showing.invariant.left (omega (arith, c.read-count.ensures.count))
          c.read-count.ensures.read are in
          c.in-Ok.ensures.ok.1 ∙ mapped-more shown_with_space clusters c.showing.at count c.args.output.now c.showing.output c.show_part.new.output
          (c.showing.invariant.line clusters are) (c.in_ok-show_part.ensures.shown (take count (drop c.showing.at clusters)) represents);
    }

pub returns-clause-shown : goal.returns-clause-shown
returns-clause-shown g c = λ clusters are.
    let all : length clusters ≤ c.showing.at =
    omega (arith, c.showing-test.false, c.len-len.ensures.len, Represents-length (g.T.Synthetics.seen c.args.pass.now).known c.args.string.now.graphemes clusters are) in
    c.end_line.ensures c.args.output.now clusters (sym c.len-had.ensures)
    (c.showing.invariant.line clusters are ∙ ap (λ v. c.args.output.now ++ flat_map shown_with_space v) (take-whole clusters c.showing.at all))
