use Rattle.std.proofs.Common.{◌≤◌, ◌++◌, length, drop, ap, ◌∙◌, arith, rules}
use Rattle.std.specs.List.{flat_map}
use Rattle.nfg_syn.specs.RepresentsLaws.{Represents-length}
use Rattle.nfg_work.specs.Separated.{shown_with_space}
use Rattle.nfg_work.proofs.Joined.{mapped-more, take-whole}
use Rattle.nfg_work.proofs.Shown.{rest_represents}
use Rattle.nfg_work.proofs.Tables.{asked_same, asked_both}
use Rattle.nfg_work.proofs.printing.show_part.Goals as goal

pub show_run-requires-clause-known : goal.show_run-requires-clause-known
show_run-requires-clause-known g c κs within = (
  drop c.showing.at c.requires.known.0,
  rest_represents (g.T.Synthetics.seen c.args.pass.now).known (g.T.Synthetics.seen c.showing.pass).known c.args.numbers.now c.requires.known.0 c.showing.at (asked_same _ _ c.showing.invariant.asked) c.requires.known.1,
)

pub showing-preserved : goal.showing-preserved
showing-preserved g c =
    let was = c.showing.invariant in
    record {
      inside = search rules;
      table = c.show_run.ensures.table;
      asked = asked_both _ _ _ was.asked c.show_run.ensures.asked;
      room = c.show_run.ensures.room;
      scratch = search rules;
      line = λ clusters are.
          mapped-more shown_with_space clusters c.showing.at c.in_ok-count.count c.args.output.now c.showing.output c.show_run.new.output (was.line clusters are)
          (c.in_ok-count.ensures.shown (drop c.showing.at clusters)
          (rest_represents (g.T.Synthetics.seen c.args.pass.now).known (g.T.Synthetics.seen c.showing.pass).known c.args.numbers.now clusters c.showing.at (asked_same _ _ was.asked) are));
    }

pub returns-clause-shown : goal.returns-clause-shown
returns-clause-shown g c = λ clusters are.
    let all : length clusters ≤ c.showing.at =
    omega (arith, c.showing-test.false, Represents-length (g.T.Synthetics.seen c.args.pass.now).known c.args.numbers.now clusters are) in
    c.showing.invariant.line clusters are ∙ ap (λ v. c.args.output.now ++ flat_map shown_with_space v) (take-whole clusters c.showing.at all)
