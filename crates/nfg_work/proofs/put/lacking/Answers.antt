use Rattle.std.proofs.Common.{◌≡◌, ◌≤◌, length, Some, true, false, pos, slice_index_or, ap, sym, ◌∙◌, arith, w32, to_z, of_z, rules}
use Rattle.nfg_syn.specs.Represents.{spelling}
use Rattle.nfg_syn.specs.RepresentsLaws.{Represents-length}
use Rattle.nfg_work.specs.Evaluation.{first_lacking, is_lacking}
use Rattle.nfg_work.proofs.Joined.{spelled_at, take-whole}
use Rattle.nfg_work.proofs.Tables.{slice_get-at, asked_same, asked_both}
use Rattle.nfg_work.proofs.Lacking.{some-here, none-here}
use Rattle.nfg_work.proofs.put.lacking.Goals as goal

pub spell-len-requires-clause-known : goal.spell-len-requires-clause-known
spell-len-requires-clause-known g c κs within =
    let n = slice_index_or c.args.numbers.now c.looking.i (pos 0) in
    let n_is : to_z w32 (of_z w32 n) ≡ n = search rules in
    let s = spelled_at (g.T.Synthetics.seen c.args.pass.now).known c.args.numbers.now c.requires.known.0 c.looking.i n c.requires.known.1
    (slice_get-at c.args.numbers.now c.looking.i (pos 0) c.looking-test.true) in (
      s.cluster,
      ap (λ known. spelling known (to_z w32 (of_z w32 n))) (asked_same _ _ c.looking.invariant.asked)
          ∙ ap (spelling (g.T.Synthetics.seen c.args.pass.now).known) n_is ∙ s.spelled,
    )

pub returns-then-lacks-clause-lacking : goal.returns-then-lacks-clause-lacking
returns-then-lacks-clause-lacking g c = λ clusters are.
    let n = slice_index_or c.args.numbers.now c.looking.i (pos 0) in
    let n_is : to_z w32 (of_z w32 n) ≡ n = search rules in
    let s = spelled_at (g.T.Synthetics.seen c.args.pass.now).known c.args.numbers.now clusters c.looking.i n are
    (slice_get-at c.args.numbers.now c.looking.i (pos 0) c.looking-test.true) in
    let spelled : spelling (g.T.Synthetics.seen c.looking.pass).known (to_z w32 (of_z w32 n)) ≡ Some s.cluster =
    ap (λ known. spelling known (to_z w32 (of_z w32 n))) (asked_same _ _ c.looking.invariant.asked)
    ∙ ap (spelling (g.T.Synthetics.seen c.args.pass.now).known) n_is ∙ s.spelled in
    let lacking : is_lacking c.args.e s.cluster ≡ true = ap (is_lacking c.args.e) (sym (c.spell-len.ensures.spelled s.cluster spelled)) ∙ sym c.if-lacks.ensures in
    let inside : c.looking.i ≤ length clusters = omega (arith, c.looking-test.true, Represents-length (g.T.Synthetics.seen c.args.pass.now).known c.args.numbers.now clusters are) in
    sym (some-here c.args.e clusters c.looking.i s.cluster (c.looking.invariant.had clusters are) inside s.at lacking)

pub looking-preserved : goal.looking-preserved
looking-preserved g c = record {
  table = c.spell-len.ensures.table;
  asked = asked_both _ _ _ c.looking.invariant.asked c.spell-len.ensures.asked;
  room = c.spell-len.ensures.room;
  had = λ clusters are.
      let n = slice_index_or c.args.numbers.now c.looking.i (pos 0) in
      let n_is : to_z w32 (of_z w32 n) ≡ n = search rules in
      let s = spelled_at (g.T.Synthetics.seen c.args.pass.now).known c.args.numbers.now clusters c.looking.i n are
      (slice_get-at c.args.numbers.now c.looking.i (pos 0) c.looking-test.true) in
      let spelled : spelling (g.T.Synthetics.seen c.looking.pass).known (to_z w32 (of_z w32 n)) ≡ Some s.cluster =
      ap (λ known. spelling known (to_z w32 (of_z w32 n))) (asked_same _ _ c.looking.invariant.asked)
      ∙ ap (spelling (g.T.Synthetics.seen c.args.pass.now).known) n_is ∙ s.spelled in
      let lacking : is_lacking c.args.e s.cluster ≡ false = ap (is_lacking c.args.e) (sym (c.spell-len.ensures.spelled s.cluster spelled)) ∙ sym c.if-lacks.ensures in
      let inside : c.looking.i ≤ length clusters = omega (arith, c.looking-test.true, Represents-length (g.T.Synthetics.seen c.args.pass.now).known c.args.numbers.now clusters are) in
      none-here c.args.e clusters c.looking.i s.cluster (c.looking.invariant.had clusters are) inside s.at lacking;
}

pub returns-clause-lacking : goal.returns-clause-lacking
returns-clause-lacking g c = λ clusters are.
    let all : length clusters ≤ c.looking.i =
    omega (arith, c.looking-test.false, Represents-length (g.T.Synthetics.seen c.args.pass.now).known c.args.numbers.now clusters are) in
    sym (ap (first_lacking c.args.e) (sym (take-whole clusters c.looking.i all)) ∙ c.looking.invariant.had clusters are)
