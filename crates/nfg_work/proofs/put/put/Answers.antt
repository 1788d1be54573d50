use Rattle.std.proofs.Common.{◌≤◌, ◌+◌, ◌++◌, ℕ, List, length, Ok, arith}
use Rattle.nfg_decode.specs.Encoding.{text_start}
use Rattle.nfg_syn.specs.Represents.{Represents}
use Rattle.nfg_syn.specs.RepresentsLaws.{Represents-length}
use Rattle.nfg_work.proofs.Encoded.{IsWritten, written-more, written-refused, written-all, written_here, known_kept, represents_kept}
use Rattle.nfg_work.proofs.Tables.{asked_same, asked_both}
use Rattle.nfg_work.proofs.put.put.Goals as goal

pub write_part-requires-clause-known : goal.write_part-requires-clause-known
write_part-requires-clause-known g c κs within = known_kept (g.T.Synthetics.seen c.args.pass.now).known (g.T.Synthetics.seen c.putting.pass).known c.args.string.now (asked_same _ _ c.putting.invariant.asked) c.requires.known

pub refusal-requires-clause-known : goal.refusal-requires-clause-known
refusal-requires-clause-known g c κs within =
    known_kept (g.T.Synthetics.seen c.args.pass.now).known (g.T.Synthetics.seen c.write_part.new.pass).known c.args.string.now (asked_same _ _ (asked_both _ _ _ c.putting.invariant.asked c.write_part.ensures.asked)) c.requires.known

pub putting-preserved : goal.putting-preserved
putting-preserved g c =
    let was = c.putting.invariant in
    let inside = was.inside in
    let at = c.putting.at in
    let n = c.min.result in
    let start = c.args.output.now ++ text_start c.args.e in
    let written : (clusters : List (List ℕ)) → Represents (g.T.Synthetics.seen c.args.pass.now).known c.args.string.now.graphemes clusters
    → IsWritten c.args.e clusters (at + n) start c.write_part.new.output =
    λ clusters are. written-more c.args.e clusters at n start c.putting.output c.write_part.new.output c.in-Ok-true.field-0 c.in-Ok-true.field-0-test
    (omega (arith, inside, Represents-length (g.T.Synthetics.seen c.args.pass.now).known c.args.string.now.graphemes clusters are))
    (was.had clusters are) (was.bytes clusters are)
    (written_here c.args.e c.without_mark-part.result (g.T.Synthetics.seen c.args.pass.now).known (g.T.Synthetics.seen c.putting.pass).known c.args.string.now.graphemes clusters at (at + n) c.putting.output
    c.write_part.new.output (Ok c.in-Ok-true.field-0) c.without_mark-part.ensures (asked_same _ _ was.asked) c.in-Ok-true.ensures.written are) in
    record {
      inside = omega (arith, inside, c.len-len.ensures.len);
      table = c.write_part.ensures.table;
      asked = asked_both _ _ _ was.asked c.write_part.ensures.asked;
      had = λ clusters are. (written clusters are).had;
      bytes = λ clusters are. (written clusters are).bytes;
    }

pub returns-in-Ok-false-clause-put : goal.returns-in-Ok-false-clause-put
returns-in-Ok-false-clause-put g c = λ clusters are.
    let was = c.putting.invariant in
    let at = c.putting.at in
    let n = c.min.result in
    written-refused c.args.e clusters at n c.len-had.result c.args.output.now c.putting.output c.write_part.new.output c.truncate.new.self c.in-Ok-false.field-0 c.refusal.result
    c.in-Ok-false.field-0-test c.len-had.ensures (was.bytes clusters are)
    (written_here c.args.e c.without_mark-part.result (g.T.Synthetics.seen c.args.pass.now).known (g.T.Synthetics.seen c.putting.pass).known c.args.string.now.graphemes clusters at (at + n) c.putting.output
    c.write_part.new.output (Ok c.in-Ok-false.field-0) c.without_mark-part.ensures (asked_same _ _ was.asked) c.in-Ok-false.ensures.written are)
    c.truncate.ensures
    (c.refusal.ensures.refusal clusters
    (represents_kept (g.T.Synthetics.seen c.args.pass.now).known (g.T.Synthetics.seen c.write_part.new.pass).known c.args.string.now.graphemes clusters (asked_same _ _ (asked_both _ _ _ was.asked c.write_part.ensures.asked)) are)
    (was.had clusters are))

pub returns-clause-put : goal.returns-clause-put
returns-clause-put g c = λ clusters are.
    let all : length clusters ≤ c.putting.at =
    omega (arith, c.putting-test.false, c.len-len.ensures.len, Represents-length (g.T.Synthetics.seen c.args.pass.now).known c.args.string.now.graphemes clusters are) in
    written-all c.args.e clusters c.putting.at c.len-had.result c.args.output.now c.putting.output c.within_limit.new.output c.within_limit.result all c.len-had.ensures
    (c.putting.invariant.had clusters are) (c.putting.invariant.bytes clusters are) c.within_limit.ensures.ok c.within_limit.ensures.refused
