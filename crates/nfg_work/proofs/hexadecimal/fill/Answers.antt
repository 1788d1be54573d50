use Rattle.std.proofs.Common.{arith, rules}
use Rattle.nfg_work.proofs.Hexadecimals.{room_left, digits-step, digits-first}
use Rattle.nfg_work.proofs.hexadecimal.fill.Goals as goal

pub filling-preserved : goal.filling-preserved
filling-preserved c =
    let was = c.filling.invariant in
    let room = room_left c.filling.left c.filling.start c.filling-test.true was.room in
    record {
      some = room.0;
      start = omega arith;
      len = search rules;
      room = room.1;
      number = omega arith;
      digits = digits-step c.args.number c.filling.left c.filling.start c.digit.result c.filling.buffer c.filling-test.true (omega arith) was.some (omega arith) c.digit.ensures was.digits;
    }

pub returns-clause-digits : goal.returns-clause-digits
returns-clause-digits c =
    let was = c.filling.invariant in
    digits-first c.args.number c.filling.left c.filling.start c.digit-2.result c.filling.buffer c.filling-test.false was.some (omega arith) c.digit-2.ensures was.digits
