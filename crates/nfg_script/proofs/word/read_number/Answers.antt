use Rattle.std.proofs.Common.{arith}
use Rattle.nfg_script.proofs.Digits.{number_of-none}
use Rattle.nfg_script.proofs.word.read_number.Goals as goal

pub returns-in-Err : goal.returns-in-Err
returns-in-Err c =
    number_of-none c.args.word.now c.if-word-eq0.false (omega arith) (cc) c.in-Err.ensures.value
