use Rattle.std.proofs.Common.{arith}
use Rattle.nfg_script.proofs.Digits.{six_digits_fit}
use Rattle.nfg_script.proofs.word.read_code_point.Goals as goal

pub returns-in-Err : goal.returns-in-Err
returns-in-Err c =
    absurd (c.in-Err.ensures.value (six_digits_fit c.args.word.now c.if-word-eq0.false (omega arith) (cc)))
