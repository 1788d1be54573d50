use Rattle.nfg_run.proofs.Numbers.{number_of-none}
use Rattle.nfg_run.proofs.number.read_number.Goals as goal

pub returns-in-Err : goal.returns-in-Err
returns-in-Err c =
    number_of-none c.args.word.now c.if-word-eq0.false (cc) c.in-Err.ensures.value
