use Rattle.std.proofs.Common.{arith}
use Rattle.nfg_decode.proofs.FrontLemmas.{front_ascii, front_none}
use Rattle.nfg_decode.proofs.utf8_codes.fill_ascii.Goals as goal

pub loop-n-init : goal.loop-n-init
loop-n-init c = front_none c.args.text.now c.requires.text

pub loop-n-preserved : goal.loop-n-preserved
loop-n-preserved c =
    let l = c.loop-n in
    front_ascii c.args.text.now l.codes l.n _ l.invariant c.loop-n-test.true (omega arith) c.if-text-n-lt128.true c.from.ensures
