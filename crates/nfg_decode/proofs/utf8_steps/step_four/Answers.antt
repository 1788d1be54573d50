use Rattle.std.proofs.Common.{arith}
use Rattle.nfg_decode.proofs.StepLemmas.{four_whole}
use Rattle.nfg_decode.proofs.utf8_steps.step_four.Goals as goal

pub returns : goal.returns
returns c =
    let f = c.if-not-follows.ensures in
    four_whole c.args.a c.args.b c.args.c c.args.d _ (omega arith) f.leads.1 (f.least, f.most) c.if-not-continues.ensures c.if-not-continues-2.ensures (omega arith)
