use Rattle.std.proofs.Common.{refl, arith}
use Rattle.nfg_decode.proofs.StepLemmas.{three_whole}
use Rattle.nfg_decode.proofs.Utf8Tails.{cut_three}
use Rattle.nfg_decode.proofs.utf8_steps.step_three.Goals as goal

pub returns-then-a-lt240 : goal.returns-then-a-lt240
returns-then-a-lt240 c =
    let f = c.if-not-follows.ensures in
    three_whole c.args.a c.args.b c.args.c _ (omega arith) c.if-a-lt240.true (f.least, f.most) c.if-not-continues.ensures (omega arith)

pub returns : goal.returns
returns c =
    let f = c.if-not-follows.ensures in
    (refl, cut_three c.args.a c.args.b c.args.c f.leads (omega arith) (f.least, f.most) c.if-not-continues.ensures)
