use Rattle.std.proofs.Common.{refl, arith}
use Rattle.nfg_decode.proofs.StepLemmas.{two_whole}
use Rattle.nfg_decode.proofs.Utf8Tails.{cut_two}
use Rattle.nfg_decode.proofs.utf8_steps.step_two.Goals as goal

pub returns-then-a-lt224 : goal.returns-then-a-lt224
returns-then-a-lt224 c =
    let f = c.if-not-follows.ensures in
    two_whole c.args.a c.args.b _ f.leads c.if-a-lt224.true (f.least, f.most) (omega arith)

pub returns : goal.returns
returns c =
    let f = c.if-not-follows.ensures in
    (refl, cut_two c.args.a c.args.b 0 f.leads (omega arith) (f.least, f.most))
