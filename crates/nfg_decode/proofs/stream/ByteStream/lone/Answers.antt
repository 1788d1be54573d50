use Rattle.std.proofs.Common.{arith}
use Rattle.nfg_decode.proofs.LoneLemmas.{lone_below}
use Rattle.nfg_decode.proofs.stream.ByteStream.lone.Goals as goal

pub returns-then-code-self : goal.returns-then-code-self
returns-then-code-self c =
    let s = c.args.self.now in
    lone_below s c.args.piece.now c.from-code.result (omega arith) (omega arith) c.from-code.ensures (omega (arith, c.if-code-self.true, s.lone))
