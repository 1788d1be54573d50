use Rattle.std.proofs.Common.{arith}
use Rattle.nfg_decode.specs.Mark.{TellsMark}
use Rattle.nfg_decode.proofs.MarkLemmas.{absent_at, at_two}
use Rattle.nfg_decode.proofs.mark.mark_of.Goals as goal

pub returns-then-x-lt254 : goal.returns-then-x-lt254
returns-then-x-lt254 c more = absent_at c.args.bytes.now more (omega arith) (omega arith) (omega arith)

pub returns-in-len2-up : goal.returns-in-len2-up
returns-in-len2-up c = at_two (λ b. TellsMark b c.mark_of_two.result) c.args.bytes.now (omega arith) c.mark_of_two.ensures
