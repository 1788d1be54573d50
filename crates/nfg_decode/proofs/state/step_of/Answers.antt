use Rattle.std.proofs.Common.{arith}
use Rattle.nfg_decode.proofs.StepLemmas.{steps_on}
use Rattle.nfg_decode.proofs.state.step_of.Goals as goal

pub returns : goal.returns
returns c = steps_on c.args.state.now c.in-Some.form c.args.piece.now c.in-Some.is (omega arith) (omega arith) c.next_step.result c.next_step.ensures
