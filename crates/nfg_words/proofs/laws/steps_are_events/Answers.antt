use Rattle.nfg_words.proofs.KeepsRule.{step_of_machine}
use Rattle.nfg_words.proofs.laws.steps_are_events.Goals as goal

pub returns : goal.returns
returns c = step_of_machine
