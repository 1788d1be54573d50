use Rattle.nfg_words.proofs.KeepsRule.{step_keeps}
use Rattle.nfg_words.proofs.laws.steps_keep_the_rule.Goals as goal

pub returns : goal.returns
returns c = step_keeps
