use Rattle.nfg_work.proofs.Answered.{same_truth}
use Rattle.nfg_work.proofs.given_answers.equal_given.Goals as goal

pub returns-in-None : goal.returns-in-None
returns-in-None g c = λ a b left right already. same_truth c.equal.result _ _ (c.equal.ensures.equivalent a b left right)
