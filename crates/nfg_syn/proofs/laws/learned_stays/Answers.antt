use Rattle.nfg_syn.specs.LearnedLaws.{HasLearned-known, HasLearned-keeps}
use Rattle.nfg_syn.proofs.laws.learned_stays.Goals as goal

pub returns-clause-known : goal.returns-clause-known
returns-clause-known c old new texts learned = HasLearned-known old new texts learned

pub returns-clause-kept : goal.returns-clause-kept
returns-clause-kept c old new texts learned = HasLearned-keeps old new texts learned
