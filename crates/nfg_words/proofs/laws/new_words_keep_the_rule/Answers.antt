use Rattle.nfg_words.proofs.Opening.{opening_rule, nothing_shown}
use Rattle.nfg_words.proofs.laws.new_words_keep_the_rule.Goals as goal

pub returns-clause-rule : goal.returns-clause-rule
returns-clause-rule c = λ n word views zeros fresh. opening_rule n word zeros views fresh

pub returns-clause-empty : goal.returns-clause-empty
returns-clause-empty c = nothing_shown
