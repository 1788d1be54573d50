use Rattle.nfg_words.proofs.Opening.{read_stands, one_text, one_place}
use Rattle.nfg_words.proofs.laws.passes_agree.Goals as goal

pub returns-clause-stands : goal.returns-clause-stands
returns-clause-stands c = read_stands

pub returns-clause-one_text : goal.returns-clause-one_text
returns-clause-one_text c = one_text

pub returns-clause-one_place : goal.returns-clause-one_place
returns-clause-one_place c = one_place
