use Rattle.nfg_text.proofs.Proved.{conjunct_extenders_extend, linkers_are_no_controls, not_all_linkers_extend}
use Rattle.nfg_text.proofs.laws.conjunct_extenders_extend.Goals as goal

pub returns : goal.returns
returns c = record { extenders = conjunct_extenders_extend; linkers = linkers_are_no_controls; not_all_linkers = not_all_linkers_extend }
