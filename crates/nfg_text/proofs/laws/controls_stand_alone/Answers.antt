use Rattle.nfg_text.proofs.Proved.{controls_stand_alone}
use Rattle.nfg_text.proofs.laws.controls_stand_alone.Goals as goal

pub returns : goal.returns
returns c = controls_stand_alone
