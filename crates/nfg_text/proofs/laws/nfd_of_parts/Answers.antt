use Rattle.nfg_text.proofs.Proved.{nfd_of_parts}
use Rattle.nfg_text.proofs.laws.nfd_of_parts.Goals as goal

pub returns : goal.returns
returns c = nfd_of_parts
