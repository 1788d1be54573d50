use Rattle.nfg_encode.proofs.CodeLemmas.{set_one}
use Rattle.nfg_encode.proofs.code.put_latin1.Goals as goal

pub returns-clause-bytes : goal.returns-clause-bytes
returns-clause-bytes c = set_one c.args.out.now c.args.code c.requires.room
