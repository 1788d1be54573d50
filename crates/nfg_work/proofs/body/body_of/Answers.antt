use Rattle.nfg_work.proofs.Bodies.{itself_body}
use Rattle.nfg_work.proofs.body.body_of.Goals as goal

pub returns-in-Utf8 : goal.returns-in-Utf8
returns-in-Utf8 c = itself_body c.args.e c.args.bytes.now c.in-Utf8.is
