use Rattle.nfg_work.proofs.Encoded.{start_is}
use Rattle.nfg_work.proofs.put.write_start.Goals as goal

pub returns-in-Ok : goal.returns-in-Ok
returns-in-Ok c = start_is c.args.e c.args.output.now c.encode_into.new.into c.in-Ok.ensures.ok
