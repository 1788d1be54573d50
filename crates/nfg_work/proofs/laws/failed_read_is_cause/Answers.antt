use Rattle.nfg_work.proofs.FailedReads.{failed_read_is_cause}
use Rattle.nfg_work.proofs.laws.failed_read_is_cause.Goals as goal

pub returns : goal.returns
returns c = failed_read_is_cause
