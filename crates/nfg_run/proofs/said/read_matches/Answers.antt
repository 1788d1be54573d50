use Rattle.std.proofs.Common.{sym}
use Rattle.nfg_run.proofs.Lines.{IsRowSize-given, IsWorkerCount-given}
use Rattle.nfg_run.proofs.said.read_matches.Goals as goal

pub returns-clause-size : goal.returns-clause-size
returns-clause-size c = IsRowSize-given _ c.in-Some-given_places.places (sym c.in-Some-given_places.ensures)

pub returns-clause-workers : goal.returns-clause-workers
returns-clause-workers c = IsWorkerCount-given _ c.in-Some.workers (sym c.in-Some.ensures)
