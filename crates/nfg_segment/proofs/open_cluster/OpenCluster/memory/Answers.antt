use Rattle.std.proofs.Common.{ap}
use Rattle.nfg_segment.proofs.Keeping.{Keeps-same}
use Rattle.nfg_segment.proofs.open_cluster.OpenCluster.memory.Goals as goal

pub returns : goal.returns
returns c cluster keeps = (Keeps-same _ _ cluster (ap (λ v. v.now) c.self.view_is) keeps).memory
