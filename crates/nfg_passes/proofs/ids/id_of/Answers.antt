use Rattle.std.proofs.Common.{arith}
use Rattle.nfg_passes.proofs.IdFacts.{ids_tell}
use Rattle.nfg_passes.proofs.ids.id_of.Goals as goal

pub overflow_cast-result : goal.overflow_cast-result
overflow_cast-result c = record { fits = omega (arith, c.number_of.ensures, (ids_tell c.args.c).bound) }
