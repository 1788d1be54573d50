use Rattle.std.proofs.Common.{[], ◌∷◌, refl}
use Rattle.nfg_scarce.proofs.texts.spell_one.Goals as goal

pub append_cluster-requires-clause-known : goal.append_cluster-requires-clause-known
append_cluster-requires-clause-known c before = (98 ∷ [], refl)
