use Rattle.std.proofs.Common.{◌∷◌, [], refl, ap, ◌∙◌}
use Rattle.nfg_syn.specs.OwnTexts.{known_of}
use Rattle.nfg_syn.specs.Represents.{spelling}
use Rattle.nfg_syn.specs.RepresentsLaws.{spelling-interned}
use Rattle.nfg_syn.proofs.SpellingLemmas.{back}
use Rattle.nfg_syn.proofs.tests.read_back.Goals as goal

pub append_cluster-letter-requires-clause-known : goal.append_cluster-letter-requires-clause-known
append_cluster-letter-requires-clause-known g c κs = (0x71 ∷ [], refl)

pub append_cluster-cluster-requires-clause-known :
    goal.append_cluster-cluster-requires-clause-known
append_cluster-cluster-requires-clause-known g c κs =
    let known = known_of c.intern.new.pass.texts in
    (_, ap (spelling known) (back c.in-Ok.n (rw c.in-Ok.is at c.intern.type_inv).1.1.1.1.0.1) ∙ spelling-interned _ known c.in-Ok.n _ c.in-Ok.ensures.interned)
