use Rattle.std.proofs.Common.{◌∷◌, [], ap, sym}
use Rattle.std.specs.Prelude.{Ok}
use Rattle.nfg_decode.specs.Encoding.{decode}
use Rattle.nfg_decode.proofs.step.step_latin1.Goals as goal

pub returns-in-Empty : goal.returns-in-Empty
unfolding decode
returns-in-Empty c = rw c.in-Empty.is (ap (λ n. Ok (n ∷ [])) (sym c.from.ensures))
