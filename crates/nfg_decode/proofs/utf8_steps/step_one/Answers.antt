use Rattle.std.proofs.Common.{◌∷◌, [], refl, sym, ap, ◌∙◌, arith}
use Rattle.std.specs.Prelude.{Ok}
use Rattle.nfg_decode.proofs.StepLemmas.{one_whole}
use Rattle.nfg_decode.proofs.Utf8Tails.{cut_one}
use Rattle.nfg_decode.proofs.utf8_steps.step_one.Goals as goal

pub returns-then-a-lt128 : goal.returns-then-a-lt128
returns-then-a-lt128 c = one_whole c.args.a c.if-a-lt128.true ∙ ap (λ n. Ok (n ∷ [])) (sym c.from.ensures)

pub returns : goal.returns
returns c = (refl, cut_one c.args.a 0 0 (omega arith, omega arith))
