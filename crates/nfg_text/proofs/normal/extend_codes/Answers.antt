use Rattle.std.proofs.Common.{◌∷◌, [], ap, ◌∙◌, refl, arith}
use Rattle.std.proofs.lemmas.Bool.{and_from}
use Rattle.std.proofs.lemmas.Grind.{common_steps}
use Rattle.std.specs.Str.{all_scalars}
use Rattle.nfg_text.proofs.Scalars.{scalars-append}
use Rattle.nfg_text.proofs.normal.extend_codes.Goals as goal

pub loop-c-preserved : goal.loop-c-preserved
loop-c-preserved c = record {
  codes = grind (arith, common_steps);
  text = λ before. ap all_scalars c.in_ok-push.ensures.items
      ∙ scalars-append c.loop-c.codes.items (c.to_code.result ∷ []) (c.loop-c.invariant.text before) (and_from _ _ c.to_code.ensures.scalar refl);
}
