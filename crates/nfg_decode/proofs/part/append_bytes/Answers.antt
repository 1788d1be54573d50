use Rattle.std.proofs.Common.{arith, sym, ◌∙◌, refl}
use Rattle.std.proofs.lemmas.List.{append-nil}
use Rattle.std.proofs.lemmas.Grind.{common_steps}
use Rattle.nfg_decode.proofs.ReadsLemmas.{on_err, Grew-refl, Grew-more}
use Rattle.nfg_decode.proofs.part.append_bytes.Goals as goal

pub returns-in_err-append-clause-err : goal.returns-in_err-append-clause-err
returns-in_err-append-clause-err c =
    on_err c.from_residual.result _ (Grew-more _ _ _ _ c.loop-rest.invariant.grew (c.in_err-append.ensures.err ∙ sym (append-nil c.loop-rest.into)))

pub loop-rest-init : goal.loop-rest-init
loop-rest-init c = record { together = refl; grew = Grew-refl c.args.into.now }

pub loop-rest-preserved : goal.loop-rest-preserved
loop-rest-preserved c = record {
  together = grind (arith, common_steps);
  grew = Grew-more _ _ _ _ c.loop-rest.invariant.grew c.in_ok-append.ensures.ok;
}
