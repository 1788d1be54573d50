use Rattle.std.proofs.Common.{refl, arith}
use Rattle.nfg_passes.specs.Unsettled.{IsSettledText}
use Rattle.nfg_passes.proofs.LaneFacts.{settled_from_length}
use Rattle.nfg_passes.proofs.Proved.{settled_texts_stay}
use Rattle.nfg_passes.proofs.clusters.mark_settled.Goals as goal

pub returns-clause-settled : goal.returns-clause-settled
returns-clause-settled c =
    let settled : IsSettledText c.args.text.now =
    settled_from_length c.args.text.now c.ids_of.new.into c.first_unsettled.result c.ids_of.ensures c.first_unsettled.ensures
    (omega (arith, c.if-first_unsettled-ids.false)) in
    (λ _. settled, λ _. refl)

pub returns-clause-stays : goal.returns-clause-stays
returns-clause-stays c _ =
    settled_texts_stay c.args.text.now
    (settled_from_length c.args.text.now c.ids_of.new.into c.first_unsettled.result c.ids_of.ensures c.first_unsettled.ensures (omega (arith, c.if-first_unsettled-ids.false)))
