use Rattle.std.proofs.Common.{◌≡◌, ◌<◌, ◌∙◌, length, pos, subst, true, arith}
use lib.Signed.{le_z}
use Rattle.nfg_stream.proofs.CollectedLemmas.{back}
use Rattle.nfg_stream.proofs.PassedOver.{plain-more}
use Rattle.nfg_stream.proofs.numbering.next_longer.Goals as goal

pub places-preserved : goal.places-preserved
places-preserved c =
    let i = c.places.invariant in
    let inside : c.places.place < length c.args.numbers.now = c.places-test.true in
    record {
      later = omega (arith, i.later);
      within = omega (arith, inside);
      plain =
          plain-more c.args.numbers.now c.args.start c.places.place i.later inside
          (subst (λ z. le_z (pos 0) z ≡ true) (back c.at.result c.at.type_inv ∙ c.at.ensures) c.if-at-ge0.true) i.plain;
    }
