use Rattle.std.proofs.Common.{◌+◌, take, sym, subst}
use Rattle.nfg_syn.specs.KnownLaws.{IsWithin-same}
use Rattle.nfg_syn.specs.OwnTexts.{known_of}
use Rattle.nfg_syn.specs.Represents.{Represents}
use Rattle.nfg_syn.specs.RepresentsLaws.{Represents-take, Represents-grows}
use Rattle.nfg_seam.proofs.repeating_tests.check_graphemes.Goals as goal

pub spelled-requires-clause-known : goal.spelled-requires-clause-known
spelled-requires-clause-known g c κs =
    let known = known_of c.loop-k.pass.texts in
    let k = c.loop-k.k + 1 in
    let clusters = c.loop-k.invariant.clusters in (
      take k clusters,
      Represents-take known k c.deref.result.now clusters (subst (λ ns. Represents known ns clusters) (sym c.deref.ensures.value) c.loop-k.invariant.known),
    )

pub loop-k-preserved : goal.loop-k-preserved
loop-k-preserved g c =
    let i = c.loop-k.invariant in
    let old = known_of c.loop-k.pass.texts in
    let new = known_of c.spelled.new.pass.texts in
    record {
      table = c.in_ok-codes.ensures.table;
      clusters = i.clusters;
      known = Represents-grows old new (IsWithin-same old new c.in_ok-codes.ensures.known) c.in_ok-numbers.numbers.items i.clusters i.known;
    }
