use Rattle.std.proofs.Common.{◌∙◌, ◌<◌, ◌++◌, pos, slice_index_or, [], length, ap, arith}
use Rattle.nfg_text.specs.Text.{text_of}
use Rattle.nfg_syn.specs.KnownLaws.{IsWithin-same}
use Rattle.nfg_syn.specs.LearnedLaws.{IsSame-trans}
use Rattle.nfg_syn.specs.Represents.{spelling}
use Rattle.nfg_syn.specs.RepresentsLaws.{Represents-length, spelling-grows}
use Rattle.nfg_syn.specs.SeenLaws.{Keeps-trans, SameCounts-trans}
use Rattle.std.proofs.lemmas.List.{take_all}
use Rattle.nfg_seam.proofs.RepeatLists.{back}
use Rattle.nfg_seam.proofs.RepeatSpelled.{spelled-next, text-next}
use Rattle.nfg_seam.proofs.spelled_text.spelled.Goals as goal

pub append_cluster-requires-clause-known : goal.append_cluster-requires-clause-known
append_cluster-requires-clause-known g c κs within =
    let numbers = c.args.numbers.now in
    let cs = c.requires.known.0 in
    let k = c.spelling.k in
    let old = (g.T.Synthetics.seen c.args.pass.now).known in
    let mid = (g.T.Synthetics.seen c.spelling.pass).known in
    let cluster = slice_index_or cs k [] in (
      cluster,
      ap (spelling mid) (back c.at.result c.at.type_inv ∙ c.at.ensures)
          ∙ spelling-grows old mid (IsWithin-same old mid c.spelling.invariant.known) (slice_index_or numbers k (pos 0)) cluster
          (spelled-next old numbers cs k c.requires.known.1 c.spelling-test.true),
    )

pub spelling-preserved : goal.spelling-preserved
spelling-preserved g c =
    let i = c.spelling.invariant in
    let numbers = c.args.numbers.now in
    let k = c.spelling.k in
    let old = (g.T.Synthetics.seen c.args.pass.now).known in
    let mid = (g.T.Synthetics.seen c.spelling.pass).known in
    let e = c.in_ok-append_cluster.ensures in
    record {
      table = e.table;
      keeps = Keeps-trans _ _ _ i.keeps e.keeps;
      counts = SameCounts-trans _ _ _ i.counts e.counts;
      known = IsSame-trans old mid (g.T.Synthetics.seen c.append_cluster.new.pass).known i.known e.known;
      codes = λ clusters represents.
          let inside : k < length clusters = omega (arith, c.spelling-test.true, Represents-length old numbers clusters represents) in
          let cluster = slice_index_or clusters k [] in
          e.added cluster
          (ap (spelling mid) (back c.at.result c.at.type_inv ∙ c.at.ensures)
          ∙ spelling-grows old mid (IsWithin-same old mid i.known) (slice_index_or numbers k (pos 0)) cluster (spelled-next old numbers clusters k represents c.spelling-test.true))
          ∙ ap (λ t. t ++ cluster) (i.codes clusters represents) ∙ text-next clusters k inside;
    }

pub returns-clause-spelled : goal.returns-clause-spelled
returns-clause-spelled g c clusters represents =
    let old = (g.T.Synthetics.seen c.args.pass.now).known in
    let numbers = c.args.numbers.now in
    c.spelling.invariant.codes clusters represents
    ∙ ap text_of (take_all c.spelling.k clusters (omega (arith, c.spelling-test.false, Represents-length old numbers clusters represents)))
