use Rattle.std.proofs.Common.{true, false}
use Rattle.std.specs.FinMap.{get-empty}
use Rattle.nfg_io.proofs.EntriesLemmas.{get-one_more}
use Rattle.nfg_io.proofs.stored_file.find.Goals.{then-has_path, else-has_path}
use Rattle.nfg_io.proofs.stored_file.find.Goals as goal

pub loop-index-init : goal.loop-index-init
loop-index-init c = get-empty _ c.args.path.now

pub loop-index-preserved : goal.loop-index-preserved
loop-index-preserved c =
    let one_more = get-one_more c.args.files.now c.loop-index.index c.args.path.now c.index-files-index.result in
    elim c.if-has_path.branch [
      | then-has_path w ↦ rw w.found-is (c.loop-index-test.true, one_more true c.loop-index-test.true c.index-files-index.is w.if-has_path.ensures)
      | else-has_path w ↦ rw (w.found-is, one_more false c.loop-index-test.true c.index-files-index.is w.if-has_path.ensures) c.loop-index.invariant
    ]
