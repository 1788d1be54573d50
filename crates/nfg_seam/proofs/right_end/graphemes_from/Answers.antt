use Rattle.nfg_seam.proofs.SeamReading.{next-left}
use Rattle.nfg_seam.proofs.right_end.graphemes_from.Goals as goal

pub skipping-preserved : goal.skipping-preserved
skipping-preserved c = record {
  numbers = next-left c.args.b.now.graphemes c.skipping.numbers c.next_of.new.numbers c.skipping._place c.skipping.invariant.numbers c.next_of.ensures.left;
}
