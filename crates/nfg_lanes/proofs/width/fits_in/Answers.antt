use Rattle.nfg_lanes.proofs.NarrowLemmas.{no_wide_lane}
use Rattle.nfg_lanes.proofs.width.fits_in.Goals as goal

pub returns : goal.returns
returns c = no_wide_lane c.args.at c.args.a.now c.requires c.read32.ensures
