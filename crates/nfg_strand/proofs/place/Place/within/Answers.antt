-- the quotient says how often the unit is over, and the remainder the place in it
use Rattle.nfg_strand.proofs.Places.{left_of-after}
use Rattle.nfg_strand.proofs.place.Place.within.Goals as goal

pub returns : goal.returns
returns c =
    left_of-after c.args.strands.now c.index-strands-0.result c.args.skip c.unit_len-unit.result c.times.result c.requires.some c.index-strands-0.is
    c.unit_len-unit.ensures.len c.times.ensures.times c.unit_len-unit.ensures.nonempty c.requires.inside
