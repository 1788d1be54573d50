use Rattle.std.proofs.Common.{◌≡◌, ◌*◌, drop}
use Rattle.std.specs.List.{list_all}
use Rattle.nfg_lanes.specs.Lanes.{is_narrow_grapheme}
use Rattle.nfg_lanes.proofs.width.narrow_fits.Given as goal

abbrev pub invariant-loop-block : goal.invariant-loop-block
invariant-loop-block l = list_all is_narrow_grapheme l.a ≡ list_all is_narrow_grapheme (drop (l.block * 32) l.a)

abbrev pub invariant-loop-at : goal.invariant-loop-at
invariant-loop-at l = list_all is_narrow_grapheme l.a ≡ list_all is_narrow_grapheme (drop l.at l.a)
