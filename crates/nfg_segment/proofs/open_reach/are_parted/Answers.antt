use Rattle.std.proofs.Common.{[], ◌∷◌, arith}
use Rattle.nfg_segment.proofs.open_reach.are_parted.Goals as goal

pub returns : goal.returns
returns c =
    c.breaks_before.ensures (c.args.first ∷ []) [] c.args.next (c.then-memory.ensures [] c.args.first c.new.ensures c.kind_of.ensures) c.kind_of-2.ensures (omega arith)
