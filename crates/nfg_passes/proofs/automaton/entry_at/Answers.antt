use Rattle.std.proofs.Common.{ap, ◌∙◌, replicate, slice_index}
use Rattle.std.proofs.lemmas.Simd.{get_or-chunk, swz_l}
use Rattle.std.proofs.Common.{w8}
use Rattle.nfg_passes.proofs.Runs.{swz_l-replicate}
use Rattle.nfg_passes.proofs.automaton.entry_at.Goals as goal
use lib.Lanes.{chunk}

pub returns : goal.returns
returns c =
    let rows = c.args.rows.now in
    let state = slice_index c.args.states 0 in
    let row = chunk c.args.at 16 rows in
    ap (swz_l w8 16 row 0) c.requires.state.all
    ∙ swz_l-replicate row state c.requires.state.small
    ∙ ap (replicate 16) (get_or-chunk c.args.at 16 rows state 0 c.requires.state.small)
