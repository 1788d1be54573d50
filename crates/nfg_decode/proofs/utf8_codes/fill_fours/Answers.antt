use Rattle.std.proofs.Common.{◌*◌, ◌-◌, length, arith}
use Rattle.std.proofs.lemmas.List.{take_rest}
use Rattle.nfg_decode.proofs.FrontLemmas.{front_behind, front_none}
use Rattle.nfg_decode.proofs.utf8_codes.fill_fours.Goals as goal

pub loop-fours-init : goal.loop-fours-init
loop-fours-init c = front_none c.args.text.now c.requires.text

pub loop-fours-preserved : goal.loop-fours-preserved
loop-fours-preserved c =
    let l = c.loop-fours in
    front_behind c.args.text.now l.codes c.fill_four.new.codes (l.fours * 12) (l.fours * 4) (length l.codes - l.fours * 4) 12 4 _ _ l.invariant
    (rw take_rest at c.if-fill_four.ensures.front) (omega arith) (omega arith) (omega arith) (omega arith)
