use Rattle.nfg_work.specs.Printing.{piece_text}
use Rattle.nfg_work.proofs.Joined.{mapped-next}
use Rattle.nfg_work.proofs.printing.shape.Goals as goal

pub printing-preserved : goal.printing-preserved
printing-preserved c = mapped-next piece_text c.args.string.now.pieces c.printing.k c.piece.result _ c.printing.output c.append_piece.new.output c.piece.ensures.piece
    c.printing.invariant c.in_ok-append_piece.ensures
