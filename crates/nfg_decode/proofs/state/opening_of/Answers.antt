use Rattle.nfg_decode.proofs.StateLemmas.{ready_by_mark, ready_by_form}
use Rattle.nfg_decode.proofs.state.opening_of.Goals as goal

pub returns-in-None-clause-ready : goal.returns-in-None-clause-ready
returns-in-None-clause-ready c e bytes h =
    ready_by_mark c.args.state e bytes c.args.piece.now c.look_for_mark.result c.in-None.is c.look_for_mark.ensures.opens h

pub returns-in-Some-clause-ready : goal.returns-in-Some-clause-ready
returns-in-Some-clause-ready c e bytes h = ready_by_form c.args.state c.in-Some.field-0 e bytes c.args.piece.now c.in-Some.is h
