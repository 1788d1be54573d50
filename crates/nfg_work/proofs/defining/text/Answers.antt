use Rattle.std.proofs.Common.{length, sym, refl}
use Rattle.nfg_text.specs.Graphemes.{graphemes_of}
use Rattle.nfg_work.specs.Making.{unless_long}
use Rattle.nfg_work.specs.Reach.{if_short}
use Rattle.nfg_work.specs.Values.{flat}
use Rattle.nfg_work.proofs.Brought.{grows_same, over_brings, defined_brings, made_grows, made_until, long_wanted}
use Rattle.nfg_work.proofs.Defined.{made_follows, stopped_follows, value_over}
use Rattle.nfg_work.proofs.defining.text.Goals as goal

pub returns-then-is_over-clause-defined : goal.returns-then-is_over-clause-defined
returns-then-is_over-clause-defined g c = λ reads state h already. value_over (g.T.Synthetics.size c.args.table.now) (length c.args.codes.now) (g.T.Synthetics.seen c.args.pass.now) reads c.args.held.now c.args.held.now
    (flat (graphemes_of c.args.codes.now)) state h (sym c.if-is_over.ensures) refl

pub returns-in-Ok-clause-defined : goal.returns-in-Ok-clause-defined
returns-in-Ok-clause-defined g c = λ reads state h already. made_follows (g.T.Synthetics.size c.args.table.now) (length c.args.codes.now) (g.T.Synthetics.seen c.args.pass.now) (g.T.Synthetics.seen c.text_given.new.pass) reads c.args.held.now c.define.new.held c.in-Ok.string c.define.result
    (flat (graphemes_of c.args.codes.now)) state h (sym c.if-is_over.ensures) (g.met.T.Synthetics.knows c.args.table.now c.text_given.new.pass c.in-Ok.ensures.table) c.in-Ok.ensures.keeps (c.in-Ok.ensures.made already)
    c.define.ensures.defined c.define.ensures.refused

pub returns-in-Err-clause-defined : goal.returns-in-Err-clause-defined
returns-in-Err-clause-defined g c = λ reads state h already. stopped_follows (g.T.Synthetics.size c.args.table.now) (length c.args.codes.now) (g.T.Synthetics.seen c.args.pass.now) (g.T.Synthetics.seen c.text_given.new.pass) reads c.args.held.now c.args.held.now c.in-Err.stop
    (flat (graphemes_of c.args.codes.now)) state h (sym c.if-is_over.ensures) (c.in-Err.ensures.made already) refl

pub returns-then-is_over-clause-brings : goal.returns-then-is_over-clause-brings
returns-then-is_over-clause-brings g c = λ already.
    let pass = g.T.Synthetics.seen c.args.pass.now in
    over_brings (if_short (flat (graphemes_of c.args.codes.now))) pass pass (grows_same (if_short (flat (graphemes_of c.args.codes.now))) pass pass (λ k. refl))

pub returns-in-Ok-clause-brings : goal.returns-in-Ok-clause-brings
returns-in-Ok-clause-brings g c = λ already.
    let value = flat (graphemes_of c.args.codes.now) in
    let pass = g.T.Synthetics.seen c.args.pass.now in
    let after = g.T.Synthetics.seen c.text_given.new.pass in
    defined_brings (if_short value) pass after c.define.result (made_grows (if_short value) (unless_long value) pass after c.in-Ok.string (long_wanted value) (c.in-Ok.ensures.made already)) c.define.ensures.refused

pub returns-in-Err-clause-brings : goal.returns-in-Err-clause-brings
returns-in-Err-clause-brings g c = λ already.
    let value = flat (graphemes_of c.args.codes.now) in
    made_until (if_short value) (unless_long value) (g.T.Synthetics.seen c.args.pass.now) (g.T.Synthetics.seen c.text_given.new.pass) c.in-Err.stop (long_wanted value) (c.in-Err.ensures.made already)
