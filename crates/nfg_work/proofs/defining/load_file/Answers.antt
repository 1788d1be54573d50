use Rattle.std.proofs.Common.{length, sym, refl, ◌∙◌}
use Rattle.nfg_decode.specs.Encoding.{decode}
use Rattle.nfg_work.specs.Making.{file_value}
use Rattle.nfg_work.specs.Reach.{decoded_value}
use Rattle.nfg_work.proofs.Brought.{over_brings, defined_brings, made_grows, file_wanted, file_until}
use Rattle.nfg_work.proofs.Defined.{file_follows, file_over, file_stopped_follows}
use Rattle.nfg_work.proofs.defining.load_file.Goals as goal

pub returns-else-over-clause-loaded : goal.returns-else-over-clause-loaded
returns-else-over-clause-loaded g c = λ reads state h already. file_follows (g.T.Synthetics.size c.args.table.now) (length c.args.bytes.now) (g.T.Synthetics.seen c.args.pass.now) (g.T.Synthetics.seen c.file_given.new.pass) reads c.args.held.now c.define.new.held c.in-Ok.string c.define.result
    (decode c.args.e c.args.bytes.now) state h (sym c.is_over-over.ensures ∙ c.if-over.false) (g.met.T.Synthetics.knows c.args.table.now c.file_given.new.pass c.in-Ok.ensures.table) c.in-Ok.ensures.keeps (c.in-Ok.ensures.made already)
    c.define.ensures.defined c.define.ensures.refused

pub returns-then-over-clause-loaded : goal.returns-then-over-clause-loaded
returns-then-over-clause-loaded g c = λ reads state h already. file_over (g.T.Synthetics.size c.args.table.now) (length c.args.bytes.now) (g.T.Synthetics.seen c.args.pass.now) (g.T.Synthetics.seen c.file_given.new.pass) reads c.args.held.now c.args.held.now c.in-Ok.string
    (decode c.args.e c.args.bytes.now) state h (sym c.is_over-over.ensures ∙ c.if-over.true) (c.in-Ok.ensures.made already) refl

pub returns-in-Err-clause-loaded : goal.returns-in-Err-clause-loaded
returns-in-Err-clause-loaded g c = λ reads state h already. file_stopped_follows (g.T.Synthetics.size c.args.table.now) (length c.args.bytes.now) (g.T.Synthetics.seen c.args.pass.now) (g.T.Synthetics.seen c.file_given.new.pass) reads c.args.held.now c.args.held.now c.in-Err.stop c.stop_after.result
    c.is_over-over.result (decode c.args.e c.args.bytes.now) state h (sym c.is_over-over.ensures) (c.in-Err.ensures.made already) c.stop_after.ensures refl

pub returns-else-over-clause-brings : goal.returns-else-over-clause-brings
returns-else-over-clause-brings g c = λ already.
    let decoded = decode c.args.e c.args.bytes.now in
    let pass = g.T.Synthetics.seen c.args.pass.now in
    let after = g.T.Synthetics.seen c.file_given.new.pass in
    defined_brings (decoded_value decoded) pass after c.define.result
    (made_grows (decoded_value decoded) (file_value decoded) pass after c.in-Ok.string (file_wanted decoded) (c.in-Ok.ensures.made already)) c.define.ensures.refused

pub returns-then-over-clause-brings : goal.returns-then-over-clause-brings
returns-then-over-clause-brings g c = λ already.
    let decoded = decode c.args.e c.args.bytes.now in
    let pass = g.T.Synthetics.seen c.args.pass.now in
    let after = g.T.Synthetics.seen c.file_given.new.pass in
    over_brings (decoded_value decoded) pass after
    (made_grows (decoded_value decoded) (file_value decoded) pass after c.in-Ok.string (file_wanted decoded) (c.in-Ok.ensures.made already))

pub returns-in-Err-clause-brings : goal.returns-in-Err-clause-brings
returns-in-Err-clause-brings g c = λ already. file_until (g.T.Synthetics.seen c.args.pass.now) (g.T.Synthetics.seen c.file_given.new.pass) c.in-Err.stop c.stop_after.result c.is_over-over.result
    (decode c.args.e c.args.bytes.now) (c.in-Err.ensures.made already) c.stop_after.ensures
