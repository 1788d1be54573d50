use Rattle.std.proofs.Common.{sym, subst}
use Rattle.nfg_work.specs.Given.{IsAlreadyMade, Brings, load_wanted}
use Rattle.nfg_work.specs.Reach.{load_value}
use Rattle.nfg_work.proofs.Brought.{unread_brings}
use Rattle.nfg_work.proofs.Parts.{read_next, read_follows}
use Rattle.nfg_work.proofs.defining.load.Goals as goal

pub returns-in-Some-Bytes-clause-loaded : goal.returns-in-Some-Bytes-clause-loaded
returns-in-Some-Bytes-clause-loaded g c = λ state h already.
    let look = c.in-Some-Bytes.ensures.lookup in
    let pass = g.T.Synthetics.seen c.args.pass.now in
    let reads_are = read_next pass.known c.args.reads.now c.args.held.now c.in-Some-Bytes.field-0.now c.in-Some-Bytes.bytes c.as_slice.result.now state h
    look.3.0 look.1 c.in-Some-Bytes.field-0-is c.as_slice.ensures in
    read_follows (g.T.Synthetics.size c.args.table.now) pass (g.T.Synthetics.seen c.load_file.new.pass) c.args.reads.now c.args.held.now c.load_file.new.held c.load_file.result c.args.e c.in-Some-Bytes.field-0.now c.in-Some-Bytes.bytes c.as_slice.result.now state h
    look.3.0 look.1 c.in-Some-Bytes.field-0-is c.as_slice.ensures
    (λ next holds. c.load_file.ensures.loaded c.args.reads.now next holds (subst (λ rs. IsAlreadyMade (load_wanted c.args.e rs) pass.known c.args.given) reads_are already))

pub returns-in-Some-Bytes-clause-brings : goal.returns-in-Some-Bytes-clause-brings
returns-in-Some-Bytes-clause-brings g c = λ state h already.
    let look = c.in-Some-Bytes.ensures.lookup in
    let pass = g.T.Synthetics.seen c.args.pass.now in
    let reads_are = read_next pass.known c.args.reads.now c.args.held.now c.in-Some-Bytes.field-0.now c.in-Some-Bytes.bytes c.as_slice.result.now state h
    look.3.0 look.1 c.in-Some-Bytes.field-0-is c.as_slice.ensures in
    subst (λ rs. Brings (load_value c.args.e rs) pass (g.T.Synthetics.seen c.load_file.new.pass) c.load_file.result) (sym reads_are)
    (c.load_file.ensures.brings (subst (λ rs. IsAlreadyMade (load_wanted c.args.e rs) pass.known c.args.given) reads_are already))

pub returns-in-None-clause-brings : goal.returns-in-None-clause-brings
returns-in-None-clause-brings g c = λ state h already. (unread_brings (load_value c.args.e state.reads) (g.T.Synthetics.seen c.args.pass.now)).0

pub returns-in-Some-Failed-clause-brings : goal.returns-in-Some-Failed-clause-brings
returns-in-Some-Failed-clause-brings g c = λ state h already. (unread_brings (load_value c.args.e state.reads) (g.T.Synthetics.seen c.args.pass.now)).0

pub returns-in-Some-TooLong-clause-brings : goal.returns-in-Some-TooLong-clause-brings
returns-in-Some-TooLong-clause-brings g c = λ state h already. (unread_brings (load_value c.args.e state.reads) (g.T.Synthetics.seen c.args.pass.now)).1
