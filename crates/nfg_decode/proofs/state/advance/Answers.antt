use Rattle.std.proofs.Common.{◌+◌, arith, drop}
use Rattle.std.proofs.lemmas.List.{take_rest}
use Rattle.nfg_decode.specs.Tail.{bytes_of}
use Rattle.nfg_decode.proofs.StateLemmas.{still_before, between, still_open, now_malformed}
use Rattle.nfg_decode.proofs.state.advance.Goals as goal

pub returns-in_default-clause-ok : goal.returns-in_default-clause-ok
returns-in_default-clause-ok c e bytes h =
    still_before c.args.state e bytes c.args.piece.now c.args.into.now c.opening_of-opening.result c.in_default.is (c.opening_of-opening.ensures.ready e bytes h)

pub returns-then-reading-clause-ok : goal.returns-then-reading-clause-ok
returns-then-reading-clause-ok c e bytes h =
    let s = c.args.state in
    let o = c.opening_of-opening.result in
    let form = c.in-Some.form in
    let b = between s e bytes c.args.piece.now o form c.in-Some.is (c.opening_of-opening.ensures.ready e bytes h) in
    now_malformed (s.settled + o.mark) e bytes c.args.piece.now form (bytes_of o.tail) (drop o.used c.args.piece.now) c.args.into.now c.read_on.new.into b.0 b.1 c.in_ok-reading.reading
    ((rw take_rest at c.in_ok-reading.ensures.ok) b.0.unfinished) _ _ (omega arith) c.if-reading.true

pub returns-else-reading-clause-ok : goal.returns-else-reading-clause-ok
returns-else-reading-clause-ok c e bytes h =
    let s = c.args.state in
    let o = c.opening_of-opening.result in
    let form = c.in-Some.form in
    let b = between s e bytes c.args.piece.now o form c.in-Some.is (c.opening_of-opening.ensures.ready e bytes h) in
    still_open (s.settled + o.mark) e bytes c.args.piece.now form (bytes_of o.tail) (drop o.used c.args.piece.now) c.args.into.now c.read_on.new.into b.0 b.1 c.in_ok-reading.reading
    ((rw take_rest at c.in_ok-reading.ensures.ok) b.0.unfinished) _ (omega arith) c.if-reading.false
