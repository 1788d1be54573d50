use Rattle.std.proofs.Common.{refl, arith}
use Rattle.nfg_decode.proofs.StreamLemmas.{bytes_all, read_malformed, read_open, feeds_again, feeds_nothing, feeds_fault, feeds_on}
use Rattle.nfg_decode.proofs.stream.ByteStream.take_any.Goals as goal

pub returns-in-Some-clause-feeds : goal.returns-in-Some-clause-feeds
returns-in-Some-clause-feeds c e bytes h =
    let s = c.args.self.now in
    let at = c.in-Some.at in
    feeds_again e bytes c.args.piece.now c.args.into.now at _ (bytes_all c.args.piece.now (λ i. omega (arith, c.type_inv.piece i))) c.in-Some.is
    (read_malformed s e bytes at c.in-Some.is h)

pub returns-in_default-advance-clause-feeds : goal.returns-in_default-advance-clause-feeds
returns-in_default-advance-clause-feeds c e bytes h =
    let s = c.args.self.now in
    feeds_nothing e bytes c.args.piece.now c.args.into.now c.truncate.new.self s.state s (read_open s e bytes c.in_default.is h)

pub returns-in-Some-malformed-clause-feeds : goal.returns-in-Some-malformed-clause-feeds
returns-in-Some-malformed-clause-feeds c e bytes h =
    let s = c.args.self.now in
    let still = read_open s e bytes c.in_default.is h in
    feeds_fault e bytes c.args.piece.now c.args.into.now c.advance.new.into s.state c.in-Ok.next c.in-Some-malformed.at _ still (c.in-Ok.ensures.ok e bytes still) c.in-Some-malformed.is refl

pub returns-in-None-clause-feeds : goal.returns-in-None-clause-feeds
returns-in-None-clause-feeds c e bytes h =
    let s = c.args.self.now in
    let still = read_open s e bytes c.in_default.is h in
    feeds_on e bytes c.args.piece.now c.args.into.now c.advance.new.into s.state c.in-Ok.next _ still (c.in-Ok.ensures.ok e bytes still) c.in-None.is refl refl
