use Rattle.std.proofs.Common.{◌≡◌, ◌+◌, length, refl, sym, ap, subst, arith}
use Rattle.nfg_decode.specs.declared.tail.Tail.TheVariants.{Empty}
use Rattle.nfg_decode.specs.State.{HasAdvanced, open_next}
use Rattle.nfg_decode.specs.Stream.{HasRead, Feeds}
use Rattle.nfg_decode.specs.Tail.{bytes_of}
use Rattle.nfg_decode.proofs.StreamLemmas.{read_open, feeds_nothing, feeds_on}
use Rattle.nfg_decode.proofs.stream.ByteStream.take_piece.Goals as goal

pub returns-in_default-push-clause-feeds : goal.returns-in_default-push-clause-feeds
returns-in_default-push-clause-feeds c e bytes h =
    let s = c.args.self.now in
    feeds_nothing e bytes c.args.piece.now c.args.into.now c.push.new.self s.state s (read_open s e bytes c.in-Some.ensures.0 h)

pub returns-clause-feeds : goal.returns-clause-feeds
returns-clause-feeds c e bytes h =
    let s = c.args.self.now in
    let piece = c.args.piece.now in
    let old = c.args.into.now in
    let new = c.push.new.self in
    let lone = c.in-Some.ensures in
    let still = read_open s e bytes lone.0 h in
    let none = ap (λ t. length (bytes_of t)) lone.1 in
    let settled : s.state.settled + length (bytes_of s.state.tail) + 1 ≡ s.state.settled + 1 = omega arith in
    let given = subst (λ l. HasAdvanced e bytes piece old l (open_next s.state (s.state.settled + length (bytes_of s.state.tail) + 1) Empty)) (sym c.in-Ok.ensures.ok) (lone.2.1 e bytes old still) in
    let counted = subst (λ n. HasAdvanced e bytes piece old new (open_next s.state n Empty)) settled given in
    let gone = subst (λ t. HasAdvanced e bytes piece old new (open_next s.state (s.state.settled + 1) t)) (sym lone.1) counted in
    feeds_on e bytes piece old new s.state (open_next s.state (s.state.settled + 1) s.state.tail) _ still gone refl lone.0 refl

pub returns-in-Nothing-clause-feeds : goal.returns-in-Nothing-clause-feeds
returns-in-Nothing-clause-feeds c e bytes h =
    let same = c.in-Nothing.ensures.unchanged in
    subst (λ old. Feeds e bytes c.args.piece.now old c.take_any.new.into c.take_any.new.self c.take_any.result) same.1
    (c.take_any.ensures.feeds e bytes (subst (λ s. HasRead s e bytes) (sym same.0) h))
