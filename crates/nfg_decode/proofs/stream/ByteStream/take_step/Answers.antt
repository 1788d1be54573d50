use Rattle.std.proofs.Common.{◌≡◌, ◌+◌, length, refl, sym, subst, arith}
use Rattle.nfg_decode.specs.declared.tail.Tail.TheVariants.{Empty}
use Rattle.nfg_decode.specs.State.{HasAdvanced, open_next}
use Rattle.nfg_decode.specs.Tail.{bytes_of}
use Rattle.nfg_decode.proofs.StreamLemmas.{read_open, feeds_nothing, feeds_on}
use Rattle.nfg_decode.proofs.stream.ByteStream.take_step.Goals as goal

pub returns-in_default-clause-feeds : goal.returns-in_default-clause-feeds
returns-in_default-clause-feeds c e bytes h =
    let s = c.args.self.now in
    feeds_nothing e bytes c.args.piece.now c.args.into.now c.push.new.self s.state s (read_open s e bytes c.in-Whole.ensures.0 h)

pub returns-in-Ok-clause-feeds : goal.returns-in-Ok-clause-feeds
returns-in-Ok-clause-feeds c e bytes h =
    let s = c.args.self.now in
    let piece = c.args.piece.now in
    let old = c.args.into.now in
    let new = c.push.new.self in
    let step = c.in-Whole.ensures in
    let still = read_open s e bytes step.0 h in
    let code = c.in-Whole.code in
    let settled : s.state.settled + length (bytes_of s.state.tail) + 1 ≡ s.state.settled + c.tail_len.result + 1 = omega (arith, c.tail_len.ensures) in
    let gone = subst (λ l. HasAdvanced e bytes piece old l (open_next s.state (s.state.settled + length (bytes_of s.state.tail) + 1) Empty)) (sym c.in-Ok.ensures.ok) (step.1.1 e bytes old still) in
    let next = open_next s.state (s.state.settled + c.tail_len.result + 1) Empty in
    feeds_on e bytes piece old new s.state next _ still (subst (λ n. HasAdvanced e bytes piece old new (open_next s.state n Empty)) settled gone) refl step.0 refl

pub returns-in-Held-clause-feeds : goal.returns-in-Held-clause-feeds
returns-in-Held-clause-feeds c e bytes h =
    let s = c.args.self.now in
    let old = c.args.into.now in
    let step = c.in-Held.ensures in
    let still = read_open s e bytes step.0 h in
    feeds_on e bytes c.args.piece.now old old s.state (open_next s.state s.state.settled c.in-Held.tail) _ still (step.1.2 e bytes old still) refl step.0 refl
