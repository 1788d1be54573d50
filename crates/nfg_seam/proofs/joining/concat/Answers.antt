-- the strings joined at the seam that is found
use Rattle.std.proofs.Common.{refl, arith}
use Rattle.nfg_syn.specs.KnownLaws.{IsWithin-same, IsWithin-same_back}
use Rattle.nfg_syn.specs.RepresentsLaws.{Represents-grows, Represents-length}
use Rattle.nfg_seam.proofs.RepeatSeam.{joined-from}
use Rattle.nfg_seam.proofs.joining.concat.Goals as goal

pub returns-then-len-gt-LENGTH_LIMIT-clause-joined : goal.returns-then-len-gt-LENGTH_LIMIT-clause-joined
returns-then-len-gt-LENGTH_LIMIT-clause-joined g c = λ a b ra rb.
    let long_a = Represents-length _ c.args.a.now.graphemes a ra in
    let long_b = Represents-length _ c.args.b.now.graphemes b rb in
    (omega (arith, long_a, long_b, c.len.ensures.len, c.len-2.ensures.len, c.if-len-gt-LENGTH_LIMIT.true), λ k. refl)

pub join_at-requires-clause-seam : goal.join_at-requires-clause-seam
join_at-requires-clause-seam g c κs within = λ a b ra rb.
    let old = (g.T.Synthetics.seen c.args.pass.now).known in
    let new = (g.T.Synthetics.seen c.seam_of.new.pass).known in
    let back = IsWithin-same_back old new c.seam_of.ensures.known in
    c.in-Ok.ensures.found a b (Represents-grows new old back c.args.a.now.graphemes a ra) (Represents-grows new old back c.args.b.now.graphemes b rb)

pub returns-in-Ok-clause-joined : goal.returns-in-Ok-clause-joined
returns-in-Ok-clause-joined g c = λ a b ra rb.
    let old = g.T.Synthetics.seen c.args.pass.now in
    let mid = g.T.Synthetics.seen c.seam_of.new.pass in
    let on = IsWithin-same old.known mid.known c.seam_of.ensures.known in
    joined-from _ _ _ old mid (g.T.Synthetics.seen c.join_at.new.pass) c.join_at.result c.seam_of.ensures.known
    (c.join_at.ensures.joined a b (Represents-grows old.known mid.known on c.args.a.now.graphemes a ra) (Represents-grows old.known mid.known on c.args.b.now.graphemes b rb))
