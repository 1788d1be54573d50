use Rattle.std.proofs.Common.{◌<◌, ◌∙◌, Some, length, set, sym, ap, subst, arith}
use Rattle.nfg_stream.specs.Collected.{IsCounted}
use Rattle.nfg_stream.specs.Numbering.{AreInterned}
use Rattle.nfg_stream.proofs.CollectedLemmas.{back}
use Rattle.nfg_stream.proofs.Interned.{Interned-grows, Interned-set}
use Rattle.nfg_stream.proofs.numbering.final_number.Goals as goal

pub returns-in-Ok-clause-interned : goal.returns-in-Ok-clause-interned
returns-in-Ok-clause-interned g c =
    let longer = c.args.longer.now in
    let known = (g.T.Synthetics.seen c.number_of.new.pass).known in
    let place = c.place_of-place.result in
    let counted = subst (IsCounted (length longer)) (sym (back c.args.kept c.ranges.kept.sfits) ∙ c.place_of-place.ensures) c.requires.counted in
    let within : place < length c.args.interned.now = omega (arith, counted, c.requires.room) in
    let fits = back c.in-Ok.n (rw c.in-Ok.is at c.number_of.type_inv).1.1.1.1.0.1 in
    subst (AreInterned longer known) (sym (c.put.ensures ∙ ap (set c.args.interned.now place) fits))
    (Interned-set longer known c.args.interned.now place c.in-Ok.n within
    (Interned-grows longer (g.T.Synthetics.seen c.args.pass.now).known known c.args.interned.now c.in-Ok.ensures.keeps.known c.requires.interned)
    (c.in-Ok.ensures.number.0 ∙ ap (λ t. Some t) c.get.ensures))
