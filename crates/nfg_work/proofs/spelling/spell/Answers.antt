use Rattle.std.proofs.Common.{◌≡◌, ap, ◌∙◌, arith, rules, w32, to_z, of_z, pos, nat_abs}
use Rattle.std.proofs.lemmas.Int.{to_z-of_z}
use Rattle.nfg_syn.specs.Represents.{spelling}
use Rattle.nfg_work.proofs.Tables.{spell_one}
use Rattle.nfg_work.proofs.spelling.spell.Goals as goal

pub returns-then-n-ge0-clause-spelled : goal.returns-then-n-ge0-clause-spelled
returns-then-n-ge0-clause-spelled g c = λ cluster e.
    let n_is : to_z w32 (of_z w32 c.args.n) ≡ c.args.n = to_z-of_z w32 c.args.n c.ranges.n in
    let test = c.if-n-ge0.true in
    let whole : pos (nat_abs (to_z w32 (of_z w32 c.args.n))) ≡ c.args.n = search rules in
    spell_one (g.T.Synthetics.seen c.args.pass.now).known (to_z w32 (of_z w32 c.args.n)) cluster c.args.buffer.now
    (ap (spelling (g.T.Synthetics.seen c.args.pass.now).known) whole ∙ e) (let room = c.requires.room in omega (arith, room))
