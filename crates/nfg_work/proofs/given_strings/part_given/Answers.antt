use Rattle.std.proofs.Common.{subst}
use Rattle.nfg_work.specs.Given.{IsAlreadyMade, part_wanted}
use Rattle.nfg_work.proofs.Taken.{part_taken}
use Rattle.nfg_work.proofs.given_strings.part_given.Goals as goal

pub returns-in-Some : goal.returns-in-Some
returns-in-Some c = λ size known places value knows is already.
    part_taken known c.args.string.now c.in-Some.part value c.args.start c.args.count is (subst (IsAlreadyMade (part_wanted value c.args.start c.args.count) known) c.in-Some.is already)

pub returns-in-None : goal.returns-in-None
returns-in-None c = λ size known places value knows is already. c.string_of_part.ensures size known places value knows is
