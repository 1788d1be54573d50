use Rattle.std.proofs.Common.{ap, sym, subst, ◌∙◌, ◌<◌, arith, false}
use Rattle.nfg_syn.specs.OwnTexts.{known_of}
use Rattle.nfg_syn.specs.Represents.{AreGraphemes}
use Rattle.nfg_bench.specs.Workbench.{AreLawful}
use Rattle.nfg_bench.proofs.Benches.{lawful-grow, lawful-at}
use Rattle.nfg_bench.proofs.workbench.Workbench.equal.Goals as goal

pub equal-requires-clause-left : goal.equal-requires-clause-left
equal-requires-clause-left c κs =
    let known = known_of c.args.self.now.pass.texts in
    let both = c.in-Some.ensures known (subst (AreLawful known) (sym c.deref.ensures.value) c.requires.ready.strings) in
    both.0

pub equal-requires-clause-right : goal.equal-requires-clause-right
equal-requires-clause-right c κs =
    let known = known_of c.args.self.now.pass.texts in
    let both = c.in-Some.ensures known (subst (AreLawful known) (sym c.deref.ensures.value) c.requires.ready.strings) in
    both.1
