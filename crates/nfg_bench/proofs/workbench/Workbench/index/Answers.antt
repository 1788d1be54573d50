use Rattle.std.proofs.Common.{ap, sym, subst, ◌∙◌, ◌<◌, arith, false}
use Rattle.nfg_syn.specs.OwnTexts.{known_of}
use Rattle.nfg_syn.specs.Represents.{AreGraphemes}
use Rattle.nfg_bench.specs.Workbench.{AreLawful}
use Rattle.nfg_bench.proofs.Benches.{lawful-grow, lawful-at}
use Rattle.nfg_bench.proofs.workbench.Workbench.index.Goals as goal

pub index-requires-clause-string_known : goal.index-requires-clause-string_known
index-requires-clause-string_known c κs =
    let known = known_of c.args.self.now.pass.texts in
    let both = c.in-Some.ensures known (subst (AreLawful known) (sym c.deref.ensures.value) c.requires.ready.strings) in
    (both.0.0, both.0.1)

pub index-requires-clause-needle_known : goal.index-requires-clause-needle_known
index-requires-clause-needle_known c κs =
    let known = known_of c.args.self.now.pass.texts in
    let both = c.in-Some.ensures known (subst (AreLawful known) (sym c.deref.ensures.value) c.requires.ready.strings) in
    (both.1.0, both.1.1)
