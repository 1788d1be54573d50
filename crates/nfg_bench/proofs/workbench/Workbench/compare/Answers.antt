use Rattle.std.proofs.Common.{ap, sym, subst, ◌∙◌, ◌<◌, arith, false}
use Rattle.nfg_syn.specs.OwnTexts.{known_of}
use Rattle.nfg_syn.specs.Represents.{AreGraphemes}
use Rattle.nfg_bench.specs.Workbench.{AreLawful}
use Rattle.nfg_bench.proofs.Benches.{lawful-grow, lawful-at}
use Rattle.nfg_bench.proofs.workbench.Workbench.compare.Goals as goal

pub compare-requires-clause-left : goal.compare-requires-clause-left
compare-requires-clause-left c κs =
    let known = known_of c.args.self.now.pass.texts in
    let both = c.in-Some.ensures known (subst (AreLawful known) (sym c.deref.ensures.value) c.requires.ready.strings) in
    both.0

pub compare-requires-clause-right : goal.compare-requires-clause-right
compare-requires-clause-right c κs =
    let known = known_of c.args.self.now.pass.texts in
    let both = c.in-Some.ensures known (subst (AreLawful known) (sym c.deref.ensures.value) c.requires.ready.strings) in
    both.1

pub returns-in-Some : goal.returns-in-Some
returns-in-Some c = record {
  ready = record {
    pass = c.compare.ensures.table;
    strings = lawful-grow (known_of c.args.self.now.pass.texts) (known_of c.compare.new.pass.texts) c.args.self.now.strings.items c.compare.ensures.keeps.known c.requires.ready.strings;
  };
}
