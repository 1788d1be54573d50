use Rattle.std.proofs.Common.{ap, sym, subst, ◌∙◌, ◌<◌, arith, false}
use Rattle.nfg_syn.specs.OwnTexts.{known_of}
use Rattle.nfg_syn.specs.Represents.{AreGraphemes}
use Rattle.nfg_bench.specs.Workbench.{AreLawful}
use Rattle.nfg_bench.proofs.Benches.{lawful-grow, lawful-at}
use Rattle.nfg_bench.proofs.workbench.Workbench.codes.Goals as goal

pub codes-requires-clause-known : goal.codes-requires-clause-known
codes-requires-clause-known c κs =
    let known = known_of c.args.self.now.pass.texts in
    let both = c.in-Some.ensures known (subst (AreLawful known) (sym c.deref.ensures.value) c.requires.ready.strings) in
    (both.0.0, both.0.1)

pub returns-in-Ok : goal.returns-in-Ok
returns-in-Ok c = record {
  ready = record {
    pass = c.codes.ensures.table;
    strings = lawful-grow (known_of c.args.self.now.pass.texts) (known_of c.codes.new.pass.texts) c.args.self.now.strings.items c.codes.ensures.keeps.known c.requires.ready.strings;
  };
}

pub returns-in-Err : goal.returns-in-Err
returns-in-Err c = record {
  ready = record {
    pass = c.codes.ensures.table;
    strings = lawful-grow (known_of c.args.self.now.pass.texts) (known_of c.codes.new.pass.texts) c.args.self.now.strings.items c.codes.ensures.keeps.known c.requires.ready.strings;
  };
}
