use Rattle.std.proofs.Common.{ap, sym, subst, ◌∙◌, ◌<◌, arith, false}
use Rattle.nfg_syn.specs.OwnTexts.{known_of}
use Rattle.nfg_syn.specs.Represents.{AreGraphemes}
use Rattle.nfg_bench.proofs.Benches.{lawful-grow, lawful-push, lawful-at, of_text}
use Rattle.nfg_bench.proofs.workbench.Workbench.text.Goals as goal

pub keep-requires-clause-graphemes : goal.keep-requires-clause-graphemes
keep-requires-clause-graphemes c = of_text (known_of c.string_of.new.pass.texts) c.in-Ok.string c.args.text.now c.in-Ok.ensures.made.represents

pub keep-requires-clause-ready : goal.keep-requires-clause-ready
keep-requires-clause-ready c = record {
  pass = c.in-Ok.ensures.table;
  strings = lawful-grow (known_of c.args.self.now.pass.texts) (known_of c.string_of.new.pass.texts) c.args.self.now.strings.items c.in-Ok.ensures.keeps.known c.requires.ready.strings;
}

pub returns-in-Err : goal.returns-in-Err
returns-in-Err c = record {
  ready = record {
    pass = c.in-Err.ensures.table;
    strings = lawful-grow (known_of c.args.self.now.pass.texts) (known_of c.string_of.new.pass.texts) c.args.self.now.strings.items c.in-Err.ensures.keeps.known c.requires.ready.strings;
  };
}
