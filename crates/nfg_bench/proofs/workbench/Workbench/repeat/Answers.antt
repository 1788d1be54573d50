use Rattle.std.proofs.Common.{ap, sym, subst, ◌∙◌, ◌<◌, arith, false}
use Rattle.nfg_syn.specs.OwnTexts.{known_of}
use Rattle.nfg_syn.specs.Represents.{AreGraphemes}
use Rattle.nfg_bench.proofs.Benches.{lawful-grow, lawful-push, lawful-at, of_text}
use Rattle.nfg_bench.proofs.workbench.Workbench.repeat.Goals as goal

pub repeat-requires-clause-graphemes : goal.repeat-requires-clause-graphemes
repeat-requires-clause-graphemes c κs =
    let known = known_of c.args.self.now.pass.texts in
    let string : AreGraphemes known c.index.result.now.graphemes = subst (λ s. AreGraphemes known s.graphemes) (sym c.index.ensures)
    (lawful-at known c.args.self.now.strings.items c.args.a c.index.result.now c.requires.ready.strings (omega (arith, c.if-a-len.false, c.len.ensures))) in
    string

pub returns-in-Ok-clause-graphemes : goal.returns-in-Ok-clause-graphemes
returns-in-Ok-clause-graphemes c =
    let known = known_of c.args.self.now.pass.texts in
    let string : AreGraphemes known c.index.result.now.graphemes = subst (λ s. AreGraphemes known s.graphemes) (sym c.index.ensures)
    (lawful-at known c.args.self.now.strings.items c.args.a c.index.result.now c.requires.ready.strings (omega (arith, c.if-a-len.false, c.len.ensures))) in
    of_text (known_of c.repeat.new.pass.texts) c.in-Ok.string _ (c.in-Ok.ensures.repeated string.0 string.1).1.represents

pub returns-in-Ok-clause-ready : goal.returns-in-Ok-clause-ready
returns-in-Ok-clause-ready c = record {
  pass = c.in-Ok.ensures.table;
  strings = lawful-grow (known_of c.args.self.now.pass.texts) (known_of c.repeat.new.pass.texts) c.args.self.now.strings.items c.in-Ok.ensures.keeps.known c.requires.ready.strings;
}

pub returns-in-Err-clause-ready : goal.returns-in-Err-clause-ready
returns-in-Err-clause-ready c = record {
  pass = c.in-Err.ensures.table;
  strings = lawful-grow (known_of c.args.self.now.pass.texts) (known_of c.repeat.new.pass.texts) c.args.self.now.strings.items c.in-Err.ensures.keeps.known c.requires.ready.strings;
}
