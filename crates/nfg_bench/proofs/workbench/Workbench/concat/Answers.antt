use Rattle.std.proofs.Common.{ap, sym, subst, ◌∙◌, ◌<◌, arith, false}
use Rattle.nfg_syn.specs.OwnTexts.{known_of}
use Rattle.nfg_syn.specs.Represents.{AreGraphemes}
use Rattle.nfg_bench.proofs.Benches.{lawful-grow, lawful-push, lawful-at, of_text}
use Rattle.nfg_bench.proofs.workbench.Workbench.concat.Goals as goal

pub concat-requires-clause-left : goal.concat-requires-clause-left
concat-requires-clause-left c κs =
    let known = known_of c.args.self.now.pass.texts in
    let left : AreGraphemes known c.index.result.now.graphemes = subst (λ s. AreGraphemes known s.graphemes) (sym c.index.ensures)
    (lawful-at known c.args.self.now.strings.items c.args.a c.index.result.now c.requires.ready.strings (omega (arith, c.if-a-len.false, c.len.ensures))) in
    let right : AreGraphemes known c.index-2.result.now.graphemes = subst (λ s. AreGraphemes known s.graphemes) (sym c.index-2.ensures)
    (lawful-at known c.args.self.now.strings.items c.args.b c.index-2.result.now c.requires.ready.strings (omega (arith, c.if-b-len.false, c.len-2.ensures))) in
    left

pub concat-requires-clause-right : goal.concat-requires-clause-right
concat-requires-clause-right c κs =
    let known = known_of c.args.self.now.pass.texts in
    let left : AreGraphemes known c.index.result.now.graphemes = subst (λ s. AreGraphemes known s.graphemes) (sym c.index.ensures)
    (lawful-at known c.args.self.now.strings.items c.args.a c.index.result.now c.requires.ready.strings (omega (arith, c.if-a-len.false, c.len.ensures))) in
    let right : AreGraphemes known c.index-2.result.now.graphemes = subst (λ s. AreGraphemes known s.graphemes) (sym c.index-2.ensures)
    (lawful-at known c.args.self.now.strings.items c.args.b c.index-2.result.now c.requires.ready.strings (omega (arith, c.if-b-len.false, c.len-2.ensures))) in
    right

pub returns-in-Ok-clause-graphemes : goal.returns-in-Ok-clause-graphemes
returns-in-Ok-clause-graphemes c =
    let known = known_of c.args.self.now.pass.texts in
    let left : AreGraphemes known c.index.result.now.graphemes = subst (λ s. AreGraphemes known s.graphemes) (sym c.index.ensures)
    (lawful-at known c.args.self.now.strings.items c.args.a c.index.result.now c.requires.ready.strings (omega (arith, c.if-a-len.false, c.len.ensures))) in
    let right : AreGraphemes known c.index-2.result.now.graphemes = subst (λ s. AreGraphemes known s.graphemes) (sym c.index-2.ensures)
    (lawful-at known c.args.self.now.strings.items c.args.b c.index-2.result.now c.requires.ready.strings (omega (arith, c.if-b-len.false, c.len-2.ensures))) in
    of_text (known_of c.concat.new.pass.texts) c.in-Ok.string _ (c.in-Ok.ensures.joined left.0 right.0 left.1 right.1).1.represents

pub returns-in-Ok-clause-ready : goal.returns-in-Ok-clause-ready
returns-in-Ok-clause-ready c = record {
  pass = c.in-Ok.ensures.table;
  strings = lawful-grow (known_of c.args.self.now.pass.texts) (known_of c.concat.new.pass.texts) c.args.self.now.strings.items c.in-Ok.ensures.keeps.known c.requires.ready.strings;
}

pub returns-in-Err-clause-ready : goal.returns-in-Err-clause-ready
returns-in-Err-clause-ready c = record {
  pass = c.in-Err.ensures.table;
  strings = lawful-grow (known_of c.args.self.now.pass.texts) (known_of c.concat.new.pass.texts) c.args.self.now.strings.items c.in-Err.ensures.keeps.known c.requires.ready.strings;
}
