use Rattle.std.proofs.Common.{ap, sym, subst, ◌∙◌, ◌<◌, arith, false}
use Rattle.nfg_syn.specs.OwnTexts.{known_of}
use Rattle.nfg_syn.specs.Represents.{AreGraphemes}
use Rattle.nfg_bench.specs.Workbench.{AreLawful}
use Rattle.nfg_bench.proofs.Benches.{lawful-grow, lawful-push, lawful-at, of_text}
use Rattle.nfg_bench.proofs.workbench.Workbench.keep.Goals as goal

pub returns : goal.returns
returns c = record {
  ready = record {
    pass = c.requires.ready.pass;
    strings = subst (AreLawful (known_of c.args.self.now.pass.texts)) (sym c.in-Ok.ensures.items)
        (lawful-push (known_of c.args.self.now.pass.texts) c.args.self.now.strings.items c.args.string c.requires.ready.strings c.requires.graphemes);
  };
}
