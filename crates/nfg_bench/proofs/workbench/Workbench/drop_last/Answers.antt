use Rattle.std.proofs.Common.{sym, subst}
use Rattle.nfg_syn.specs.OwnTexts.{known_of}
use Rattle.nfg_bench.specs.Workbench.{AreLawful}
use Rattle.nfg_bench.proofs.Benches.{lawful-take}
use Rattle.nfg_bench.proofs.workbench.Workbench.drop_last.Goals as goal

pub returns-in-Some : goal.returns-in-Some
returns-in-Some c = record {
  ready = record {
    pass = c.requires.ready.pass;
    strings = subst (AreLawful (known_of c.args.self.now.pass.texts)) (sym c.truncate.ensures.items)
        (lawful-take (known_of c.args.self.now.pass.texts) c.args.self.now.strings.items c.in-Some.place c.requires.ready.strings);
  };
}
