use Rattle.std.proofs.Common.{sym, subst}
use Rattle.nfg_syn.specs.OwnTexts.{known_of}
use Rattle.nfg_bench.specs.Workbench.{AreLawful}
use Rattle.nfg_bench.proofs.Benches.{lawful-take}
use Rattle.nfg_bench.proofs.workbench.Workbench.chain.Goals as goal

pub returns : goal.returns
returns c = record {
  ready = record {
    pass = c.loop-k.invariant.pass;
    strings = subst (AreLawful (known_of c.loop-k.self.pass.texts)) (sym c.truncate.ensures.items)
        (lawful-take (known_of c.loop-k.self.pass.texts) c.loop-k.self.strings.items c.len-kept.result c.loop-k.invariant.strings);
  };
}
