use Rattle.std.proofs.Common.{ap, sym, subst, ◌∙◌, ◌<◌, arith, false}
use Rattle.nfg_syn.specs.OwnTexts.{known_of}
use Rattle.nfg_syn.specs.Represents.{AreGraphemes}
use Rattle.nfg_bench.specs.Workbench.{AreLawful}
use Rattle.nfg_bench.proofs.Benches.{lawful-grow, lawful-at}
use Rattle.nfg_bench.proofs.workbench.two.Goals as goal

pub returns : goal.returns
returns c = λ known are. (
  subst (λ s. AreGraphemes known s.graphemes) (sym c.index-strings-a.is)
      (lawful-at known c.args.strings.now c.args.a c.index-strings-a.result are (omega (arith, c.if-a-strings.false))),
  subst (λ s. AreGraphemes known s.graphemes) (sym c.index-strings-b.is)
      (lawful-at known c.args.strings.now c.args.b c.index-strings-b.result are (omega (arith, c.if-b-strings.false))),
)
