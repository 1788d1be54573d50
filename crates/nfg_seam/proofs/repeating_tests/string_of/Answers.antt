use Rattle.std.proofs.Common.{sym, subst}
use Rattle.std.specs.List.{repeat}
use Rattle.nfg_text.specs.Graphemes.{graphemes_of}
use Rattle.nfg_text.proofs.Proved.{graphemes_are_in_nfg}
use Rattle.nfg_syn.specs.OwnTexts.{known_of}
use Rattle.nfg_syn.specs.Represents.{Represents}
use Rattle.nfg_seam.proofs.repeating_tests.string_of.Goals as goal

pub returns-clause-graphemes : goal.returns-clause-graphemes
returns-clause-graphemes g c =
    let text = repeat 1 c.args.text.now in (
      graphemes_of text,
      subst (λ ns. Represents (known_of c.number_repeated.new.pass.texts) ns (graphemes_of text)) (sym c.in_ok-from_vec.ensures.graphemes) c.in_ok-numbers.ensures.numbers.represents,
      graphemes_are_in_nfg text,
    )
