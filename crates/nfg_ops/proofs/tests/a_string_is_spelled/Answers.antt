-- a code point spells itself
use Rattle.std.proofs.Common.{[], ◌∷◌, refl, sym, subst}
use Rattle.nfg_syn.specs.OwnTexts.{known_of}
use Rattle.nfg_syn.specs.Represents.{AreKnown}
use Rattle.nfg_ops.proofs.tests.a_string_is_spelled.Goals as goal

pub codes-requires-clause-known : goal.codes-requires-clause-known
codes-requires-clause-known g c κs =
    subst (AreKnown (known_of c.in_ok-table.pass.texts)) (sym c.in_ok-line.ensures.graphemes) ((0xE9 ∷ []) ∷ (0x62 ∷ []) ∷ [], (refl, (refl, tt)))
