-- Strings on a workbench stay what they are, while its table learns.
use Rattle.std.proofs.Common.{◌≡◌, ◌++◌, ◌<◌, ℕ, zero, suc, List, [], ◌∷◌, length, take, get_or, arith}
use Rattle.nfg_text.specs.Graphemes.{IsInNfg, graphemes_of}
use Rattle.nfg_text.proofs.Proved.{graphemes_are_in_nfg}
use Rattle.nfg_syn.specs.Known.{Texts, IsWithin}
use Rattle.nfg_syn.specs.Represents.{AreGraphemes, Represents}
use Rattle.nfg_syn.specs.RepresentsLaws.{Represents-grows}
use Rattle.nfg_strand.specs.Value.{Rope}
use Rattle.nfg_bench.specs.Workbench.{AreLawful}

graphemes-grow : (old new : Texts) (string : Rope) → IsWithin old new → AreGraphemes old string.graphemes → AreGraphemes new string.graphemes
graphemes-grow old new string within are = (are.0, Represents-grows old new within string.graphemes are.0 are.1, are.2)

pub lawful-grow : (old new : Texts) (strings : List Rope) → IsWithin old new → AreLawful old strings → AreLawful new strings
lawful-grow old new [] within are = tt
lawful-grow old new (string ∷ strings) within are = (graphemes-grow old new string within are.0, lawful-grow old new strings within are.1)

pub lawful-push : (known : Texts) (strings : List Rope) (string : Rope) → AreLawful known strings → AreGraphemes known string.graphemes
    → AreLawful known (strings ++ string ∷ [])
lawful-push known [] string are is = (is, tt)
lawful-push known (first ∷ strings) string are is = (are.0, lawful-push known strings string are.1 is)

pub lawful-at : (known : Texts) (strings : List Rope) (place : ℕ) (other : Rope) → AreLawful known strings → place < length strings
    → AreGraphemes known (get_or strings place other).graphemes
lawful-at known [] place other are within = absurd (omega (arith, within))
lawful-at known (string ∷ strings) zero other are within = are.0
lawful-at known (string ∷ strings) (suc place) other are within = lawful-at known strings place other are.1 (omega (arith, within))

-- a string that stands for the graphemes of a text
pub of_text : (known : Texts) (string : Rope) (text : List ℕ) → Represents known string.graphemes (graphemes_of text) → AreGraphemes known string.graphemes
of_text known string text represents = (graphemes_of text, represents, graphemes_are_in_nfg text)

-- fewer strings
pub lawful-take : (known : Texts) (strings : List Rope) (count : ℕ) → AreLawful known strings → AreLawful known (take count strings)
lawful-take known strings zero are = tt
lawful-take known [] (suc count) are = tt
lawful-take known (string ∷ strings) (suc count) are = (are.0, lawful-take known strings count are.1)
