-- A string of numbers that stand for the graphemes of a text.
use Rattle.std.proofs.Common.{◌≡◌, ℕ, ℤ, List, Result, Ok, Err, IfOk, sym, subst}
use Rattle.std.specs.List.{repeat}
use Rattle.nfg_text.specs.Graphemes.{graphemes_of}
use Rattle.nfg_text.proofs.Proved.{graphemes_are_in_nfg}
use Rattle.nfg_strand.specs.Value.{Rope}
use Rattle.nfg_syn.specs.Known.{Texts}
use Rattle.nfg_syn.specs.Represents.{AreGraphemes, Represents}
use Rattle.nfg_seam.specs.declared.error.SeamError.{SeamError}

pub flat-graphemes : (known : Texts) (text : List ℕ) (numbers : List ℤ) (result : Result Rope SeamError) → Represents known numbers (graphemes_of (repeat 1 text))
    → IfOk result (λ made. made.graphemes ≡ numbers) → IfOk result (λ made. AreGraphemes known made.graphemes)
flat-graphemes known text numbers (Ok made) are is =
    (graphemes_of (repeat 1 text), subst (λ ns. Represents known ns (graphemes_of (repeat 1 text))) (sym is) are, graphemes_are_in_nfg (repeat 1 text))
flat-graphemes known text numbers (Err error) are is = tt
