-- Two code points that compose, and their composite in their place.
use Rattle.std.proofs.Common.{◌≡◌, ℕ, List, ◌∷◌, ◌++◌, Option, Some, None, sym, ap, ◌∙◌, append_assoc}
use Rattle.std.specs.List.{flat_map}
use Rattle.std.specs.Prelude.{IfSome}
use Rattle.unicode_normalization.specs.Compose.{primary_composite}
use Rattle.unicode_normalization.specs.Decompose.{decompose}
use Rattle.unicode_normalization.specs.Forms.{nfd, nfc, Nfd, decomposed}
use Rattle.unicode_normalization.specs.Order.{canonical_order}
use Rattle.unicode_normalization.proofs.DecomposeLemmas.{decompose-primary_composite}
use Rattle.unicode_normalization.proofs.FormsLemmas.{normalize-Nfd, nfc_from_nfd}

nfd-pair : (a b p : ℕ) (rest : List ℕ) → primary_composite a b ≡ Some p → nfd (p ∷ rest) ≡ nfd (a ∷ b ∷ rest)
unfolding decomposed
nfd-pair a b p rest composed =
    let after = flat_map (decompose Nfd) rest in
    normalize-Nfd (p ∷ rest)
    ∙ ap (λ l. canonical_order (l ++ after)) (decompose-primary_composite Nfd a b p composed)
    ∙ ap canonical_order (append_assoc (decompose Nfd a) (decompose Nfd b) after)
    ∙ sym (normalize-Nfd (a ∷ b ∷ rest))

pub nfc-pair : (a b p : ℕ) (rest : List ℕ) → primary_composite a b ≡ Some p → nfc (p ∷ rest) ≡ nfc (a ∷ b ∷ rest)
nfc-pair a b p rest composed = nfc_from_nfd (p ∷ rest) (a ∷ b ∷ rest) (nfd-pair a b p rest composed)

pub in_place : (a b : ℕ) (found : Option ℕ) → found ≡ primary_composite a b → IfSome found (λ p. (rest : List ℕ) → nfc (p ∷ rest) ≡ nfc (a ∷ b ∷ rest))
in_place a b None e = tt
in_place a b (Some p) e = λ rest. nfc-pair a b p rest (sym e)
