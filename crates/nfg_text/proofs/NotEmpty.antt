-- The NFC of the empty text is empty, and that of no other.
use Rattle.std.proofs.Common.{◌≡◌, ℕ, List, [], ◌∷◌, length, sym, ap, ◌∙◌, arith}
use Rattle.std.proofs.lemmas.List.{length-append}
use Rattle.std.specs.List.{flat_map}
use Rattle.unicode_normalization.specs.Decompose.{decompose}
use Rattle.unicode_normalization.specs.Forms.{nfc, Nfc, Nfd}
use Rattle.unicode_normalization.proofs.FormsLemmas.{normalize-nil, nfd_from_nfc}
use Rattle.nfg_text.proofs.Composing.{size-nfd, one_part}

pub nfc-nil : nfc [] ≡ []
nfc-nil = normalize-nil Nfc

pub nfc_is_some : (c : ℕ) (cs : List ℕ) → nfc (c ∷ cs) ≡ [] → ⊥
nfc_is_some c cs e =
    omega (
      arith,
      ap length (nfd_from_nfc (c ∷ cs) [] (e ∙ sym nfc-nil)),
      ap length (normalize-nil Nfd),
      size-nfd (c ∷ cs),
      length-append (decompose Nfd c) (flat_map (decompose Nfd) cs),
      one_part c,
    )
