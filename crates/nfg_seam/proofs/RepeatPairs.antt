-- A text several times over, where the rules put a boundary after every second copy.
use Rattle.std.proofs.Common.{◌≡◌, ℕ, zero, suc, ◌+◌, ◌-◌, ◌*◌, ◌/◌, ◌%◌, ◌<◌, ◌≤◌, inl, List, [], ◌∷◌, ◌++◌, length, None, Ok, Err, ℤ, refl, sym, ap, subst, ◌∙◌, arith, append_assoc, append-nil}
use Rattle.std.specs.List.{repeat}
use Rattle.nfg_text.specs.Forms.{nfc}
use Rattle.nfg_text.specs.Graphemes.{graphemes_of, IsInNfg}
use Rattle.nfg_text.specs.Operations.{repetition}
use Rattle.nfg_text.specs.Text.{text_of}
use Rattle.nfg_text.proofs.Proved.{nfc_at_safe_start}
use Rattle.nfg_strand.specs.declared.piece.Piece.{Piece}
use Rattle.nfg_strand.specs.Pieces as pieces
use Rattle.nfg_strand.specs.Value.{Rope}
use Rattle.nfg_syn.specs.Known.{IsKnowledge, IsWithin}
use Rattle.nfg_syn.specs.Learned.{StopsSomewhere, first_long}
use Rattle.nfg_syn.specs.Represents.{Represents}
use Rattle.nfg_syn.specs.RepresentsLaws.{Represents-grows}
use Rattle.nfg_syn.specs.Seen.{Seen}
use Rattle.nfg_seam.specs.declared.error.SeamError.{SeamError}
use Rattle.nfg_seam.specs.declared.error.SeamError.TheVariants.{TooLong, ClusterLong, RowFull, NoPortion, OutOfMemory}
use Rattle.nfg_seam.specs.ConcatPieces.{repetition_pieces}
use Rattle.nfg_seam.specs.Made.{HasJoined, length_limit}
use Rattle.nfg_seam.specs.Numbered.{AreNumbered, AreRefused}
use Rattle.nfg_seam.specs.RepeatPieces.{again_pieces}
use Rattle.nfg_seam.specs.Seam.{GoOnSafely}
use Rattle.nfg_seam.specs.Woven.{woven, IsShifted}
use Rattle.nfg_seam.proofs.RepeatLaws.{spells_nfc, stay_after}
use Rattle.nfg_seam.proofs.RepeatLearned.{Learned-again, Refused-last}
use Rattle.nfg_seam.proofs.RepeatMade.{joined-made, joined-refused, settled-pieces, none_again, once_again}
use Rattle.nfg_seam.proofs.RepeatSpelled.{Represents-repeat}
use Rattle.nfg_seam.proofs.RepeatWoven.{woven_short, woven_numbered, Refused-within}

-- a text in NFC that begins safely is in NFC twice over
twice_nfc : (list : List (List ℕ)) → IsInNfg list → GoOnSafely (text_of list ++ text_of list) list → nfc (text_of list ++ text_of list) ≡ text_of list ++ text_of list
twice_nfc [] all safe = spells_nfc [] all
twice_nfc ([] ∷ list) all never = absurd never
twice_nfc ((c ∷ rest) ∷ list) all safe =
    let whole = (c ∷ rest) ∷ list in
    nfc_at_safe_start (text_of whole) c (rest ++ text_of list) safe.0 ∙ ap (λ t. t ++ nfc (text_of whole)) (spells_nfc whole all) ∙ ap (λ t. text_of whole ++ t) (spells_nfc whole all)

-- two copies more
two_more : (list : List (List ℕ)) → IsInNfg list → 0 < length list → GoOnSafely (text_of list ++ text_of list) list → (more : ℕ)
    → repetition list (suc (suc more)) ≡ repetition list 2 ++ repetition list more
two_more list all some safe zero = sym (append-nil (repetition list 2)) ∙ ap (λ l. repetition list 2 ++ l) none_again
two_more list all some safe (suc more) =
    ap graphemes_of (sym (append_assoc w w (w ++ repeat more w)))
    ∙ stay_after (w ++ w) list some (subst (λ t. GoOnSafely t list) (sym (twice_nfc list all safe)) safe) (repeat more w)
    ∙ ap (λ t. graphemes_of (w ++ t) ++ repetition list (suc more)) (sym (append-nil w))
  where
    w : List ℕ
    w = text_of list

-- and so on, until at most one is left
in_pairs : (list : List (List ℕ)) → IsInNfg list → 0 < length list → GoOnSafely (text_of list ++ text_of list) list → (pairs more : ℕ)
    → repetition list (pairs * 2 + more) ≡ repeat pairs (repetition list 2) ++ repetition list more
in_pairs list all some safe zero more = let same : 0 * 2 + more ≡ more = omega arith in ap (repetition list) same
in_pairs list all some safe (suc pairs) more =
    let sum : suc pairs * 2 + more ≡ suc (suc (pairs * 2 + more)) = omega arith in
    ap (repetition list) sum ∙ two_more list all some safe (pairs * 2 + more)
    ∙ ap (λ l. repetition list 2 ++ l) (in_pairs list all some safe pairs more)
    ∙ sym (append_assoc (repetition list 2) (repeat pairs (repetition list 2)) (repetition list more))

-- a refusal at the front is one of the whole, as it is
unshifted : (error : SeamError) → IsShifted error 0 error
unshifted TooLong = refl
unshifted (ClusterLong at) = let same : at ≡ at + 0 = omega arith in inl (ap ClusterLong same)
unshifted RowFull = refl
unshifted NoPortion = refl
unshifted OutOfMemory = refl

-- at most one copy has the graphemes that stand there
few_again : (list : List (List ℕ)) → IsInNfg list → (n : ℕ) → n < 2 → repetition list n ≡ repeat n list
few_again list all zero few = sym none_again
few_again list all (suc zero) few = sym (once_again list all) ∙ sym (append-nil list)
few_again list all (suc (suc n)) few = absurd (omega (arith, few))

module _ (size : ℕ) (old new : Seen) (knows : IsKnowledge size old.known old.places) (ns : List ℤ) (list : List (List ℕ)) (n : ℕ) (ps : List Piece)
    (are : Represents old.known ns list) (all : IsInNfg list) (safe : GoOnSafely (text_of list ++ text_of list) list) (some : 0 < length list) (two : 1 < n)
    (within : length list * n ≤ length_limit) where
  abbrev middle : List (List ℕ)
  middle = repetition list 2

  abbrev left_over : List (List ℕ)
  left_over = repeat (n % 2) list

  abbrev numbers_left : List ℤ
  numbers_left = repeat (n % 2) ns

  left_are : Represents old.known numbers_left left_over
  left_are = Represents-repeat old.known ns list (n % 2) are

  -- the graphemes, by those of two copies
  whole : repetition list n ≡ woven left_over 0 0 middle (n / 2)
  whole =
      let sum : n ≡ n / 2 * 2 + n % 2 = omega arith in
      let few : n % 2 < 2 = omega arith in
      ap (repetition list) sum ∙ in_pairs list all some safe (n / 2) (n % 2)
      ∙ ap (λ l. repeat (n / 2) middle ++ l) (few_again list all (n % 2) few)
      ∙ ap (λ unit. repeat (n / 2) unit ++ left_over) (sym (append-nil middle))

  short : first_long middle ≡ None → first_long (repetition list n) ≡ None
  short none = ap first_long whole ∙ woven_short size old.known old.places knows numbers_left left_over left_are 0 0 middle (n / 2) none

  numbered : IsWithin old.known new.known → (numbers : List ℤ) → AreNumbered middle old.known new.known numbers
      → AreNumbered (repetition list n) old.known new.known (woven numbers_left 0 0 numbers (n / 2))
  numbered grows numbers given =
      subst (λ cs. AreNumbered cs old.known new.known (woven numbers_left 0 0 numbers (n / 2))) (sym whole)
      (woven_numbered size old.known old.places knows numbers_left left_over left_are 0 0 new.known grows middle numbers (n / 2) (omega (arith, two)) given)

  pub pairs_made : IsWithin old.known new.known → IsKnowledge size new.known new.places → (numbers : List ℤ) (made : Rope) → first_long middle ≡ None → AreNumbered middle old.known new.known numbers
      → made.graphemes ≡ woven numbers_left 0 0 numbers (n / 2)
      → (woven numbers_left 0 0 numbers (n / 2) ≡ repeat n ns → made.pieces ≡ again_pieces ns ps n)
      → ((woven numbers_left 0 0 numbers (n / 2) ≡ repeat n ns → ⊥) → made.pieces ≡ pieces.flat_piece (woven numbers_left 0 0 numbers (n / 2)))
      → HasJoined (length list * n) (repetition list n) (repetition_pieces list ps n) old new (Ok made)
  pairs_made grows knows_new numbers made none given graphemes again anew =
      joined-made (length list * n) (repetition list n) (repetition_pieces list ps n) old new made (woven numbers_left 0 0 numbers (n / 2)) within
      (short none) (numbered grows numbers given) graphemes
      (settled-pieces size new.known new.places knows_new list ns (woven numbers_left 0 0 numbers (n / 2)) ps made.pieces n two
      (Represents-grows old.known new.known grows ns list are) (numbered grows numbers given).represents again anew)

  -- memory is wanting when two copies have their numbers
  pub pairs_stop : IsWithin old.known new.known → (numbers : List ℤ) → AreNumbered middle old.known new.known numbers → StopsSomewhere (repetition list n) old.known new.known
  pairs_stop grows numbers given = Refused-last (repetition list n) old.known new.known (numbered grows numbers given).learned

  pub pairs_refused : (error : SeamError) → AreRefused middle old new error → HasJoined (length list * n) (repetition list n) (repetition_pieces list ps n) old new (Err error)
  pairs_refused error refused =
      joined-refused (length list * n) (repetition list n) (repetition_pieces list ps n) old new error within
      (subst (λ cs. AreRefused cs old new error) (sym parts)
      (Refused-within [] middle rest old new error error 0 refl refl
      (Learned-again old.known [] [] tt)
      (λ none. ap first_long (sym parts) ∙ short none)
      refused (unshifted error)))
    where
      rest : List (List ℕ)
      rest = repeat (n / 2 - 1) (middle ++ []) ++ left_over

      parts : repetition list n ≡ [] ++ (middle ++ rest)
      parts =
          let count : n / 2 ≡ suc (n / 2 - 1) = omega (arith, two) in
          whole ∙ ap (λ k. repeat k (middle ++ []) ++ left_over) count
          ∙ append_assoc (middle ++ []) (repeat (n / 2 - 1) (middle ++ [])) left_over
          ∙ ap (λ unit. unit ++ rest) (append-nil middle)
