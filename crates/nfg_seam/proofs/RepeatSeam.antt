-- What comes of a repetition by the seam of a string with itself.
use Rattle.std.proofs.Common.{◌≡◌, ℕ, suc, ◌-◌, ◌*◌, ◌<◌, ◌≤◌, List, ◌++◌, length, take, drop, None, Result, Ok, Err, IfOk, ℤ, sym, ap, subst, ◌∙◌, arith, append_assoc, append-nil}
use Rattle.std.proofs.lemmas.List.{length-take}
use Rattle.std.specs.List.{repeat, slice_range}
use Rattle.nfg_text.specs.Graphemes.{graphemes_of, IsInNfg}
use Rattle.nfg_text.specs.Operations.{repetition}
use Rattle.nfg_text.specs.Text.{IsText, text_of}
use Rattle.nfg_text.proofs.Proved.{graphemes_are_in_nfg, nfc_of_text, parts_of_text}
use Rattle.nfg_strand.specs.declared.piece.Piece.{Piece}
use Rattle.nfg_strand.specs.Pieces as pieces
use Rattle.nfg_strand.specs.Value.{Rope}
use Rattle.nfg_syn.specs.Known.{IsKnowledge, IsWithin, IsSame}
use Rattle.nfg_syn.specs.Learned.{StopsSomewhere, several, first_long}
use Rattle.nfg_syn.specs.LearnedLaws.{HasLearned-from, IsSame-trans}
use Rattle.nfg_syn.specs.Represents.{Represents, AreGraphemes}
use Rattle.nfg_syn.specs.RepresentsLaws.{Represents-grows, Represents-take, Represents-drop}
use Rattle.nfg_syn.specs.Seen.{Seen}
use Rattle.nfg_seam.specs.declared.error.SeamError.{SeamError}
use Rattle.nfg_seam.specs.declared.error.SeamError.TheVariants.{TooLong, ClusterLong, RowFull, NoPortion, OutOfMemory}
use Rattle.nfg_seam.specs.declared.seam.Seam.{Seam}
use Rattle.nfg_seam.specs.ConcatPieces.{repetition_pieces}
use Rattle.nfg_seam.specs.Made.{HasJoined, length_limit}
use Rattle.nfg_seam.specs.Numbered.{AreNumbered, AreRefused}
use Rattle.nfg_seam.specs.RepeatPieces.{again_pieces}
use Rattle.nfg_seam.specs.Seam.{IsSeam}
use Rattle.nfg_seam.specs.Woven.{woven, IsShifted}
use Rattle.nfg_seam.proofs.RepeatLaws.{repetition_by_seam}
use Rattle.nfg_seam.proofs.RepeatLearned.{Learned-again, Refused-last}
use Rattle.nfg_seam.proofs.RepeatMade.{Refused-from, joined-made, joined-refused, settled-pieces}
use Rattle.nfg_seam.proofs.RepeatSpelled.{Represents-text, none_is_long}
use Rattle.nfg_seam.proofs.RepeatWoven.{woven_short, woven_numbered, Refused-within}

-- the text of a seam is a text
pub seam_text : (size : ℕ) (seen : Seen) → IsKnowledge size seen.known seen.places → (ns : List ℤ) (list : List (List ℕ)) (seam : Seam) → Represents seen.known ns list
    → IsSeam list list seam → IsText seam.text
seam_text size seen knows ns list seam are is =
    subst IsText (sym is.text)
    (nfc_of_text (text_of (drop seam.left list) ++ text_of (take seam.right list))
    ((parts_of_text (text_of (drop seam.left list)) (text_of (take seam.right list))).1 (
      Represents-text size seen.known seen.places knows (drop seam.left ns) (drop seam.left list) (Represents-drop seen.known seam.left ns list are),
      Represents-text size seen.known seen.places knows (take seam.right ns) (take seam.right list) (Represents-take seen.known seam.right ns list are),
    )))

module _ (size : ℕ) (old new : Seen) (knows : IsKnowledge size old.known old.places) (ns : List ℤ) (list : List (List ℕ)) (seam : Seam) (n : ℕ) (ps : List Piece)
    (are : Represents old.known ns list) (all : IsInNfg list) (is : IsSeam list list seam) (ordered : seam.right ≤ seam.left) (some : 0 < length list) (two : 1 < n)
    (within : length list * n ≤ length_limit) where
  abbrev middle : List (List ℕ)
  middle = graphemes_of (repeat 1 seam.text)

  abbrev seams : ℕ
  seams = n - 1

  -- the graphemes, by the middle of the seam
  whole : repetition list n ≡ woven list seam.left seam.right middle seams
  whole =
      let count : n ≡ suc seams = omega (arith, two) in
      ap (repetition list) count ∙ repetition_by_seam list seam all is ordered some seams
      ∙ ap (λ t. woven list seam.left seam.right (graphemes_of t) seams) (sym (append-nil seam.text))

  short : first_long middle ≡ None → first_long (repetition list n) ≡ None
  short none = ap first_long whole ∙ woven_short size old.known old.places knows ns list are seam.left seam.right middle seams none

  numbered : IsWithin old.known new.known → (numbers : List ℤ) → AreNumbered middle old.known new.known numbers
      → AreNumbered (repetition list n) old.known new.known (woven ns seam.left seam.right numbers seams)
  numbered grows numbers given =
      subst (λ cs. AreNumbered cs old.known new.known (woven ns seam.left seam.right numbers seams)) (sym whole)
      (woven_numbered size old.known old.places knows ns list are seam.left seam.right new.known grows middle numbers seams (omega (arith, two)) given)

  pub seam_made : IsWithin old.known new.known → IsKnowledge size new.known new.places → (numbers : List ℤ) (made : Rope) → first_long middle ≡ None → AreNumbered middle old.known new.known numbers
      → made.graphemes ≡ woven ns seam.left seam.right numbers seams
      → (woven ns seam.left seam.right numbers seams ≡ repeat n ns → made.pieces ≡ again_pieces ns ps n)
      → ((woven ns seam.left seam.right numbers seams ≡ repeat n ns → ⊥) → made.pieces ≡ pieces.flat_piece (woven ns seam.left seam.right numbers seams))
      → HasJoined (length list * n) (repetition list n) (repetition_pieces list ps n) old new (Ok made)
  seam_made grows knows_new numbers made none given graphemes again anew =
      joined-made (length list * n) (repetition list n) (repetition_pieces list ps n) old new made (woven ns seam.left seam.right numbers seams) within
      (short none) (numbered grows numbers given) graphemes
      (settled-pieces size new.known new.places knows_new list ns (woven ns seam.left seam.right numbers seams) ps made.pieces n two
      (Represents-grows old.known new.known grows ns list are) (numbered grows numbers given).represents again anew)

  -- memory is wanting when the middle has its numbers
  pub seam_stops : IsWithin old.known new.known → (numbers : List ℤ) → AreNumbered middle old.known new.known numbers → StopsSomewhere (repetition list n) old.known new.known
  seam_stops grows numbers given = Refused-last (repetition list n) old.known new.known (numbered grows numbers given).learned

  pub seam_refused : (error shifted : SeamError) → AreRefused middle old new error → IsShifted error seam.left shifted
      → HasJoined (length list * n) (repetition list n) (repetition_pieces list ps n) old new (Err shifted)
  seam_refused error shifted refused by =
      joined-refused (length list * n) (repetition list n) (repetition_pieces list ps n) old new shifted within
      (subst (λ cs. AreRefused cs old new shifted) (sym parts)
      (Refused-within front middle rest old new error shifted seam.left place
      (none_is_long size old.known old.places knows (take seam.left ns) front front_are)
      (Learned-again old.known (take seam.left ns) front front_are)
      (λ none. ap first_long (sym parts) ∙ short none)
      refused by))
    where
      front : List (List ℕ)
      front = take seam.left list

      rest : List (List ℕ)
      rest = slice_range list seam.right seam.left ++ (repeat (seams - 1) (middle ++ slice_range list seam.right seam.left) ++ drop seam.left list)

      front_are : Represents old.known (take seam.left ns) front
      front_are = Represents-take old.known seam.left ns list are

      place : seam.left ≡ length front
      place = omega (arith, length-take seam.left list, is.left_within)

      parts : repetition list n ≡ front ++ (middle ++ rest)
      parts =
          let unit = middle ++ slice_range list seam.right seam.left in
          let count : seams ≡ suc (seams - 1) = omega (arith, two) in
          whole ∙ ap (λ k. front ++ (repeat k unit ++ drop seam.left list)) count
          ∙ ap (λ l. front ++ l) (append_assoc unit (repeat (seams - 1) unit) (drop seam.left list)
          ∙ append_assoc middle (slice_range list seam.right seam.left) (repeat (seams - 1) unit ++ drop seam.left list))

-- what comes of a repetition from the same knowledge
pub joined-from : (count : ℕ) (cs : List (List ℕ)) (ps : List Piece) (old mid new : Seen) (result : Result Rope SeamError) → IsSame old.known mid.known
    → HasJoined count cs ps mid new result → HasJoined count cs ps old new result
joined-from count cs ps old mid new (Ok made) same joined = (
  joined.0,
  record {
    short = joined.1.short;
    represents = joined.1.represents;
    in_pieces = joined.1.in_pieces;
    learned = HasLearned-from old.known mid.known (several cs) new.known same joined.1.learned;
  },
)
joined-from count cs ps old mid new (Err TooLong) same joined = (joined.0, IsSame-trans old.known mid.known new.known same joined.1)
joined-from count cs ps old mid new (Err (ClusterLong at)) same joined = (joined.0, joined.1, IsSame-trans old.known mid.known new.known same joined.2)
joined-from count cs ps old mid new (Err RowFull) same joined = (joined.0, Refused-from cs old mid new RowFull same joined.1)
joined-from count cs ps old mid new (Err NoPortion) same joined = (joined.0, Refused-from cs old mid new NoPortion same joined.1)
joined-from count cs ps old mid new (Err OutOfMemory) same joined = Refused-from cs old mid new OutOfMemory same joined

-- a string that comes of one is a string of graphemes
pub joined_graphemes : (count : ℕ) (t : List ℕ) (ps : List Piece) (old new : Seen) (result : Result Rope SeamError) → HasJoined count (graphemes_of t) ps old new result
    → IfOk result (λ made. AreGraphemes new.known made.graphemes)
joined_graphemes count t ps old new (Ok made) joined = (graphemes_of t, joined.1.represents, graphemes_are_in_nfg t)
joined_graphemes count t ps old new (Err error) joined = tt
