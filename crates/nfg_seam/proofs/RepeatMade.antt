-- What comes of a repetition.
use Rattle.std.proofs.Common.{◌≡◌, ◌↔◌, ℕ, zero, suc, ◌*◌, ◌<◌, ◌≤◌, Bool, true, false, if◌then◌else◌, List, [], ◌∷◌, ◌++◌, length, bytes_eq, None, Result, Ok, Err, IfOk, IfErr, ℤ, refl, sym, ap, subst, ◌∙◌, arith, append-nil}
use Rattle.std.proofs.lemmas.Slice.Eq.{bytes_eq-Decides, slice_eq-Decides}
use Rattle.std.specs.Bool.{Decides}
use Rattle.std.specs.Cmp.Lexicographic.{pointwise}
use Rattle.std.specs.List.{repeat}
use Rattle.nfg_text.specs.Graphemes.{graphemes_of, IsInNfg}
use Rattle.nfg_text.specs.Operations.{repetition}
use Rattle.nfg_text.specs.Text.{text_of}
use Rattle.nfg_text.proofs.Proved.{graphemes_are_in_nfg, parts_are_in_nfg}
use Rattle.nfg_strand.specs.declared.piece.Piece.{Piece}
use Rattle.nfg_strand.specs.Pieces as pieces
use Rattle.nfg_strand.specs.Value.{Rope}
use Rattle.nfg_syn.specs.Known.{Texts, IsKnowledge, IsSame}
use Rattle.nfg_syn.specs.Learned.{HasLearned, StopsAt, several, first_long}
use Rattle.nfg_syn.specs.LearnedLaws.{HasLearned-from, IsSame-trans}
use Rattle.nfg_syn.specs.Represents.{Represents}
use Rattle.nfg_syn.specs.RepresentsLaws.{Represents-same}
use Rattle.nfg_syn.specs.Seen.{Seen}
use Rattle.nfg_seam.specs.declared.error.SeamError.{SeamError}
use Rattle.nfg_seam.specs.declared.error.SeamError.TheVariants.{TooLong, ClusterLong, RowFull, NoPortion, OutOfMemory}
use Rattle.nfg_seam.specs.ClusterPieces.{flat_piece}
use Rattle.nfg_seam.specs.ConcatPieces.{comes_again, unit_pieces, repetition_pieces}
use Rattle.nfg_seam.specs.Made.{HasJoined, IsMade, length_limit}
use Rattle.nfg_seam.specs.Numbered.{AreNumbered, AreRefused}
use Rattle.nfg_seam.specs.RepeatPieces.{again_pieces}
use Rattle.nfg_seam.proofs.RepeatLearned.{Learned-again, Refused-none}
use Rattle.nfg_seam.specs.ClusterPiecesLaws.{flat_same, again_same}
use Rattle.nfg_seam.proofs.RepeatSpelled.{none_is_long, Represents-repeat}

stops-from : (cs : List (List ℕ)) (old mid new : Texts) (Reason : List ℕ → Type 0) → IsSame old mid → StopsAt cs mid new Reason → StopsAt cs old new Reason
stops-from cs old mid new Reason same stops = record {
  front = stops.front;
  cluster = stops.cluster;
  rest = stops.rest;
  parts = stops.parts;
  short = stops.short;
  needs_number = stops.needs_number;
  unknown = stops.unknown;
  reason = stops.reason;
  learned = HasLearned-from old mid (several stops.front) new same stops.learned;
}

-- what is refused from the same knowledge
pub Refused-from : (cs : List (List ℕ)) (old mid new : Seen) (error : SeamError) → IsSame old.known mid.known → AreRefused cs mid new error → AreRefused cs old new error
Refused-from cs old mid new TooLong same never = absurd never
Refused-from cs old mid new (ClusterLong at) same refused = (refused.0, IsSame-trans old.known mid.known new.known same refused.1)
Refused-from cs old mid new RowFull same refused = stops-from cs old.known mid.known new.known new.full same refused
Refused-from cs old mid new NoPortion same refused = stops-from cs old.known mid.known new.known (λ _. new.drained) same refused
Refused-from cs old mid new OutOfMemory same refused = record {
  front = refused.front;
  rest = refused.rest;
  parts = refused.parts;
  learned = HasLearned-from old.known mid.known (several refused.front) new.known same refused.learned;
}

-- and what is numbered
pub Numbered-from : (cs : List (List ℕ)) (old mid new : Texts) (numbers : List ℤ) → IsSame old mid → AreNumbered cs mid new numbers → AreNumbered cs old new numbers
Numbered-from cs old mid new numbers same all = record {
  represents = all.represents;
  learned = HasLearned-from old mid (several cs) new same all.learned;
}

pub joined-refused : (count : ℕ) (cs : List (List ℕ)) (ps : List Piece) (old new : Seen) (error : SeamError) → count ≤ length_limit → AreRefused cs old new error
    → HasJoined count cs ps old new (Err error)
joined-refused count cs ps old new TooLong within never = absurd never
joined-refused count cs ps old new (ClusterLong at) within refused = (within, refused.0, refused.1)
joined-refused count cs ps old new RowFull within refused = (within, refused)
joined-refused count cs ps old new NoPortion within refused = (within, refused)
joined-refused count cs ps old new OutOfMemory within refused = refused

pub joined-made : (count : ℕ) (cs : List (List ℕ)) (ps : List Piece) (old new : Seen) (made : Rope) (numbers : List ℤ) → count ≤ length_limit → first_long cs ≡ None
    → AreNumbered cs old.known new.known numbers → made.graphemes ≡ numbers → made.pieces ≡ ps → HasJoined count cs ps old new (Ok made)
joined-made count cs ps old new made numbers within short all graphemes in_pieces = (
  within,
  record {
    short = short;
    represents = subst (λ ns. Represents new.known ns cs) (sym graphemes) all.represents;
    in_pieces = in_pieces;
    learned = all.learned;
  },
)

-- whether two lists of clusters are the same
same_clusters : (xs ys : List (List ℕ)) → Decides (pointwise bytes_eq xs ys) (xs ≡ ys)
same_clusters xs ys = slice_eq-Decides bytes_eq-Decides xs ys (pointwise bytes_eq xs ys) refl

-- the pieces of numbers that may be those of a string several times over
pub settled-pieces : (size : ℕ) (known places : Texts) → IsKnowledge size known places → (list : List (List ℕ)) (ns numbers : List ℤ) (ps made : List Piece) (n : ℕ) → 1 < n
    → Represents known ns list → Represents known numbers (repetition list n)
    → (numbers ≡ repeat n ns → made ≡ again_pieces ns ps n) → ((numbers ≡ repeat n ns → ⊥) → made ≡ pieces.flat_piece numbers)
    → made ≡ repetition_pieces list ps n
settled-pieces size known places knows list ns numbers ps made zero two are all again anew = absurd (omega arith)
settled-pieces size known places knows list ns numbers ps made (suc zero) two are all again anew = absurd (omega arith)
settled-pieces size known places knows list ns numbers ps made (suc (suc more)) two are all again anew = by (comes_again list n) (same_clusters (repetition list n) (repeat n list))
  where
    n : ℕ
    n = suc (suc more)

    whole : (numbers ≡ repeat n ns) ↔ (repetition list n ≡ repeat n list)
    whole = Represents-same size known places knows numbers (repeat n ns) (repetition list n) (repeat n list) all (Represents-repeat known ns list n are)

    absurd_false : false ≡ true → ⊥
    absurd_false e = cc

    by : (b : Bool) → Decides b (repetition list n ≡ repeat n list) → made ≡ (if b then unit_pieces list ps n else flat_piece (repetition list n))
    by true is = again (whole.1 (is.0 refl)) ∙ again_same size known places knows ns list ps n are
    by false is = anew (λ same. absurd_false (is.1 (whole.0 same))) ∙ flat_same size known places knows numbers (repetition list n) all

-- no copy has no graphemes
pub none_again : [] ≡ graphemes_of []
none_again = (parts_are_in_nfg [] (graphemes_of []) (graphemes_are_in_nfg [])).0

-- and one has those of the list
pub once_again : (list : List (List ℕ)) → IsInNfg list → list ≡ graphemes_of (text_of list ++ [])
once_again list is = is ∙ ap graphemes_of (sym (append-nil (text_of list)))

-- a string at most once
pub few_made : (size : ℕ) (known places : Texts) → IsKnowledge size known places → (list : List (List ℕ)) (ns : List ℤ) (ps : List Piece) (n : ℕ) (made : Rope) → n < 2 → IsInNfg list
    → Represents known ns list → made.graphemes ≡ repeat n ns → made.pieces ≡ pieces.repeat_pieces ns ps n → IsMade (repetition list n) (repetition_pieces list ps n) known known made
few_made size known places knows list ns ps zero made few is are graphemes in_pieces = record {
  short = ap first_long (sym none);
  represents = subst (Represents known made.graphemes) none (subst (λ l. Represents known l []) (sym graphemes) tt);
  in_pieces = in_pieces;
  learned = subst (λ cs. HasLearned known (several cs) known) none (λ k. refl);
}
  where
    none : [] ≡ graphemes_of []
    none = none_again
few_made size known places knows list ns ps (suc zero) made few is are graphemes in_pieces = record {
  short = ap first_long (sym once) ∙ none_is_long size known places knows ns list are;
  represents = subst (Represents known made.graphemes) once (subst (λ l. Represents known l list) (sym (graphemes ∙ append-nil ns)) are);
  in_pieces = in_pieces ∙ itself ps;
  learned = subst (λ cs. HasLearned known (several cs) known) once (Learned-again known ns list are);
}
  where
    once : list ≡ graphemes_of (text_of list ++ [])
    once = once_again list is

    itself : (ps : List Piece) → pieces.repeat_pieces ns ps 1 ≡ ps
    itself [] = refl
    itself (p ∷ ps) = refl
few_made size known places knows list ns ps (suc (suc n)) made few is are graphemes in_pieces = absurd (omega arith)

pub few_joined : (size : ℕ) (seen : Seen) → IsKnowledge size seen.known seen.places → (list : List (List ℕ)) (ns : List ℤ) (ps : List Piece) (n : ℕ) (result : Result Rope SeamError)
    → n < 2 → length list * n ≤ length_limit → IsInNfg list → Represents seen.known ns list
    → IfOk result (λ made. made.graphemes ≡ repeat n ns) → IfOk result (λ made. made.pieces ≡ pieces.repeat_pieces ns ps n) → IfErr result (λ error. error ≡ OutOfMemory)
    → HasJoined (length list * n) (repetition list n) (repetition_pieces list ps n) seen seen result
few_joined size seen knows list ns ps n (Ok made) few within is are graphemes in_pieces none =
    (within, few_made size seen.known seen.places knows list ns ps n made few is are graphemes in_pieces)
few_joined size seen knows list ns ps n (Err error) few within is are graphemes in_pieces wanting =
    subst (λ e. HasJoined (length list * n) (repetition list n) (repetition_pieces list ps n) seen seen (Err e)) (sym wanting) (Refused-none (repetition list n) seen.known)
