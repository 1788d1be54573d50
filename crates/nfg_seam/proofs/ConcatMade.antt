-- What comes of two strings that are joined at their seam.
use Rattle.std.proofs.Common.{◌≡◌, ℕ, ◌+◌, ◌-◌, ◌≤◌, nat_lt, Bool, true, false, cond, List, [], ◌∷◌, ◌++◌, length, take, drop, slice_range, None, Result, Ok, Err, IfOk, IfErr, inl, inr, ℤ, refl, sym, ap, ap₂, subst, ◌∙◌, arith, append_assoc, append-nil}
use Rattle.std.proofs.lemmas.List.{length-take-le}
use Rattle.std.specs.List.{repeat}
use Rattle.nfg_text.specs.Forms.{nfc}
use Rattle.nfg_text.specs.Graphemes.{clusters, graphemes_of, IsInNfg}
use Rattle.nfg_text.specs.Text.{text_of}
use Rattle.nfg_text.proofs.Proved.{graphemes_spell_nfc, graphemes_are_in_nfg}
use Rattle.nfg_text.specs.Operations.{concatenation}
use Rattle.nfg_text.specs.Splice.{splice}
use Rattle.nfg_strand.specs.declared.piece.Piece.{Piece}
use Rattle.nfg_strand.specs.Pieces as pieces
use Rattle.nfg_strand.specs.Value.{Rope}
use Rattle.nfg_syn.specs.Known.{Texts, IsKnowledge, IsWithin}
use Rattle.nfg_syn.specs.Learned.{HasLearned, StopsAt, several, first_long}
use Rattle.nfg_syn.specs.LearnedLaws.{HasLearned-several}
use Rattle.nfg_syn.specs.Represents.{Represents}
use Rattle.nfg_syn.specs.RepresentsLaws.{Represents-append, Represents-take, Represents-drop, Represents-length, Represents-grows}
use Rattle.nfg_syn.specs.Seen.{Seen}
use Rattle.nfg_seam.specs.declared.error.SeamError.{SeamError}
use Rattle.nfg_seam.specs.declared.error.SeamError.TheVariants.{TooLong, ClusterLong, RowFull, NoPortion, OutOfMemory}
use Rattle.nfg_seam.specs.declared.seam.Seam.{Seam}
use Rattle.nfg_seam.specs.ClusterPieces.{flat_piece, at_most_64, clip_of}
use Rattle.nfg_seam.specs.ConcatNumbers.{front_of, back_of, between, spliced_numbers, numbers_pieces, IsCountedFrom}
use Rattle.nfg_seam.specs.ConcatPieces.{concat_pieces}
use Rattle.nfg_seam.specs.Made.{HasJoined, IsMade, length_limit}
use Rattle.nfg_seam.specs.Numbered.{AreNumbered, AreRefused}
use Rattle.nfg_seam.specs.Seam.{IsSeam}
use Rattle.nfg_seam.proofs.ConcatLaw.{concatenation-seam}
use Rattle.nfg_seam.proofs.ConcatLong.{long-behind, none-long}
use Rattle.nfg_seam.proofs.RepeatLearned.{Learned-again}
use Rattle.nfg_seam.specs.ClusterPiecesLaws.{flat_same}
use Rattle.nfg_seam.proofs.SeamText.{text-in_nfc}
use Rattle.nfg_seam.proofs.TrimLists.{range-to_end, range-from_start}
use Rattle.nfg_seam.proofs.TrimNumbers.{front-numbers, back-numbers, between-numbers}
use Rattle.nfg_seam.proofs.TrimSeam.{kept_front, kept_back, splice-front, splice-back, splice-middle, splice-parts}

-- a reason for a refusal lies within the clusters of a seam, and they within the whole
stops-within : (front cs back : List (List ℕ)) (old new : Texts) (Reason : List ℕ → Type 0) → first_long (front ++ (cs ++ back)) ≡ None
    → HasLearned old (several front) old → StopsAt cs old new Reason → StopsAt (front ++ (cs ++ back)) old new Reason
stops-within front cs back old new Reason short again stops = record {
  front = front ++ stops.front;
  cluster = stops.cluster;
  rest = stops.rest ++ back;
  parts =
      ap (λ l. front ++ (l ++ back)) stops.parts
      ∙ ap (λ l. front ++ l) (append_assoc stops.front (stops.cluster ∷ stops.rest) back)
      ∙ sym (append_assoc front stops.front (stops.cluster ∷ (stops.rest ++ back)));
  short = short;
  needs_number = stops.needs_number;
  unknown = stops.unknown;
  reason = stops.reason;
  learned = HasLearned-several old old new front stops.front again stops.learned;
}

-- a refusal at the seam is one of the whole
pub refused-joined : (count : ℕ) (front cs back : List (List ℕ)) (ps : List Piece) (old new : Seen) (error result : SeamError) → count ≤ length_limit
    → first_long front ≡ None → first_long back ≡ None → HasLearned old.known (several front) old.known
    → AreRefused cs old new error → IsCountedFrom (length front) error result → HasJoined count (front ++ (cs ++ back)) ps old new (Err result)
refused-joined count front cs back ps old new TooLong result within short_front short_back again never is = absurd never
refused-joined count front cs back ps old new (ClusterLong at) result within short_front short_back again refused (inl is) =
    subst (λ e. HasJoined count (front ++ (cs ++ back)) ps old new (Err e)) (sym is)
    (within, long-behind front cs back at short_front refused.0, refused.1)
refused-joined count front cs back ps old new (ClusterLong at) result within short_front short_back again refused (inr is) =
    subst (λ e. HasJoined count (front ++ (cs ++ back)) ps old new (Err e)) (sym is)
    (record { front = []; rest = front ++ (cs ++ back); parts = refl; learned = refused.1 })
refused-joined count front cs back ps old new RowFull result within short_front short_back again refused is =
    subst (λ e. HasJoined count (front ++ (cs ++ back)) ps old new (Err e)) (sym is)
    (within, stops-within front cs back old.known new.known new.full (none-long front (cs ++ back) short_front (none-long cs back refused.short short_back)) again refused)
refused-joined count front cs back ps old new NoPortion result within short_front short_back again refused is =
    subst (λ e. HasJoined count (front ++ (cs ++ back)) ps old new (Err e)) (sym is)
    (within, stops-within front cs back old.known new.known (λ _. new.drained) (none-long front (cs ++ back) short_front (none-long cs back refused.short short_back)) again refused)
refused-joined count front cs back ps old new OutOfMemory result within short_front short_back again refused is =
    subst (λ e. HasJoined count (front ++ (cs ++ back)) ps old new (Err e)) (sym is)
    (record {
      front = front ++ refused.front;
      rest = refused.rest ++ back;
      parts =
          ap (λ l. front ++ (l ++ back)) refused.parts
          ∙ ap (λ l. front ++ l) (append_assoc refused.front refused.rest back)
          ∙ sym (append_assoc front refused.front (refused.rest ++ back));
      learned = HasLearned-several old.known old.known new.known front refused.front again refused.learned;
    })

-- the rule of 64 gives the same pieces to numbers and to their clusters
at_most_same : (size : ℕ) (known places : Texts) → IsKnowledge size known places → (ns : List ℤ) (cs : List (List ℕ)) (ps : List Piece) → Represents known ns cs
    → pieces.at_most_64 ns ps ≡ at_most_64 cs ps
at_most_same size known places knows ns cs ps r = by (nat_lt 64 (length ps)) (flat_same size known places knows ns cs r)
  where
    by : (b : Bool) → pieces.flat_piece ns ≡ flat_piece cs → cond b (pieces.flat_piece ns) ps ≡ cond b (flat_piece cs) ps
    by true same = same
    by false same = refl

Represents-range : (known : Texts) (ns : List ℤ) (cs : List (List ℕ)) (start end : ℕ) → Represents known ns cs → Represents known (slice_range ns start end) (slice_range cs start end)
Represents-range known ns cs start end r = Represents-take known (end - start) (drop start ns) (drop start cs) (Represents-drop known start ns cs r)

-- what is new
middle-is : (a b : List (List ℕ)) (seam : Seam) (front back : ℕ) → IsInNfg a → IsInNfg b → IsSeam a b seam
    → front ≡ kept_front a seam.left (clusters seam.text) → back ≡ kept_back b seam.right (clusters seam.text) front
    → (splice a b).middle ≡ take (length (clusters seam.text) - front - back) (drop front (clusters seam.text))
middle-is a b seam front back nfg_a nfg_b is is_front is_back =
    let cs = clusters seam.text in
    splice-middle a b seam nfg_a nfg_b is
    ∙ ap (λ n. take (length cs - n - kept_back b seam.right cs n) (drop n cs)) (sym is_front)
    ∙ ap (λ n. take (length cs - front - n) (drop front cs)) (sym is_back)

-- the concatenation, by what the seam keeps of both sides
joined-parts : (a b : List (List ℕ)) (seam : Seam) (front back : ℕ) → IsInNfg a → IsInNfg b → IsSeam a b seam
    → front ≡ kept_front a seam.left (clusters seam.text) → back ≡ kept_back b seam.right (clusters seam.text) front
    → concatenation a b
    ≡ slice_range a 0 (seam.left + front) ++ (take (length (clusters seam.text) - front - back) (drop front (clusters seam.text)) ++ slice_range b (seam.right - back) (length b))
joined-parts a b seam front back nfg_a nfg_b is is_front is_back =
    let cs = clusters seam.text in
    let split = splice-front a b seam nfg_a nfg_b is ∙ ap (λ n. seam.left + n) (sym is_front) in
    let kept = splice-back a b seam nfg_a nfg_b is ∙ ap (λ n. (length b - seam.right) + kept_back b seam.right cs n) (sym is_front) ∙ ap (λ n. (length b - seam.right) + n) (sym is_back) in
    let start : length b - (splice a b).back ≡ seam.right - back = omega (arith, kept, is.right_within) in
    splice-parts a b
    ∙ ap₂ (λ x y. x ++ y) (ap (λ n. take n a) split ∙ sym (range-from_start a (seam.left + front)))
    (ap₂ (λ x y. x ++ y) (middle-is a b seam front back nfg_a nfg_b is is_front is_back)
    (ap (λ n. drop n b) start ∙ sym (range-to_end b (seam.right - back))))

-- the pieces of numbers are those of the clusters that they stand for
pieces-same : (size : ℕ) (known places : Texts) → IsKnowledge size known places → (a b : List (List ℕ)) (seam : Seam) (of_a of_b : Rope) (ms : List ℤ) (front back : ℕ)
    → IsInNfg a → IsInNfg b → IsSeam a b seam → Represents known of_a.graphemes a → Represents known of_b.graphemes b → Represents known ms (clusters seam.text)
    → front ≡ kept_front a seam.left (clusters seam.text) → back ≡ kept_back b seam.right (clusters seam.text) front
    → Represents known (spliced_numbers of_a.graphemes of_b.graphemes ms seam.left seam.right front back) (concatenation a b)
    → numbers_pieces of_a of_b ms seam.left seam.right front back ≡ concat_pieces a b of_a.pieces of_b.pieces
pieces-same size known places knows a b seam of_a of_b ms front back nfg_a nfg_b is ra rb rm is_front is_back whole =
    let cs = clusters seam.text in
    let split = splice-front a b seam nfg_a nfg_b is ∙ ap (λ n. seam.left + n) (sym is_front) in
    let kept = splice-back a b seam nfg_a nfg_b is ∙ ap (λ n. (length b - seam.right) + kept_back b seam.right cs n) (sym is_front) ∙ ap (λ n. (length b - seam.right) + n) (sym is_back) in
    let start : length b - (splice a b).back ≡ seam.right - back = omega (arith, kept, is.right_within) in
    let long = Represents-length known of_b.graphemes b rb in
    let first : pieces.at_most_64 (slice_range of_a.graphemes 0 (seam.left + front)) (pieces.clipped of_a.pieces 0 (seam.left + front)) ≡ clip_of a of_a.pieces 0 (splice a b).front =
    at_most_same size known places knows _ (slice_range a 0 (seam.left + front)) (pieces.clipped of_a.pieces 0 (seam.left + front)) (Represents-range known of_a.graphemes a 0 (seam.left + front) ra)
    ∙ ap (λ n. clip_of a of_a.pieces 0 n) (sym split) in
    let second : pieces.flat_piece (between ms front back) ≡ flat_piece (splice a b).middle =
    flat_same size known places knows _ _ (between-numbers known ms cs front back rm)
    ∙ ap flat_piece (sym (middle-is a b seam front back nfg_a nfg_b is is_front is_back)) in
    let third : pieces.at_most_64 (slice_range of_b.graphemes (seam.right - back) (length of_b.graphemes)) (pieces.clipped of_b.pieces (seam.right - back) (length of_b.graphemes))
    ≡ clip_of b of_b.pieces (length b - (splice a b).back) (length b) =
    ap (λ n. pieces.at_most_64 (slice_range of_b.graphemes (seam.right - back) n) (pieces.clipped of_b.pieces (seam.right - back) n)) long
    ∙ at_most_same size known places knows _ (slice_range b (seam.right - back) (length b)) (pieces.clipped of_b.pieces (seam.right - back) (length b)) (Represents-range known of_b.graphemes b (seam.right - back) (length b) rb)
    ∙ ap (λ n. clip_of b of_b.pieces n (length b)) (sym start) in
    at_most_same size known places knows _ (concatenation a b)
    (pieces.at_most_64 (slice_range of_a.graphemes 0 (seam.left + front)) (pieces.clipped of_a.pieces 0 (seam.left + front))
    ++ (pieces.flat_piece (between ms front back)
    ++ pieces.at_most_64 (slice_range of_b.graphemes (seam.right - back) (length of_b.graphemes)) (pieces.clipped of_b.pieces (seam.right - back) (length of_b.graphemes)))) whole
    ∙ ap (at_most_64 (concatenation a b)) (ap₂ (λ x y. x ++ y) first (ap₂ (λ x y. x ++ y) second third))

-- what is learned at the seam is what the concatenation has
joined-learned : (old new : Texts) → IsWithin old new → (a b : List (List ℕ)) (seam : Seam) (of_a of_b : Rope) (ms : List ℤ)
    → IsInNfg a → IsInNfg b → IsSeam a b seam → Represents old of_a.graphemes a → Represents old of_b.graphemes b → AreNumbered (clusters seam.text) old new ms
    → HasLearned old (several (concatenation a b)) new
joined-learned old new within a b seam of_a of_b ms nfg_a nfg_b is ra rb all =
    let cs = clusters seam.text in
    let gb = Represents-grows old new within of_b.graphemes b rb in
    subst (λ l. HasLearned old (several l) new) (sym (concatenation-seam a b seam nfg_a nfg_b is))
    (HasLearned-several old old new (take seam.left a) (cs ++ drop seam.right b)
    (Learned-again old (take seam.left of_a.graphemes) (take seam.left a) (Represents-take old seam.left of_a.graphemes a ra))
    (HasLearned-several old new new cs (drop seam.right b) all.learned
    (Learned-again new (drop seam.right of_b.graphemes) (drop seam.right b) (Represents-drop new seam.right of_b.graphemes b gb))))

-- numbers for the clusters of the seam make the concatenation
pub made-joined : (size : ℕ) (old new places : Texts) → IsKnowledge size new places → IsWithin old new → (a b : List (List ℕ)) (seam : Seam) (of_a of_b made : Rope) (ms : List ℤ)
    → IsInNfg a → IsInNfg b → IsSeam a b seam → Represents old of_a.graphemes a → Represents old of_b.graphemes b → first_long (take seam.left a) ≡ None → first_long (drop seam.right b) ≡ None
    → first_long (clusters seam.text) ≡ None → AreNumbered (clusters seam.text) old new ms
    → made.graphemes ≡ spliced_numbers of_a.graphemes of_b.graphemes ms seam.left seam.right (front_of of_a.graphemes seam.left ms)
    (back_of of_b.graphemes seam.right ms (front_of of_a.graphemes seam.left ms))
    → made.pieces ≡ numbers_pieces of_a of_b ms seam.left seam.right (front_of of_a.graphemes seam.left ms)
    (back_of of_b.graphemes seam.right ms (front_of of_a.graphemes seam.left ms))
    → IsMade (concatenation a b) (concat_pieces a b of_a.pieces of_b.pieces) old new made
made-joined size old new places knows within a b seam of_a of_b made ms nfg_a nfg_b is ra rb short_a short_b short all graphemes in_pieces =
    let cs = clusters seam.text in
    let ga = Represents-grows old new within of_a.graphemes a ra in
    let gb = Represents-grows old new within of_b.graphemes b rb in
    let front = front_of of_a.graphemes seam.left ms in
    let back = back_of of_b.graphemes seam.right ms front in
    let is_front = front-numbers size new places knows of_a.graphemes ms a cs seam.left ga all.represents in
    let is_back = back-numbers size new places knows of_b.graphemes ms b cs seam.right front gb all.represents in
    let parts = joined-parts a b seam front back nfg_a nfg_b is is_front is_back in
    let long = Represents-length new of_b.graphemes b gb in
    let last = subst (λ n. Represents new (slice_range of_b.graphemes (seam.right - back) n) (slice_range b (seam.right - back) (length b))) (sym long)
    (Represents-range new of_b.graphemes b (seam.right - back) (length b) gb) in
    let whole = subst (Represents new (spliced_numbers of_a.graphemes of_b.graphemes ms seam.left seam.right front back)) (sym parts)
    (Represents-append new _ _ _ _ (Represents-range new of_a.graphemes a 0 (seam.left + front) ga)
    (Represents-append new _ _ _ _ (between-numbers new ms cs front back all.represents) last)) in
    let law = concatenation-seam a b seam nfg_a nfg_b is in
    record {
      short = ap first_long law ∙ none-long (take seam.left a) (cs ++ drop seam.right b) short_a (none-long cs (drop seam.right b) short short_b);
      represents = subst (λ ns. Represents new ns (concatenation a b)) (sym graphemes) whole;
      in_pieces = in_pieces ∙ pieces-same size new places knows a b seam of_a of_b ms front back nfg_a nfg_b is ga gb all.represents is_front is_back whole;
      learned = joined-learned old new within a b seam of_a of_b ms nfg_a nfg_b is ra rb all;
    }

-- the graphemes of a text in NFC, once, are its clusters
pub seam-graphemes : (a b : List (List ℕ)) (seam : Seam) → IsSeam a b seam → graphemes_of (repeat 1 seam.text) ≡ clusters seam.text
seam-graphemes a b seam is =
    let middle = text_of (drop seam.left a) ++ text_of (take seam.right b) in
    let again : nfc (nfc middle) ≡ nfc middle =
    ap nfc (sym (graphemes_spell_nfc middle)) ∙ text-in_nfc (graphemes_of middle) (graphemes_are_in_nfg middle) ∙ graphemes_spell_nfc middle in
    ap graphemes_of (append-nil seam.text) ∙ ap clusters (ap nfc is.text ∙ again ∙ sym is.text)

-- what comes of numbers for the clusters of the seam
pub joined-answer : (size : ℕ) (old new : Seen) → IsKnowledge size new.known new.places → IsWithin old.known new.known → (a b : List (List ℕ)) (seam : Seam) (of_a of_b : Rope) (ms : List ℤ)
    (result : Result Rope SeamError) → length a + length b ≤ length_limit
    → IsInNfg a → IsInNfg b → IsSeam a b seam → Represents old.known of_a.graphemes a → Represents old.known of_b.graphemes b
    → first_long (take seam.left a) ≡ None → first_long (drop seam.right b) ≡ None
    → first_long (clusters seam.text) ≡ None → AreNumbered (clusters seam.text) old.known new.known ms
    → IfOk result (λ made. made.graphemes ≡ spliced_numbers of_a.graphemes of_b.graphemes ms seam.left seam.right (front_of of_a.graphemes seam.left ms)
    (back_of of_b.graphemes seam.right ms (front_of of_a.graphemes seam.left ms)))
    → IfOk result (λ made. made.pieces ≡ numbers_pieces of_a of_b ms seam.left seam.right (front_of of_a.graphemes seam.left ms)
    (back_of of_b.graphemes seam.right ms (front_of of_a.graphemes seam.left ms)))
    → IfErr result (λ error. error ≡ OutOfMemory)
    → HasJoined (length a + length b) (concatenation a b) (concat_pieces a b of_a.pieces of_b.pieces) old new result
joined-answer size old new knows grows a b seam of_a of_b ms (Ok made) within nfg_a nfg_b is ra rb short_a short_b short all graphemes in_pieces none =
    (within, made-joined size old.known new.known new.places knows grows a b seam of_a of_b made ms nfg_a nfg_b is ra rb short_a short_b short all graphemes in_pieces)
joined-answer size old new knows grows a b seam of_a of_b ms (Err error) within nfg_a nfg_b is ra rb short_a short_b short all graphemes in_pieces wanting =
    subst (λ e. HasJoined (length a + length b) (concatenation a b) (concat_pieces a b of_a.pieces of_b.pieces) old new (Err e)) (sym wanting)
    (record {
      front = concatenation a b;
      rest = [];
      parts = sym (append-nil (concatenation a b));
      learned = joined-learned old.known new.known grows a b seam of_a of_b ms nfg_a nfg_b is ra rb all;
    })

-- what comes of a refusal there
pub refused-answer : (old new : Seen) (a b : List (List ℕ)) (seam : Seam) (of_a of_b : Rope) (error result : SeamError) → length a + length b ≤ length_limit
    → IsInNfg a → IsInNfg b → IsSeam a b seam → Represents old.known of_a.graphemes a → first_long (take seam.left a) ≡ None → first_long (drop seam.right b) ≡ None
    → AreRefused (clusters seam.text) old new error → IsCountedFrom seam.left error result
    → HasJoined (length a + length b) (concatenation a b) (concat_pieces a b of_a.pieces of_b.pieces) old new (Err result)
refused-answer old new a b seam of_a of_b error result within nfg_a nfg_b is ra short_a short_b refused counted =
    subst (λ l. HasJoined (length a + length b) l (concat_pieces a b of_a.pieces of_b.pieces) old new (Err result)) (sym (concatenation-seam a b seam nfg_a nfg_b is))
    (refused-joined (length a + length b) (take seam.left a) (clusters seam.text) (drop seam.right b) (concat_pieces a b of_a.pieces of_b.pieces) old new error result within
    short_a short_b (Learned-again old.known (take seam.left of_a.graphemes) (take seam.left a) (Represents-take old.known seam.left of_a.graphemes a ra))
    refused (subst (λ n. IsCountedFrom n error result) (sym (length-take-le seam.left a is.left_within)) counted))
