-- The numbers of clusters are narrow just where the clusters are.
use Rattle.std.proofs.Common.{◌≡◌, ◌≢◌, ℕ, zero, suc, ◌≤◌, Bool, true, false, ◌||◌, nat_lt, List, [], ◌∷◌, length, bytes_eq, Some, ℤ, pos, negsuc, refl, sym, ap, ◌∙◌, cond, arith}
use Rattle.std.proofs.lemmas.Bool.{false_from_ne_true, ne_eqb}
use Rattle.std.proofs.lemmas.Slice.Eq.{bytes_eq-Decides}
use Rattle.nfg_strand.specs.Lanes.{is_narrow_grapheme}
use Rattle.nfg_syn.specs.Known.{Texts, IsKnowledge, crlf}
use Rattle.nfg_syn.specs.KnownLaws.{same_text}
use Rattle.nfg_syn.specs.Represents.{Represents, spelling}
use Rattle.nfg_syn.specs.RepresentsLaws.{spelling-one, Represents-length}
use Rattle.nfg_strand.specs.declared.piece.Piece.{Piece}
use Rattle.nfg_strand.specs.Pieces as pieces
use Rattle.nfg_seam.specs.ClusterPieces.{is_line_end, is_ascii, is_narrow, flat_piece, at_most_64}

-- the text of another number than -1
pub other_than_crlf : (size : ℕ) (known places : Texts) → IsKnowledge size known places → (k : ℕ) (c : List ℕ) → known (suc k) ≡ Some c → c ≢ crlf
other_than_crlf size known places knows k c e same = let one = knows.one_to_one (suc k) 0 crlf (e ∙ ap Some same) knows.line_end in absurd (omega (arith, one))

narrow_one : (size : ℕ) (known places : Texts) → IsKnowledge size known places → (n : ℤ) (c : List ℕ) → spelling known n ≡ Some c
    → is_narrow_grapheme n ≡ (is_line_end c || is_ascii c)
narrow_one size known places knows (pos p) c e = let one : c ≡ p ∷ [] = (spelling-one known p c e).1 in rw one (by (bytes_eq (p ∷ []) crlf) refl)
  where
    by : (b : Bool) → bytes_eq (p ∷ []) crlf ≡ b → nat_lt p 128 ≡ (b || nat_lt p 128)
    by true holds = let same = ap length ((bytes_eq-Decides (p ∷ []) crlf).0 holds) in absurd (omega (arith, same))
    by false other = refl
narrow_one size known places knows (negsuc zero) c e = let line_end : c ≡ crlf = same_text c crlf (sym e ∙ knows.line_end) in rw line_end refl
narrow_one size known places knows (negsuc (suc k)) c e = ne_eqb (suc k) 0 (λ zero_is. absurd (omega (arith, zero_is))) ∙ by c (knows.numbers (suc k) c e).1.several (other_than_crlf size known places knows k c e)
  where
    by : (t : List ℕ) → 2 ≤ length t → t ≢ crlf → false ≡ (is_line_end t || is_ascii t)
    by [] long other = absurd (omega (arith, long))
    by (a ∷ []) long other = absurd (omega (arith, long))
    by (a ∷ b ∷ t) long other = let apart : bytes_eq (a ∷ b ∷ t) crlf ≡ false = false_from_ne_true (bytes_eq (a ∷ b ∷ t) crlf) (λ yes. other ((bytes_eq-Decides (a ∷ b ∷ t) crlf).0 yes)) in rw apart refl

pub narrow_same : (size : ℕ) (known places : Texts) → IsKnowledge size known places → (ns : List ℤ) (cs : List (List ℕ)) → Represents known ns cs
    → pieces.is_narrow ns ≡ is_narrow cs
narrow_same size known places knows [] [] r = refl
narrow_same size known places knows [] (c ∷ cs) r = absurd r
narrow_same size known places knows (n ∷ ns) [] r = absurd r
narrow_same size known places knows (n ∷ ns) (c ∷ cs) r =
    let first = narrow_one size known places knows n c r.0 in let rest = narrow_same size known places knows ns cs r.1 in rw (first, rest) refl

-- a list of numbers has the flat piece of its clusters
pub flat_same : (size : ℕ) (known places : Texts) → IsKnowledge size known places → (ns : List ℤ) (cs : List (List ℕ)) → Represents known ns cs
    → pieces.flat_piece ns ≡ flat_piece cs
flat_same size known places knows ns cs r = λ i. pieces.piece_or_none (Represents-length known ns cs r i) 1 (narrow_same size known places knows ns cs r i)

-- the rule of 64 gives the same pieces
pub at_most_same : (size : ℕ) (known places : Texts) → IsKnowledge size known places → (ns : List ℤ) (cs : List (List ℕ)) (ps : List Piece) → Represents known ns cs
    → pieces.at_most_64 ns ps ≡ at_most_64 cs ps
at_most_same size known places knows ns cs ps r = by (nat_lt 64 (length ps))
  where
    by : (b : Bool) → cond b (pieces.flat_piece ns) ps ≡ cond b (flat_piece cs) ps
    by true = flat_same size known places knows ns cs r
    by false = refl
