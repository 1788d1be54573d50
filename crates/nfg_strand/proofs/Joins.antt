-- Lemmas on strands in a row and repeated.
use Rattle.std.proofs.Common.{◌≡◌, ℕ, zero, suc, ◌*◌, ◌<◌, List, [], ◌∷◌, length, get_or, refl, ap, sym, arith}
use Rattle.std.proofs.lemmas.List.{append-nil}
use Rattle.std.specs.Prelude.{ℤ}
use Rattle.std.specs.List.{repeat, list_all}
use Rattle.nfg_block.specs.Lanes.{is_narrow_grapheme}
use Rattle.nfg_strand.specs.declared.piece.Piece.{Piece}
use Rattle.nfg_strand.specs.Pieces.{repeat_pieces}
use Rattle.nfg_strand.specs.Strand.{Repetition, graphemes, graphemes_of}
use Rattle.nfg_strand.proofs.Repeats.{repeat-repeat}

-- one strand alone
pub only_one : (strands : List Repetition) (s : Repetition) → length strands ≡ 1 → s ≡ get_or strands 0 s → strands ≡ s ∷ []
only_one [] s one is = absurd (omega arith)
only_one (x ∷ []) s one is = ap (λ y. y ∷ []) (sym is)
only_one (x ∷ y ∷ strands) s one is = absurd (omega arith)

-- the graphemes of one strand alone
pub graphemes-one : (s : Repetition) → graphemes (s ∷ []) ≡ graphemes_of s
graphemes-one s = append-nil (graphemes_of s)

-- a strand repeated
module _ (s : Repetition) (n : ℕ) where
  pub graphemes_of-repeated : graphemes_of (record s { times = s.times * n }) ≡ repeat n (graphemes_of s)
  graphemes_of-repeated = sym (repeat-repeat n s.times s.unit)

-- one piece, repeated
pub repeat_pieces-one : (xs : List ℤ) (p : Piece) (n : ℕ) → 1 < n → repeat_pieces xs (p ∷ []) n ≡ record p { times = p.times * n } ∷ []
repeat_pieces-one xs p zero more = absurd (omega arith)
repeat_pieces-one xs p (suc zero) more = absurd (omega arith)
repeat_pieces-one xs p (suc (suc n)) more = refl

-- more pieces, repeated
pub repeat_pieces-more : (xs : List ℤ) (ps : List Piece) (n : ℕ) → 1 < length ps → 1 < n →
    repeat_pieces xs ps n ≡ record { length = length xs; times = n; narrow = list_all is_narrow_grapheme xs } ∷ []
repeat_pieces-more xs [] n some more = absurd (omega arith)
repeat_pieces-more xs (p ∷ []) n some more = absurd (omega arith)
repeat_pieces-more xs (p ∷ q ∷ ps) zero some more = absurd (omega arith)
repeat_pieces-more xs (p ∷ q ∷ ps) (suc zero) some more = absurd (omega arith)
repeat_pieces-more xs (p ∷ q ∷ ps) (suc (suc n)) some more = refl
