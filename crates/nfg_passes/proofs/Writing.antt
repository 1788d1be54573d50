-- A list that is written from its front on: what is written, and what is still to come, are the whole.
use Rattle.std.proofs.Common.{◌≡◌, ℕ, ◌+◌, ◌<◌, List, [], ◌∷◌, ◌++◌, length, take, set, sym, ap, ◌∙◌, arith, append_assoc, append-nil, take_all}
use Rattle.std.proofs.lemmas.List.{take_more_set}

-- one more element
pub write_next : (into rest whole : List ℕ) (i x : ℕ) → i < length into → take i into ++ x ∷ rest ≡ whole → take (i + 1) (set into i x) ++ rest ≡ whole
write_next into rest whole i x inside so_far =
    ap (λ l. l ++ rest) (take_more_set into i x inside) ∙ append_assoc (take i into) (x ∷ []) rest ∙ so_far

-- the whole
pub write_last : (into rest whole : List ℕ) (i : ℕ) → i ≡ length into → rest ≡ [] → take i into ++ rest ≡ whole → into ≡ whole
write_last into rest whole i at none so_far =
    sym (take_all i into (omega arith)) ∙ sym (append-nil (take i into)) ∙ ap (λ l. take i into ++ l) (sym none) ∙ so_far
