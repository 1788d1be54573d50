-- Parts of texts are texts.
use Rattle.std.proofs.Common.{◌≡◌, ℕ, zero, suc, ◌+◌, ◌<◌, List, [], ◌∷◌, ◌++◌, length, get_or, take, drop, refl, sym, ap, ◌∙◌, append_assoc, arith}
use Rattle.std.proofs.lemmas.Bool.{and_parts, and_from}
use Rattle.std.proofs.lemmas.List.{drop_more, take-append-drop}
use Rattle.std.specs.Char.{IsScalar}
use Rattle.nfg_text.specs.Text.{IsText}
use Rattle.std.specs.Str.{all_scalars}
use lib.Utf8.{scalar}

-- a code point of a text is a scalar value
pub scalar-at : (t : List ℕ) (i d : ℕ) → IsText t → i < length t → IsScalar (get_or t i d)
scalar-at [] i d all h = absurd (omega arith)
scalar-at (c ∷ cs) zero d all h = (and_parts (scalar c) (all_scalars cs) all).0
scalar-at (c ∷ cs) (suc i) d all h = scalar-at cs i d (and_parts (scalar c) (all_scalars cs) all).1 (omega arith)

-- the first code points of a text are a text
pub IsText-take : (n : ℕ) (t : List ℕ) → IsText t → IsText (take n t)
IsText-take zero t all = refl
IsText-take (suc n) [] all = refl
IsText-take (suc n) (c ∷ cs) all =
    let parts = and_parts (scalar c) (all_scalars cs) all in and_from _ _ parts.0 (IsText-take n cs parts.1)

-- and so are the last
pub IsText-drop : (n : ℕ) (t : List ℕ) → IsText t → IsText (drop n t)
IsText-drop zero t all = all
IsText-drop (suc n) [] all = refl
IsText-drop (suc n) (c ∷ cs) all = IsText-drop n cs (and_parts (scalar c) (all_scalars cs) all).1

-- a text, parted at one of its code points
pub parted-at : (fed t : List ℕ) (at c d : ℕ) → at < length t → c ≡ get_or t at d → ((fed ++ take at t) ++ c ∷ []) ++ drop (at + 1) t ≡ fed ++ t
parted-at fed t at c d within e =
    append_assoc (fed ++ take at t) (c ∷ []) (drop (at + 1) t) ∙ append_assoc fed (take at t) (c ∷ drop (at + 1) t)
    ∙ ap (λ l. fed ++ l) (ap (λ x. take at t ++ x ∷ drop (at + 1) t) e ∙ ap (λ l. take at t ++ l) (sym (drop_more t at d within)) ∙ take-append-drop at t)

-- the parts of a part
pub take-part : (t : List ℕ) (i n : ℕ) → take i t ++ take n (drop i t) ≡ take (i + n) t
take-part t zero n = let e : n ≡ 0 + n = omega arith in ap (λ k. take k t) e
take-part [] (suc i) n = take_nil n ∙ sym (take_nil (suc i + n))
  where
    take_nil : (k : ℕ) → take {A = ℕ} k [] ≡ []
    take_nil zero = refl
    take_nil (suc k) = refl
take-part (c ∷ cs) (suc i) n = let e : suc i + n ≡ suc (i + n) = omega arith in ap (λ l. c ∷ l) (take-part cs i n) ∙ ap (λ k. take k (c ∷ cs)) (sym e)

-- two texts, one after the other
pub IsText-append : (t u : List ℕ) → IsText t → IsText u → IsText (t ++ u)
IsText-append [] u all more = more
IsText-append (c ∷ cs) u all more =
    let parts = and_parts (scalar c) (all_scalars cs) all in and_from _ _ parts.0 (IsText-append cs u parts.1 more)

-- a code point is a text
pub IsText-single : (c : ℕ) → IsScalar c → IsText (c ∷ [])
IsText-single c h = and_from _ _ h refl
