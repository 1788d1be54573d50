-- The text of a number, read one code point after another.
use Rattle.std.proofs.Common.{◌≡◌, ℕ, ◌+◌, ◌<◌, ◌≤◌, List, [], ◌∷◌, ◌++◌, length, take, slice_get, Option, Some, IfSome, ℤ, pos, negsuc, refl, sym, ap, ◌∙◌, arith, subst, to_z, of_z, w32, lt-ltb}
use Rattle.std.specs.Prelude.{T}
use Rattle.std.proofs.lemmas.Int.{to_z-of_z}
use Rattle.std.proofs.Math.Facts.{sfits_lit}
use lib.Signed.{mag}
use Rattle.std.proofs.lemmas.List.{append_assoc, take_more, take_all, take-append-le}
use Rattle.std.proofs.lemmas.Option.{slice_get_within, get_or_from_slice_get}
use Rattle.nfg_syn.specs.Known.{Texts, IsSame, text_at}

-- writing a number and reading it back
pub back : (z : ℤ) → mag z < 0x8000_0000 → to_z w32 (of_z w32 z) ≡ z
back z small = to_z-of_z w32 z (sfits_lit (subst T (sym (lt-ltb (mag z) 0x8000_0000 small)) tt))

-- maps with the same entries have the same texts
pub text_at-same : (old new : Texts) → IsSame old new → (n : ℤ) → text_at new n ≡ text_at old n
text_at-same old new same (pos c) = refl
text_at-same old new same (negsuc m) = same m

-- what holds of the text of a number
pub of_text : (P : List ℕ → Type 0) (found : Option (List ℕ)) (t : List ℕ) → found ≡ Some t → IfSome found P → P t
of_text P found t e is = subst (λ o. IfSome o P) e is

-- one code point more of a text
pub take-more : (t : List ℕ) (k code : ℕ) → slice_get t k ≡ Some code → take (k + 1) t ≡ take k t ++ code ∷ []
take-more t k code at =
    take_more t k 0 (slice_get_within t k code at) ∙ ap (λ c. take k t ++ c ∷ []) (get_or_from_slice_get t k code 0 at)

-- the list after one code point more of the text
pub one_more : (before t into new : List ℕ) (k code : ℕ) → into ≡ before ++ take k t → slice_get t k ≡ Some code → new ≡ into ++ code ∷ [] → new ≡ before ++ take (k + 1) t
one_more before t into new k code is at pushed =
    pushed ∙ (ap (λ xs. xs ++ code ∷ []) is ∙ (append_assoc before (take k t) (code ∷ []) ∙ ap (λ xs. before ++ xs) (sym (take-more t k code at))))

-- the list after all of the text
pub all_read : (before t into : List ℕ) (k count : ℕ) → count ≡ length t → count ≤ k → into ≡ before ++ take k t → into ≡ before ++ t
all_read before t into k count long past is = is ∙ ap (λ xs. before ++ xs) (take_all k t (omega arith))

-- a list that is cut back to where it ended before
pub cut_back : (before new into more : List ℕ) (start : ℕ) → start ≡ length before → new ≡ into → into ≡ before ++ more → take start new ≡ before
cut_back before new into more start long refused is =
    ap (λ xs. take start xs) (refused ∙ is) ∙ (take-append-le start before more (omega arith) ∙ take_all start before (omega arith))
