-- What a table says of its numbers.
use Rattle.std.proofs.Common.{◌≡◌, ℕ, zero, suc, ◌+◌, ◌<◌, ◌≤◌, List, [], ◌∷◌, length, slice_get, slice_index_or, Some, IfSome, Option, ℤ, pos, negsuc, nat_abs, take, slice_set, refl, sym, ap, ◌∙◌, subst, arith}
use Rattle.nfg_syn.specs.Known.{Texts, IsSame, IsKnowledge, text_at}
use Rattle.nfg_syn.specs.KnownLaws.{same_text}
use Rattle.nfg_syn.specs.Seen.{Seen, Keeps, SameCounts}
use Rattle.nfg_syn.specs.SeenLaws.{Keeps-refl, Keeps-trans, SameCounts-refl, SameCounts-trans}
use Rattle.nfg_syn.specs.LearnedLaws.{IsSame-refl, IsSame-trans}
use Rattle.nfg_ops.specs.Reads.{HasAsked}
use Rattle.nfg_syn.specs.Represents.{spelling}
use Rattle.nfg_syn.specs.RepresentsLaws.{spelling-one}
use Rattle.nfg_work.proofs.Joined.{take-whole}

-- lists with the same entries are one
pub slice_get-same : (xs ys : List (List ℕ)) → ((k : ℕ) → slice_get xs k ≡ slice_get ys k) → xs ≡ ys
slice_get-same [] [] same = refl
slice_get-same [] (y ∷ ys) same = let e = same 0 in cc
slice_get-same (x ∷ xs) [] same = let e = same 0 in cc
slice_get-same (x ∷ xs) (y ∷ ys) same =
    let first : x ≡ y = same_text x y (same 0) in
    let rest = slice_get-same xs ys (λ k. same (suc k)) in
    cc

-- maps with the same entries are one
pub known_same : (old new : Texts) → IsSame old new → new ≡ old
known_same old new same = λ i k. same k i

-- a pass that was only asked knows what it knew
pub asked_same : (old new : Seen) → HasAsked old new → new.known ≡ old.known
asked_same old new asked = known_same old.known new.known asked.known

-- a pass that was not lent
pub asked_none : (pass : Seen) → HasAsked pass pass
asked_none pass = record { kept = Keeps-refl pass; counts = SameCounts-refl pass; known = IsSame-refl pass.known }

-- a pass that was asked again
pub asked_again : (old mid new : Seen) → HasAsked old mid → Keeps mid new → SameCounts mid new → IsSame mid.known new.known → HasAsked old new
asked_again old mid new asked kept counts known = record {
  kept = Keeps-trans old mid new asked.kept kept;
  counts = SameCounts-trans old mid new asked.counts counts;
  known = IsSame-trans old.known mid.known new.known asked.known known;
}

pub asked_both : (old mid new : Seen) → HasAsked old mid → HasAsked mid new → HasAsked old new
asked_both old mid new first second = asked_again old mid new first second.kept second.counts second.known

-- a negative number stands for two code points or more
pub several_at : (size : ℕ) (known places : Texts) (n : ℤ) (t : List ℕ) → IsKnowledge size known places → text_at known n ≡ Some t → 2 ≤ length t
several_at size known places (pos c) t knows e = cc
several_at size known places (negsuc m) t knows e = (knows.numbers m t e).1.several

pub slice_get-at : (xs : List ℤ) (i : ℕ) (d : ℤ) → i < length xs → slice_get xs i ≡ Some (slice_index_or xs i d)
slice_get-at [] i d within = absurd (omega (arith, within))
slice_get-at (x ∷ xs) zero d within = refl
slice_get-at (x ∷ xs) (suc i) d within = slice_get-at xs i d (omega (arith, within))

-- how many code points it stands for
pub record IsCounted (r : ℕ) (t : List ℕ) : Type 0 where
  pub len : r ≡ length t
  pub several : 2 ≤ r
  pub within : r ≤ 1024

pub counted : (size : ℕ) (known places : Texts) (n : ℤ) (t : List ℕ) (r : ℕ) → IsKnowledge size known places → text_at known n ≡ Some t
    → IfSome (text_at known n) (λ u. r ≡ length u) → IsCounted r t
counted size known places (pos c) t r knows e len = cc
counted size known places (negsuc m) t r knows e len =
    let is = (knows.numbers m t e).1 in
    let several = is.several in
    let within = is.within_limit in
    let same : r ≡ length t = (rw e at len) in
    record { len = same; several = omega (arith, several, same); within = omega (arith, within, same) }

pub count_facts : (size : ℕ) (known places : Texts) (m n : ℤ) (t : List ℕ) (r : ℕ) → IsKnowledge size known places → m ≡ n → text_at known n ≡ Some t
    → IfSome (text_at known m) (λ u. r ≡ length u) → IsCounted r t
count_facts size known places m n t r knows same e len = counted size known places m t r knows (ap (text_at known) same ∙ e) len

pub code_facts : (old now : Texts) (n : ℤ) (t : List ℕ) (k r : ℕ) → now ≡ old → text_at old n ≡ Some t
    → IfSome (text_at now n) (λ u. slice_get u k ≡ Some r) → slice_get t k ≡ Some r
code_facts old now n t k r same e code =
    let here : text_at now n ≡ Some t = ap (λ v. text_at v n) same ∙ e in
    let P : Option (List ℕ) → Type 0 = λ o. IfSome o (λ u. slice_get u k ≡ Some r) in subst P here code

-- one more element is written
pub take-set : (xs ys : List ℕ) (k x : ℕ) → k < length xs → take k xs ≡ take k ys → slice_get ys k ≡ Some x → take (k + 1) (slice_set xs k x) ≡ take (k + 1) ys
take-set [] ys k x within same at = absurd (omega (arith, within))
take-set (a ∷ xs) [] k x within same at = cc
take-set (a ∷ xs) (b ∷ ys) zero x within same at = let first : b ≡ x = cc in ap (λ v. v ∷ []) (sym first)
take-set (a ∷ xs) (b ∷ ys) (suc k) x within same at =
    let more : suc k + 1 ≡ suc (k + 1) = omega arith in
    let first : a ≡ b = cc in
    let rest : take k xs ≡ take k ys = cc in
    let again = take-set xs ys k x (omega (arith, within)) rest at in
    ap (λ n. take n (a ∷ slice_set xs k x)) more ∙ (λ i. first i ∷ again i) ∙ ap (λ n. take n (b ∷ ys)) (sym more)

pub take-same : (xs ys : List ℕ) (n k : ℕ) → take k xs ≡ take k ys → n ≡ length ys → n ≤ k → k ≤ n → take n xs ≡ ys
take-same xs ys n k same long low high =
    let n_is : n ≡ k = omega (arith, low, high) in
    ap (λ m. take m xs) n_is ∙ same ∙ take-whole ys k (omega (arith, long, low))

pub spell_one : (known : Texts) (n : ℤ) (cluster buffer : List ℕ) → spelling known (pos (nat_abs n)) ≡ Some cluster → 0 < length buffer
    → take 1 (slice_set buffer 0 (nat_abs n)) ≡ cluster
spell_one known n cluster [] e some = absurd (omega (arith, some))
spell_one known n cluster (b ∷ buffer) e some = sym (spelling-one known (nat_abs n) cluster e).1

pub length-take_le : {X : Type 0} (n : ℕ) (xs : List X) → n ≤ length xs → length (take n xs) ≡ n
length-take_le zero xs le = refl
length-take_le (suc n) [] le = absurd (omega (arith, le))
length-take_le (suc n) (x ∷ xs) le = ap (λ k. suc k) (length-take_le n xs (omega (arith, le)))
