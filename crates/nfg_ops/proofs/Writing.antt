-- The code points of clusters, written into a slice one after another.
use Rattle.std.proofs.Common.{◌≡◌, ℕ, zero, suc, ◌+◌, ◌<◌, ◌≤◌, List, [], ◌∷◌, ◌++◌, length, take, slice_get, slice_set, true, Some, None, Option, get_or, IfSome, ℤ, pos, negsuc, nat_abs, refl, sym, ap, ◌∙◌, arith, append_assoc, append-nil, length-take-le}
use Rattle.std.proofs.Math.Seq.{take-suc, take-append-add}
use Rattle.std.proofs.lemmas.Bool.{both_ways}
use Rattle.std.proofs.lemmas.List.{take_more_set, take-take}
use Rattle.std.proofs.lemmas.Option.{slice_get_within, slice_get-get_or}
use Rattle.std.proofs.lemmas.Slice.{take-put_mid}
use borrow.Rule.Slice.PartMut.{put_mid}
use lib.Signed.{le_z}
use Rattle.nfg_text.specs.Text.{text_of}
use Rattle.nfg_syn.specs.Known.{Texts, IsKnowledge, IsSame, text_at}
use Rattle.nfg_syn.specs.Represents.{Represents, spelling}
use Rattle.nfg_syn.specs.RepresentsLaws.{spelling-one}

some-same : {A : Type 0} (x y : A) → Some x ≡ Some y → x ≡ y
some-same x y e = cc

-- one code point more
pub written-more : (into cluster : List ℕ) (k code : ℕ) → k < length into → take k into ≡ take k cluster → slice_get cluster k ≡ Some code
    → take (k + 1) (slice_set into k code) ≡ take (k + 1) cluster
written-more into cluster k code room same is =
    let inside : k < length cluster = slice_get_within cluster k code is in
    let on : suc k ≡ k + 1 = omega arith in
    take_more_set into k code room
    ∙ ap (λ t. t ++ code ∷ []) same
    ∙ ap (λ x. take k cluster ++ x ∷ []) (some-same code (get_or cluster k 0) (sym is ∙ slice_get-get_or cluster k 0 inside))
    ∙ sym (take-suc cluster k 0 inside) ∙ ap (λ n. take n cluster) on

-- the text of a negative number has 2 to 1,024 code points
pub known-length : (size : ℕ) (known places : Texts) → IsKnowledge size known places → (n : ℤ) (cluster : List ℕ) → text_at known n ≡ Some cluster
    → length cluster ≤ 1024
known-length size known places knows (pos c) cluster never = cc
known-length size known places knows (negsuc m) cluster e = (knows.numbers m cluster e).1.within_limit

-- what is said of the text that is found
pub count-of : (o : Option (List ℕ)) (t : List ℕ) (n : ℕ) → o ≡ Some t → IfSome o (λ u. n ≡ length u) → n ≡ length t
count-of (Some u) t n e counted = counted ∙ ap length (some-same u t e)
count-of None t n never counted = cc

pub code-of : (o : Option (List ℕ)) (t : List ℕ) (k code : ℕ) → o ≡ Some t → IfSome o (λ u. slice_get u k ≡ Some code) → slice_get t k ≡ Some code
code-of (Some u) t k code e is = sym (ap (λ v. slice_get v k) (some-same u t e)) ∙ is
code-of None t k code never is = cc

-- both passes know the same text of a number
pub same-text : (old new : Texts) → IsSame old new → (n : ℤ) (cluster : List ℕ) → text_at old n ≡ Some cluster → text_at new n ≡ Some cluster
same-text old new same (pos c) cluster never = cc
same-text old new same (negsuc m) cluster e = same m ∙ e

-- a number of 0 or more is the one code point of its cluster
pub code-written : (known : Texts) (n : ℤ) (into cluster : List ℕ) → le_z (pos 0) n ≡ true → 0 < length into → spelling known n ≡ Some cluster
    → take 1 (slice_set into 0 (nat_abs n)) ≡ cluster
code-written known (pos c) into cluster code room e = take_more_set into 0 c room ∙ sym (spelling-one known c cluster e).1
code-written known (negsuc m) into cluster never room e = absurd (both_ways (le_z (pos 0) (negsuc m)) refl never)

-- the number at a place spells the cluster that comes next
pub spelled-next : (known : Texts) (numbers : List ℤ) (clusters : List (List ℕ)) → Represents known numbers clusters → (k : ℕ) → k < length numbers
    → (cluster : List ℕ) × (spelling known (get_or numbers k (pos 0)) ≡ Some cluster) × (text_of (take (k + 1) clusters) ≡ text_of (take k clusters) ++ cluster)
spelled-next known [] clusters represents k none = absurd (omega (arith, none))
spelled-next known (n ∷ ns) [] never k below = absurd never
spelled-next known (n ∷ ns) (c ∷ cs) represents zero below = (c, represents.0, append-nil c)
spelled-next known (n ∷ ns) (c ∷ cs) represents (suc k) below =
    let rest = spelled-next known ns cs represents.1 k (omega (arith, below)) in
    let on : suc k + 1 ≡ suc (k + 1) = omega arith in (
      rest.0,
      rest.1,
      ap (λ n. text_of (take n (c ∷ cs))) on ∙ ap (λ t. c ++ t) rest.2 ∙ sym (append_assoc c (text_of (take k cs)) rest.0),
    )

-- what is written behind the front of a slice
pub take-written : (into part : List ℕ) (filled k count : ℕ) → filled ≤ length into → count ≤ length part
    → take (filled + count) (put_mid filled k into part) ≡ take filled into ++ take count part
take-written into part filled k count inside within =
    let long : length (take filled into) ≡ filled = length-take-le filled into inside in
    sym (take-take (filled + count) (filled + length part) (put_mid filled k into part) (omega (arith, within)))
    ∙ ap (take (filled + count)) (take-put_mid filled k into part (filled + length part) refl inside)
    ∙ ap (λ n. take (n + count) (take filled into ++ part)) (sym long)
    ∙ take-append-add (take filled into) part count
