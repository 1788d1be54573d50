-- The first cluster with a code point that an encoding lacks.
use Rattle.std.proofs.Common.{◌≡◌, ℕ, zero, suc, ◌+◌, ◌<◌, ◌≤◌, Bool, true, false, ◌&&◌, List, [], ◌∷◌, ◌++◌, length, take, drop, slice_get, slice_index_or, Some, None, ℤ, pos, negsuc, refl, sym, ap, ◌∙◌, cond, arith}
use Rattle.std.proofs.lemmas.Bool.{and_parts, and_from}
use Rattle.std.specs.List.{list_all, position_from, concat}
use Rattle.std.specs.Str.{all_scalars}
use lib.Utf8.{scalar as is_scalar}
use Rattle.std.proofs.lemmas.Iterator.Adapters.{position_from-zero}
use Rattle.std.specs.Option.{option_map}
use Rattle.std.proofs.lemmas.List.{take-append-drop}
use Rattle.nfg_strand.proofs.Positions.{found-append, absent-append, position_from-add}
use Rattle.nfg_text.specs.Text.{IsText, text_of}
use Rattle.nfg_decode.specs.declared.encoding.Encoding.{Encoding}
use Rattle.nfg_syn.specs.Known.{Texts, IsKnowledge}
use Rattle.nfg_syn.specs.Represents.{Represents, spelling}
use Rattle.nfg_syn.specs.RepresentsLaws.{spelling-one}
use Rattle.nfg_work.specs.Evaluation.{first_lacking, is_lacking}
use Rattle.nfg_work.proofs.Joined.{take-push, take-more, slice_get-read}
use Rattle.nfg_work.proofs.Tables.{length-take_le}

all-append : (p : ℕ → Bool) (xs : List ℕ) (x : ℕ) → list_all p xs ≡ true → p x ≡ true → list_all p (xs ++ x ∷ []) ≡ true
all-append p [] x all holds = and_from (p x) true holds refl
all-append p (y ∷ xs) x all holds = let both = and_parts (p y) (list_all p xs) all in and_from (p y) (list_all p (xs ++ x ∷ [])) both.0 (all-append p xs x both.1 holds)

-- one more code point that passes
pub all-next : (p : ℕ → Bool) (xs : List ℕ) (i : ℕ) → list_all p (take i xs) ≡ true → i < length xs → p (slice_index_or xs i 0) ≡ true → list_all p (take (i + 1) xs) ≡ true
all-next p xs i all within passes = ap (list_all p) (take-push xs i (slice_index_or xs i 0) (slice_get-read xs i 0 within)) ∙ all-append p (take i xs) (slice_index_or xs i 0) all passes

and-false : (a b : Bool) → b ≡ false → (a && b) ≡ false
and-false true b e = e
and-false false b e = refl

-- one that does not
pub all-stop : (p : ℕ → Bool) (xs : List ℕ) (i : ℕ) → i < length xs → p (slice_index_or xs i 0) ≡ false → list_all p xs ≡ false
all-stop p [] i within fails = absurd (omega (arith, within))
all-stop p (x ∷ xs) zero within fails = rw fails refl
all-stop p (x ∷ xs) (suc i) within fails = and-false (p x) (list_all p xs) (all-stop p xs i (omega (arith, within)) fails)

none_shift : (p : List ℕ → Bool) (xs : List (List ℕ)) (i n : ℕ) → position_from p 0 (take i xs) ≡ None → i ≤ length xs
    → position_from p 0 (take (i + n) xs) ≡ position_from p (i + 0) (take n (drop i xs))
none_shift p xs i n none inside =
    let long : 0 + length (take i xs) ≡ i + 0 = (let l = length-take_le i xs inside in omega (arith, l)) in
    ap (position_from p 0) (take-more xs i n) ∙ absent-append p 0 (take i xs) (take n (drop i xs)) none
    ∙ ap (λ k. position_from p k (take n (drop i xs))) long

-- still none, with n more
pub none-more : (e : Encoding) (clusters : List (List ℕ)) (i n : ℕ) → first_lacking e (take i clusters) ≡ None → i ≤ length clusters
    → first_lacking e (take n (drop i clusters)) ≡ None → first_lacking e (take (i + n) clusters) ≡ None
none-more e clusters i n before inside here =
    let p = is_lacking e in
    let none = sym (position_from-zero p (take i clusters)) ∙ before in
    let block = sym (position_from-zero p (take n (drop i clusters))) ∙ here in
    position_from-zero p (take (i + n) clusters) ∙ none_shift p clusters i n none inside
    ∙ position_from-add p i 0 (take n (drop i clusters)) ∙ (λ j. option_map (λ k. i + k) (block j))

-- the first one is among n more
pub some-more : (e : Encoding) (clusters : List (List ℕ)) (i n k : ℕ) → first_lacking e (take i clusters) ≡ None → i ≤ length clusters
    → first_lacking e (take n (drop i clusters)) ≡ Some k → first_lacking e clusters ≡ Some (i + k)
some-more e clusters i n k before inside here =
    let p = is_lacking e in
    let none = sym (position_from-zero p (take i clusters)) ∙ before in
    let block = sym (position_from-zero p (take n (drop i clusters))) ∙ here in
    let front : position_from p 0 (take (i + n) clusters) ≡ Some (i + k) =
    none_shift p clusters i n none inside ∙ position_from-add p i 0 (take n (drop i clusters)) ∙ (λ j. option_map (λ m. i + m) (block j)) in
    let whole : take (i + n) clusters ++ drop (i + n) clusters ≡ clusters = take-append-drop (i + n) clusters in
    position_from-zero p clusters ∙ ap (position_from p 0) (sym whole) ∙ found-append p 0 (i + k) (take (i + n) clusters) (drop (i + n) clusters) front

one-lacking : (e : Encoding) (cluster : List ℕ) (b : Bool) → is_lacking e cluster ≡ b → position_from (is_lacking e) 0 (cluster ∷ []) ≡ cond b (Some 0) None
one-lacking e cluster b is = ap (λ v. cond v (Some 0) None) is

drop-one : (xs : List (List ℕ)) (i : ℕ) (x : List ℕ) → slice_get xs i ≡ Some x → take 1 (drop i xs) ≡ x ∷ []
drop-one [] i x e = cc
drop-one (y ∷ xs) zero x e = let same : y ≡ x = cc in ap (λ v. v ∷ []) same
drop-one (y ∷ xs) (suc i) x e = drop-one xs i x e

-- the cluster at a place is the first
pub some-here : (e : Encoding) (clusters : List (List ℕ)) (i : ℕ) (cluster : List ℕ) → first_lacking e (take i clusters) ≡ None → i ≤ length clusters
    → slice_get clusters i ≡ Some cluster → is_lacking e cluster ≡ true → first_lacking e clusters ≡ Some i
some-here e clusters i cluster before inside at is =
    let same : i + 0 ≡ i = omega arith in
    some-more e clusters i 1 0 before inside
    (position_from-zero (is_lacking e) (take 1 (drop i clusters)) ∙ ap (position_from (is_lacking e) 0) (drop-one clusters i cluster at) ∙ one-lacking e cluster true is)
    ∙ ap Some same

pub none-here : (e : Encoding) (clusters : List (List ℕ)) (i : ℕ) (cluster : List ℕ) → first_lacking e (take i clusters) ≡ None → i ≤ length clusters
    → slice_get clusters i ≡ Some cluster → is_lacking e cluster ≡ false → first_lacking e (take (i + 1) clusters) ≡ None
none-here e clusters i cluster before inside at is =
    none-more e clusters i 1 before inside
    (position_from-zero (is_lacking e) (take 1 (drop i clusters)) ∙ ap (position_from (is_lacking e) 0) (drop-one clusters i cluster at) ∙ one-lacking e cluster false is)

-- clusters that numbers stand for spell a text
pub spelled_text : (size : ℕ) (known places : Texts) (ns : List ℤ) (cs : List (List ℕ)) → IsKnowledge size known places → Represents known ns cs → IsText (text_of cs)
spelled_text size known places [] [] knows are = refl
spelled_text size known places [] (c ∷ cs) knows are = absurd are
spelled_text size known places (n ∷ ns) [] knows are = absurd are
spelled_text size known places (n ∷ ns) (c ∷ cs) knows are = scalars-append c (concat cs) (one n c are.0) (spelled_text size known places ns cs knows are.1)
  where
    scalars-append : (xs ys : List ℕ) → all_scalars xs ≡ true → all_scalars ys ≡ true → all_scalars (xs ++ ys) ≡ true
    scalars-append [] ys first second = second
    scalars-append (x ∷ xs) ys first second = let both = and_parts (is_scalar x) (all_scalars xs) first in and_from (is_scalar x) (all_scalars (xs ++ ys)) both.0 (scalars-append xs ys both.1 second)

    one : (n : ℤ) (c : List ℕ) → spelling known n ≡ Some c → all_scalars c ≡ true
    one (pos p) c e = let is = spelling-one known p c e in ap all_scalars is.1 ∙ and_from (is_scalar p) true is.0 refl
    one (negsuc m) c e = (knows.numbers m c e).1.text
