-- Parts joined one after the other, each with a separator behind it.
use Rattle.std.proofs.Common.{◌≡◌, ℕ, zero, suc, ◌+◌, ◌-◌, ◌<◌, ◌≤◌, List, [], ◌∷◌, ◌++◌, map, length, take, drop, slice_get, slice_index_or, Some, Result, Ok, Err, OnOk, true, ℤ, refl, sym, ap, ◌∙◌, append_assoc, append-nil, length-append, arith}
use Rattle.std.specs.List.{join_with_byte, flat_map}
use Rattle.std.proofs.Math.Seq.{take-append_seam}
use Rattle.std.proofs.lemmas.List.Concat.{flat_map-append}
use Rattle.std.specs.Fmt.{digits}
use Rattle.std.specs.declared.alloc.AllocError.{AllocError}
use Rattle.nfg_work.specs.Printing.{shown, shown_cluster}
use Rattle.nfg_work.specs.Separated.{shown_with_space}
use Rattle.nfg_syn.specs.Known.{Texts}
use Rattle.nfg_syn.specs.Represents.{Represents, spelling}

-- the part, and the separator behind it
abbrev pub closed : {X : Type 0} → ℕ → (X → List ℕ) → X → List ℕ
closed c f x = f x ++ c ∷ []

-- the parts before the last are closed
pub join-last : {X : Type 0} (c : ℕ) (f : X → List ℕ) (xs : List X) (i : ℕ) (x : X) → slice_get xs i ≡ Some x → i + 1 ≡ length xs
    → flat_map (closed c f) (take i xs) ++ f x ≡ join_with_byte c (map f xs)
join-last c f [] i x at last = cc
join-last c f (y ∷ []) zero x at last = let same : y ≡ x = cc in ap f (sym same)
join-last c f (y ∷ []) (suc i) x at last = absurd (omega (arith, last))
join-last c f (y ∷ z ∷ xs) zero x at last = absurd (omega (arith, last))
join-last c f (y ∷ z ∷ xs) (suc i) x at last =
    let rest = join-last c f (z ∷ xs) i x at (omega (arith, last)) in
    append_assoc (f y ++ c ∷ []) (flat_map (closed c f) (take i (z ∷ xs))) (f x)
    ∙ append_assoc (f y) (c ∷ []) (flat_map (closed c f) (take i (z ∷ xs)) ++ f x)
    ∙ ap (λ v. f y ++ (c ∷ v)) rest

-- closed parts are joined ones, closed
pub join-closed : {X : Type 0} (c : ℕ) (f : X → List ℕ) (x : X) (xs : List X)
    → flat_map (closed c f) (x ∷ xs) ≡ join_with_byte c (map f (x ∷ xs)) ++ c ∷ []
join-closed c f x [] = append-nil (f x ++ c ∷ [])
join-closed c f x (y ∷ xs) =
    append_assoc (f x) (c ∷ []) (flat_map (closed c f) (y ∷ xs))
    ∙ ap (λ v. f x ++ (c ∷ v)) (join-closed c f y xs)
    ∙ sym (append_assoc (f x) (c ∷ join_with_byte c (map f (y ∷ xs))) (c ∷ []))

pub take-push : {X : Type 0} (xs : List X) (i : ℕ) (x : X) → slice_get xs i ≡ Some x → take (i + 1) xs ≡ take i xs ++ x ∷ []
take-push [] i x e = cc
take-push (y ∷ xs) zero x e = let same : y ≡ x = cc in ap (λ v. v ∷ []) same
take-push (y ∷ xs) (suc i) x e =
    let more : suc i + 1 ≡ suc (i + 1) = omega arith in
    ap (λ k. take k (y ∷ xs)) more ∙ ap (λ v. y ∷ v) (take-push xs i x e)

pub take-whole : {X : Type 0} (xs : List X) (n : ℕ) → length xs ≤ n → take n xs ≡ xs
take-whole [] zero le = refl
take-whole [] (suc n) le = refl
take-whole (x ∷ xs) zero le = absurd (omega (arith, le))
take-whole (x ∷ xs) (suc n) le = ap (λ v. x ∷ v) (take-whole xs n (omega (arith, le)))

take-none : {X : Type 0} (n : ℕ) → take n (let none : List X = [] in none) ≡ []
take-none zero = refl
take-none (suc n) = refl

-- n more of a list after its first i
pub take-more : {X : Type 0} (xs : List X) (i n : ℕ) → take (i + n) xs ≡ take i xs ++ take n (drop i xs)
take-more xs zero n = let e : 0 + n ≡ n = omega arith in ap (λ k. take k xs) e
take-more [] (suc i) n = take-none (suc i + n) ∙ sym (take-none n)
take-more (x ∷ xs) (suc i) n = let e : suc i + n ≡ suc (i + n) = omega arith in ap (λ k. take k (x ∷ xs)) e ∙ ap (λ v. x ∷ v) (take-more xs i n)

-- one more element is printed
pub mapped-next : {X : Type 0} (f : X → List ℕ) (xs : List X) (i : ℕ) (x : X) (start old new : List ℕ) → slice_get xs i ≡ Some x
    → old ≡ start ++ flat_map f (take i xs) → new ≡ old ++ f x → new ≡ start ++ flat_map f (take (i + 1) xs)
mapped-next f xs i x start old new at old_is new_is =
    new_is ∙ ap (λ v. v ++ f x) old_is ∙ append_assoc start (flat_map f (take i xs)) (f x)
    ∙ ap (λ v. start ++ v) (sym (ap (flat_map f) (take-push xs i x at) ∙ flat_map-append f (take i xs) (x ∷ []) ∙ ap (λ v. flat_map f (take i xs) ++ v) (append-nil (f x))))

-- n more elements are printed
pub mapped-more : {X : Type 0} (f : X → List ℕ) (xs : List X) (i n : ℕ) (start old new : List ℕ)
    → old ≡ start ++ flat_map f (take i xs) → new ≡ old ++ flat_map f (take n (drop i xs)) → new ≡ start ++ flat_map f (take (i + n) xs)
mapped-more f xs i n start old new old_is new_is =
    new_is ∙ ap (λ v. v ++ flat_map f (take n (drop i xs))) old_is ∙ append_assoc start (flat_map f (take i xs)) (flat_map f (take n (drop i xs)))
    ∙ ap (λ v. start ++ v) (sym (ap (flat_map f) (take-more xs i n) ∙ flat_map-append f (take i xs) (take n (drop i xs))))

-- the cluster at a place, and that the number there spells it
pub record IsSpelledAt (known : Texts) (n : ℤ) (clusters : List (List ℕ)) (i : ℕ) : Type 0 where
  pub cluster : List ℕ
  pub at : slice_get clusters i ≡ Some cluster
  pub spelled : spelling known n ≡ Some cluster

pub spelled_at : (known : Texts) (ns : List ℤ) (clusters : List (List ℕ)) (i : ℕ) (n : ℤ) → Represents known ns clusters
    → slice_get ns i ≡ Some n → IsSpelledAt known n clusters i
spelled_at known [] clusters i n are e = cc
spelled_at known (m ∷ ns) [] i n are e = absurd are
spelled_at known (m ∷ ns) (c ∷ clusters) zero n are e =
    let same : m ≡ n = cc in record { cluster = c; at = refl; spelled = ap (spelling known) (sym same) ∙ are.0 }
spelled_at known (m ∷ ns) (c ∷ clusters) (suc i) n are e =
    let rest = spelled_at known ns clusters i n are.1 e in
    record { cluster = rest.cluster; at = rest.at; spelled = rest.spelled }

pub slice_get-read : (xs : List ℕ) (i d : ℕ) → i < length xs → slice_get xs i ≡ Some (slice_index_or xs i d)
slice_get-read [] i d within = absurd (omega (arith, within))
slice_get-read (x ∷ xs) zero d within = refl
slice_get-read (x ∷ xs) (suc i) d within = slice_get-read xs i d (omega (arith, within))

-- the last code point ends a cluster
pub shown-last : (cluster : List ℕ) (k : ℕ) (start old new : List ℕ) (result : Result (Unit {0}) AllocError)
    → old ≡ start ++ flat_map (closed 43 (digits 16 true)) (take k cluster) → length cluster - 1 ≤ k → k < length cluster
    → OnOk result (new ≡ old ++ (digits 16 true (slice_index_or cluster (length cluster - 1) 0) ++ 32 ∷ []))
    → OnOk result (new ≡ start ++ shown_with_space cluster)
shown-last cluster k start old new (Ok done) old_is high low new_is =
    let k_is : length cluster - 1 ≡ k = omega (arith, high, low) in
    let x = slice_index_or cluster k 0 in
    let at = slice_get-read cluster k 0 low in
    let whole = join-last 43 (digits 16 true) cluster k x at (omega (arith, high, low)) in
    new_is ∙ ap (λ i. old ++ (digits 16 true (slice_index_or cluster i 0) ++ 32 ∷ [])) k_is ∙ ap (λ v. v ++ (digits 16 true x ++ 32 ∷ [])) old_is
    ∙ append_assoc start (flat_map (closed 43 (digits 16 true)) (take k cluster)) (digits 16 true x ++ 32 ∷ [])
    ∙ ap (λ v. start ++ v) (sym (append_assoc (flat_map (closed 43 (digits 16 true)) (take k cluster)) (digits 16 true x) (32 ∷ [])) ∙ ap (λ v. v ++ 32 ∷ []) whole)
shown-last cluster k start old new (Err e) old_is high low new_is = tt

-- closed clusters without the last space are a line
pub line-cut : (start : List ℕ) (clusters : List (List ℕ)) (old : List ℕ) (had : ℕ) → length start ≡ had → old ≡ start ++ flat_map shown_with_space clusters
    → had < length old → take (length old - 1) old ≡ start ++ shown clusters
line-cut start [] old had had_is old_is more = absurd (let long = ap length old_is ∙ length-append start [] in omega (arith, long, had_is, more))
line-cut start (c ∷ clusters) old had had_is old_is more =
    let text = shown (c ∷ clusters) in
    let parts : old ≡ (start ++ text) ++ 32 ∷ [] = old_is ∙ ap (λ v. start ++ v) (join-closed 32 shown_cluster c clusters) ∙ sym (append_assoc start text (32 ∷ [])) in
    let long : length old - 1 ≡ length (start ++ text) = (let l : length old ≡ length (start ++ text) + 1 = ap length parts ∙ length-append (start ++ text) (32 ∷ []) in omega (arith, l)) in
    (λ i. take (long i) (parts i)) ∙ take-append_seam (start ++ text) (32 ∷ [])

pub line-none : (start : List ℕ) (clusters : List (List ℕ)) (old : List ℕ) (had : ℕ) → length start ≡ had → old ≡ start ++ flat_map shown_with_space clusters
    → length old ≤ had → old ≡ start ++ shown clusters
line-none start [] old had had_is old_is less = old_is
line-none start (c ∷ clusters) old had had_is old_is less =
    let long = ap length old_is ∙ length-append start (flat_map shown_with_space (c ∷ clusters)) in
    let closed_is = ap length (join-closed 32 shown_cluster c clusters) ∙ length-append (shown (c ∷ clusters)) (32 ∷ []) in
    absurd (omega (arith, long, closed_is, had_is, less))
