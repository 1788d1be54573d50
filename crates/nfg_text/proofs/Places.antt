-- The offsets at which the parts of a list end, found place by place.
use Rattle.std.proofs.Common.{◌≡◌, ◌≢◌, ℕ, ◌+◌, ◌<◌, suc, Bool, true, false, ◌&&◌, List, [], ◌∷◌, ◌++◌, zero, ◌≤◌, nat_lt, not, ◌==◌, ne_eqb, get_or, take, drop, reverse, length, if◌then◌else◌, refl, sym, ap, ap₂, ◌∙◌, arith, append_assoc, append-nil, take_all, lt-ltb}
use Rattle.std.proofs.lemmas.Bool.{ltb-true}
use Rattle.std.proofs.lemmas.List.{reverse-append, take_more, drop_more, drop_all, length-reverse, length-take-le}
use Rattle.unicode_segmentation.specs.Segments.{Rule, prepend, cut}
use Rattle.nfg_text.specs.Graphemes.{ends_from}
use Rattle.nfg_text.proofs.Cuts.{put_first, put_first-nil, cut-cons, cut-nil, cut_some}

-- whether the list has an element
abbrev pub is_some_list : List ℕ → Bool
is_some_list [] = false
is_some_list (c ∷ cs) = true

-- the ends from place n on, where `before` stands before the place: the rule is asked between two code points, and the text ends
unfoldable pub places : Rule → ℕ → List ℕ → List ℕ → List ℕ
places rule n [] [] = []
places rule n (b ∷ before) [] = n ∷ []
places rule n before (c ∷ cs) =
    let rest = places rule (n + 1) (c ∷ before) cs in if is_some_list before && rule before (c ∷ cs) then n ∷ rest else rest

ends_from-prepend : (n c : ℕ) (ps : List (List ℕ)) → ps ≢ [] → ends_from n (prepend (c ∷ []) ps) ≡ ends_from (n + 1) ps
ends_from-prepend n c [] some = absurd (some refl)
ends_from-prepend n c (p ∷ ps) some = let e : n + length (c ∷ p) ≡ n + 1 + length p = omega arith in ap (λ m. m ∷ ends_from m ps) e

pub ends_from-cut : (rule : Rule) → ((c : ℕ) (before : List ℕ) → rule (c ∷ before) [] ≡ true) → (n : ℕ) (before : List ℕ) (c : ℕ) (cs : List ℕ) → ends_from n (cut rule before (c ∷ cs) []) ≡ places rule (n + 1) (c ∷ before) cs
unfolding places
ends_from-cut rule last n before c [] =
    ap (ends_from n) (cut-cons rule before c [] [] ∙ ap (put_first _ (c ∷ [])) (cut-nil rule (c ∷ before) []) ∙ put_first-nil _ (c ∷ []))
ends_from-cut rule last n before c (d ∷ ds) =
    ap (ends_from n) (cut-cons rule before c (d ∷ ds) [] ∙ ap (λ l. put_first (rule (c ∷ before) l) (c ∷ []) (cut rule (c ∷ before) (d ∷ ds) [])) (append-nil (d ∷ ds)))
    ∙ split (rule (c ∷ before) (d ∷ ds)) (ends_from-cut rule last (n + 1) (c ∷ before) d ds)
  where
    split : (b : Bool) → ends_from (n + 1) (cut rule (c ∷ before) (d ∷ ds) []) ≡ places rule (n + 1 + 1) (d ∷ (c ∷ before)) ds
        → ends_from n (put_first b (c ∷ []) (cut rule (c ∷ before) (d ∷ ds) [])) ≡ (let rest = places rule (n + 1 + 1) (d ∷ (c ∷ before)) ds in if b then (n + 1) ∷ rest else rest)
    split true ih = ap (λ l. (n + 1) ∷ l) ih
    split false ih = ends_from-prepend n c _ (cut_some rule (c ∷ before) d ds []) ∙ ih

pub places-cons : (rule : Rule) (n : ℕ) (before : List ℕ) (c : ℕ) (cs : List ℕ) → places rule n before (c ∷ cs) ≡ (let rest = places rule (n + 1) (c ∷ before) cs in if is_some_list before && rule before (c ∷ cs) then n ∷ rest else rest)
unfolding places
places-cons rule n [] c cs = refl
places-cons rule n (b ∷ before) c cs = refl

pub places-end : (rule : Rule) (n : ℕ) (before : List ℕ) → places rule n before [] ≡ (if is_some_list before then n ∷ [] else [])
unfolding places
places-end rule n [] = refl
places-end rule n (b ∷ before) = refl

is_some_list-append : (xs : List ℕ) (c : ℕ) → is_some_list (xs ++ c ∷ []) ≡ true
is_some_list-append [] c = refl
is_some_list-append (x ∷ xs) c = refl

is_some_list-reverse : (xs : List ℕ) → is_some_list (reverse xs) ≡ is_some_list xs
is_some_list-reverse [] = refl
is_some_list-reverse (x ∷ xs) = ap is_some_list (reverse-append (x ∷ []) xs) ∙ is_some_list-append (reverse xs) x

is_some_list-take : (i : ℕ) (t : List ℕ) → i ≤ length t → is_some_list (take i t) ≡ nat_lt 0 i
is_some_list-take zero t h = refl
is_some_list-take (suc i) [] h = absurd (omega arith)
is_some_list-take (suc i) (c ∷ cs) h = sym (lt-ltb 0 (suc i) (omega arith))

pub places-start : (rule : Rule) → ((c : ℕ) (before : List ℕ) → rule (c ∷ before) [] ≡ true) → (t : List ℕ) → places rule 0 [] t ≡ ends_from 0 (cut rule [] t [])
unfolding places
places-start rule last [] = ap (ends_from 0) (sym (cut-nil rule [] []))
places-start rule last (c ∷ cs) = sym (ends_from-cut rule last 0 [] c cs)

push_or : (b : Bool) (ends rest : List ℕ) (n : ℕ) → ends ++ (if b then n ∷ rest else rest) ≡ (if b then ends ++ n ∷ [] else ends) ++ rest
push_or true ends rest n = sym (append_assoc ends (n ∷ []) rest)
push_or false ends rest n = refl

same_and : (a b c : Bool) → (a ≡ true → b ≡ c) → (a && b) ≡ (a && c)
same_and true b c h = h refl
same_and false b c h = refl

pub reverse-take-more : (t : List ℕ) (i : ℕ) → i < length t → reverse (take (i + 1) t) ≡ get_or t i 0 ∷ reverse (take i t)
reverse-take-more t i within = ap reverse (take_more t i 0 within) ∙ reverse-append (take i t) (get_or t i 0 ∷ [])

is_some_list-length : (t : List ℕ) → is_some_list t ≡ not (length t == 0)
is_some_list-length [] = refl
is_some_list-length (c ∷ cs) = sym (ap not (ne_eqb (length (c ∷ cs)) 0 (λ e. omega arith)))

-- one step of a loop over the places
pub places-step : (rule : Rule) (t ends next all : List ℕ) (i : ℕ) (b : Bool) → i < length t
    → (nat_lt 0 i ≡ true → b ≡ rule (reverse (take i t)) (get_or t i 0 ∷ drop (i + 1) t))
    → next ≡ (if nat_lt 0 i && b then ends ++ i ∷ [] else ends)
    → ends ++ places rule i (reverse (take i t)) (drop i t) ≡ all
    → next ++ places rule (i + 1) (reverse (take (i + 1) t)) (drop (i + 1) t) ≡ all
places-step rule t ends next all i b within decides pushed so_far =
    let before = reverse (take i t) in
    let c = get_or t i 0 in
    let after = drop (i + 1) t in
    let rest = places rule (i + 1) (c ∷ before) after in
    let back = reverse-take-more t i within in
    let some : is_some_list before ≡ nat_lt 0 i = is_some_list-reverse (take i t) ∙ is_some_list-take i t (omega arith) in
    let test : (is_some_list before && rule before (c ∷ after)) ≡ (nat_lt 0 i && b) =
    ap (λ x. x && rule before (c ∷ after)) some ∙ sym (same_and (nat_lt 0 i) b (rule before (c ∷ after)) decides) in
    ap₂ (λ x l. x ++ places rule (i + 1) l after) pushed back
    ∙ sym (push_or (nat_lt 0 i && b) ends rest i)
    ∙ ap (λ x. ends ++ (if x then i ∷ rest else rest)) (sym test)
    ∙ ap (λ l. ends ++ l) (sym (places-cons rule i before c after))
    ∙ ap (λ l. ends ++ places rule i before l) (sym (drop_more t i 0 within))
    ∙ so_far

pub places-finish : (rule : Rule) (t ends next all : List ℕ) (i : ℕ) (none : Bool) → i ≡ length t → none ≡ (length t == 0)
    → next ≡ (if not none then ends ++ length t ∷ [] else ends)
    → ends ++ places rule i (reverse (take i t)) (drop i t) ≡ all
    → next ≡ all
places-finish rule t ends next all i none at tested pushed so_far =
    let gone : drop i t ≡ [] = drop_all i t (omega arith) in
    let whole : take i t ≡ t = take_all i t (omega arith) in
    sym (append-nil next) ∙ ap (λ l. l ++ []) (pushed ∙ ap₂ (λ b n. if not b then ends ++ n ∷ [] else ends) tested (sym at))
    ∙ sym (push_or (not (length t == 0)) ends [] i)
    ∙ ap (λ b. ends ++ (if b then i ∷ [] else [])) (sym (is_some_list-length t) ∙ sym (is_some_list-reverse t))
    ∙ ap (λ l. ends ++ l) (sym (places-end rule i (reverse t)))
    ∙ ap₂ (λ l r. ends ++ places rule i (reverse l) r) (sym whole) (sym gone)
    ∙ so_far

pub length-reverse-take : (t : List ℕ) (i : ℕ) → i < length t → nat_lt 0 i ≡ true → 0 < length (reverse (take i t))
length-reverse-take t i within some =
    let lt = ltb-true 0 i some in omega (arith, length-reverse (take i t), length-take-le i t (omega arith))
