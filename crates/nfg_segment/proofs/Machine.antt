-- The open cluster and the code points that follow, one after another.
use Rattle.std.proofs.Common.{◌≡◌, ℕ, zero, suc, ◌+◌, ◌<◌, List, [], ◌∷◌, ◌++◌, take, length, get_or, refl, sym, ap, ◌∙◌, append_assoc, append-nil, arith}
use Rattle.std.proofs.lemmas.List.{take_more}
use Rattle.nfg_segment.specs.Given.{Given, with_cluster, with_clusters}
use Rattle.nfg_segment.specs.Held.{next, next_all, closed, closed_all}

pub next_all-push : (k xs : List ℕ) (c : ℕ) → next_all k (xs ++ c ∷ []) ≡ next (next_all k xs) c
next_all-push k [] c = refl
next_all-push k (x ∷ xs) c = next_all-push (next k x) xs c

pub closed_all-push : (k xs : List ℕ) (c : ℕ) → closed_all k (xs ++ c ∷ []) ≡ closed_all k xs ++ closed (next_all k xs) c
closed_all-push k [] c = append-nil (closed k c)
closed_all-push k (x ∷ xs) c =
    ap (λ l. closed k x ++ l) (closed_all-push (next k x) xs c)
    ∙ sym (append_assoc (closed k x) (closed_all (next k x) xs) (closed (next_all (next k x) xs) c))

pub with_clusters-append : (g : Given) (a b : List (List ℕ)) → with_clusters g (a ++ b) ≡ with_clusters (with_clusters g a) b
with_clusters-append g [] b = refl
with_clusters-append g (c ∷ cs) b = with_clusters-append (with_cluster g c) cs b

get_or-within : (codes : List ℕ) (i d e : ℕ) → i < length codes → get_or codes i d ≡ get_or codes i e
get_or-within [] i d e h = absurd (omega arith)
get_or-within (c ∷ cs) zero d e h = refl
get_or-within (c ∷ cs) (suc i) d e h = get_or-within cs i d e (omega arith)

-- one code point more of those that follow
pub next_all-more : (k codes : List ℕ) (i x d : ℕ) → i < length codes → x ≡ get_or codes i d → next (next_all k (take i codes)) x ≡ next_all k (take (i + 1) codes)
next_all-more k codes i x d within e =
    ap (next (next_all k (take i codes))) (e ∙ get_or-within codes i d 0 within)
    ∙ sym (ap (next_all k) (take_more codes i 0 within) ∙ next_all-push k (take i codes) (get_or codes i 0))

pub closed_all-more : (g out last : Given) (k codes : List ℕ) (i x d : ℕ) → i < length codes → x ≡ get_or codes i d → out ≡ with_clusters g (closed_all k (take i codes))
    → last ≡ with_clusters out (closed (next_all k (take i codes)) x) → last ≡ with_clusters g (closed_all k (take (i + 1) codes))
closed_all-more g out last k codes i y d within e so_far step =
    let x = get_or codes i 0 in
    let k_now = next_all k (take i codes) in
    step ∙ ap (λ z. with_clusters out (closed k_now z)) (e ∙ get_or-within codes i d 0 within)
    ∙ ap (λ o. with_clusters o (closed k_now x)) so_far
    ∙ sym (with_clusters-append g (closed_all k (take i codes)) (closed k_now x))
    ∙ ap (with_clusters g) (sym (ap (closed_all k) (take_more codes i 0 within) ∙ closed_all-push k (take i codes) x))
