-- The front of a text that NFC leaves as it is.
use Rattle.std.proofs.Common.{◌≡◌, ℕ, zero, suc, ◌+◌, ◌-◌, ◌≤◌, Bool, true, ◌==◌, eqb-true, List, [], ◌∷◌, ◌++◌, length, take, drop, get_or, refl, sym, ap, ap₂, subst, ◌∙◌, arith, append-nil, take_all}
use Rattle.std.specs.List.{list_all}
use Rattle.std.proofs.lemmas.Bool.{and_parts, and_from}
use Rattle.std.proofs.lemmas.List.{take_more, drop_more, drop_all, take-append-drop}
use Rattle.unicode_normalization.specs.Forms.{Nfc, nfc}
use Rattle.unicode_normalization.proofs.FormsLemmas.{normalize-nil}
use Rattle.nfg_text.specs.Graphemes.{starts_safely}
use Rattle.nfg_text.proofs.SafeStart.{nfc_at_safe_start, safe_starts_stay}

-- a text of safe starts alone is in NFC
pub nfc-safe : (t : List ℕ) → list_all starts_safely t ≡ true → nfc t ≡ t
nfc-safe [] safe = normalize-nil Nfc
nfc-safe (c ∷ []) safe = safe_starts_stay c (and_parts (starts_safely c) (list_all starts_safely []) safe).0
nfc-safe (c ∷ d ∷ rest) safe =
    let first = and_parts (starts_safely c) (list_all starts_safely (d ∷ rest)) safe in
    let second = and_parts (starts_safely d) (list_all starts_safely rest) first.1 in
    nfc_at_safe_start (c ∷ []) d rest second.0 ∙ ap₂ ◌++◌ (safe_starts_stay c first.0) (nfc-safe (d ∷ rest) first.1)

all-append : (x y : List ℕ) → list_all starts_safely (x ++ y) ≡ true → (list_all starts_safely x ≡ true) × (list_all starts_safely y ≡ true)
all-append [] y safe = (refl, safe)
all-append (c ∷ x) y safe =
    let parts = and_parts (starts_safely c) (list_all starts_safely (x ++ y)) safe in
    let rest = all-append x y parts.1 in
    (and_from _ _ parts.0 rest.0, rest.1)

pub all-push : (x : List ℕ) (c : ℕ) → list_all starts_safely x ≡ true → starts_safely c ≡ true → list_all starts_safely (x ++ c ∷ []) ≡ true
all-push [] c safe one = and_from _ _ one refl
all-push (d ∷ x) c safe one =
    let parts = and_parts (starts_safely d) (list_all starts_safely x) safe in and_from _ _ parts.0 (all-push x c parts.1 one)

-- where all are safe starts
pub kept-whole : (t : List ℕ) (n : ℕ) → n ≡ length t → list_all starts_safely (take n t) ≡ true → nfc t ≡ take n t ++ nfc (drop n t)
kept-whole t n at safe =
    let whole : take n t ≡ t = take_all n t (omega arith) in
    let gone : drop n t ≡ [] = drop_all n t (omega arith) in
    nfc-safe t (ap (list_all starts_safely) (sym whole) ∙ safe) ∙ sym (append-nil t) ∙ ap₂ ◌++◌ (sym whole) (sym (ap nfc gone ∙ normalize-nil Nfc))

-- the last of them may compose with what follows
pub kept-before : (t : List ℕ) (n : ℕ) → n ≤ length t → list_all starts_safely (take n t) ≡ true → nfc t ≡ take (n - 1) t ++ nfc (drop (n - 1) t)
kept-before t zero within safe = refl
kept-before t (suc n) within safe =
    let c = get_or t n 0 in
    let front : take (suc n) t ≡ take n t ++ c ∷ [] = ap (λ k. take k t) suc_is ∙ take_more t n 0 (omega arith) in
    let parts = all-append (take n t) (c ∷ []) (ap (list_all starts_safely) (sym front) ∙ safe) in
    let one = (and_parts (starts_safely c) (list_all starts_safely []) parts.1).0 in
    let back : drop n t ≡ c ∷ drop (n + 1) t = drop_more t n 0 (omega arith) in
    let split : nfc t ≡ take n t ++ nfc (drop n t) =
    ap nfc (sym (take-append-drop n t)) ∙ ap (λ l. nfc (take n t ++ l)) back
    ∙ nfc_at_safe_start (take n t) c (drop (n + 1) t) one ∙ ap₂ ◌++◌ (nfc-safe (take n t) parts.0) (ap nfc (sym back)) in
    subst (λ k. nfc t ≡ take k t ++ nfc (drop k t)) less split
  where
    suc_is : suc n ≡ n + 1
    suc_is = omega arith

    less : n ≡ suc n - 1
    less = omega arith

-- an empty text adds nothing
pub append-nfc_empty : (front t : List ℕ) (none : Bool) → none ≡ (length t == 0) → none ≡ true → front ≡ front ++ nfc t
append-nfc_empty front [] none at empty = sym (append-nil front) ∙ ap (λ l. front ++ l) (sym (normalize-nil Nfc))
append-nfc_empty front (c ∷ t) none at empty = let some = eqb-true (length (c ∷ t)) 0 (sym at ∙ empty) in absurd (omega arith)
