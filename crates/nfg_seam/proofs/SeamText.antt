-- The text of a seam, and where a boundary is.
use Rattle.std.proofs.Common.{◌≡◌, ℕ, zero, suc, ◌+◌, ◌-◌, ◌<◌, ◌≤◌, ◌==◌, List, [], ◌∷◌, ◌++◌, length, take, drop, slice_range, reverse, slice_get, Some, Bool, true, false, not, ◌||◌, inl, inr, refl, sym, ap, subst, ◌∙◌, arith, append_assoc, append-nil, take-add}
use Rattle.std.specs.List.{list_all}
use Rattle.std.proofs.Math.ListN.{drop_of_length-le}
use Rattle.std.proofs.lemmas.Bool.{and_parts, and_from, both_ways, ne_eqb}
use Rattle.std.proofs.lemmas.List.{length-reverse, take-append-drop}
use Rattle.std.proofs.lemmas.List.Folds.{concat-append}
use Rattle.nfg_text.specs.Grapheme.{is_grapheme_break}
use Rattle.nfg_text.specs.Forms.{nfc}
use Rattle.nfg_text.specs.Graphemes.{clusters, IsInNfg}
use Rattle.nfg_text.specs.Segments.{cut}
use Rattle.nfg_text.specs.Laws.{BreaksBefore}
use Rattle.nfg_text.specs.Text.{text_of}
use Rattle.nfg_text.proofs.Proved.{broken_where_parted, graphemes_spell_nfc, parts_are_in_nfg, nfc_at_safe_start}
use Rattle.nfg_seam.specs.Seam.{begins_safely, BeginSafely, GoOnSafely}
use Rattle.nfg_seam.specs.SeamReads.{StartSafely, IsLeftEnd, is_unsafe}
use Rattle.nfg_seam.proofs.SeamReading.{drop-at}

-- nothing has no clusters
pub clusters-nil : clusters [] ≡ []
unfolding cut
clusters-nil = refl

-- before the first code point of all is a boundary, and else where the memory says so
pub boundary-before : (text : List ℕ) (code : ℕ) (first breaks : Bool) → first ≡ (length text == 0)
    → (0 < length (reverse text) → breaks ≡ is_grapheme_break true (reverse text) (code ∷ [])) → (first || breaks) ≡ true → BreaksBefore text code
boundary-before [] code first breaks is decides holds = broken_where_parted [] code [] (ap (λ cs. cs ++ clusters (code ∷ [])) (sym clusters-nil))
boundary-before (t ∷ text) code true breaks is decides holds =
    absurd (both_ways (length (t ∷ text) == 0) (ne_eqb (length (t ∷ text)) 0 (λ e. omega (arith, e))) (sym is))
boundary-before (t ∷ text) code false breaks is decides holds =
    let some : 0 < length (reverse (t ∷ text)) = omega (arith, length-reverse (t ∷ text)) in
    sym (decides some) ∙ holds

-- the text of a list of graphemes is in NFC
pub text-in_nfc : (list : List (List ℕ)) → IsInNfg list → nfc (text_of list) ≡ text_of list
text-in_nfc list nfg = sym (graphemes_spell_nfc (text_of list)) ∙ ap text_of (sym nfg)

-- composing goes on with a list of graphemes that starts safely by its text alone
pub composed-on : (x : List ℕ) (list : List (List ℕ)) → StartSafely list → IsInNfg list → nfc (x ++ text_of list) ≡ nfc x ++ text_of list
composed-on x [] safe nfg = ap nfc (append-nil x) ∙ sym (append-nil (nfc x))
composed-on x ([] ∷ list) never nfg = cc
composed-on x ((c ∷ cs) ∷ list) safe nfg =
    nfc_at_safe_start x c (cs ++ text_of list) safe ∙ ap (λ t. nfc x ++ t) (text-in_nfc ((c ∷ cs) ∷ list) nfg)

range-in_nfg : (list : List (List ℕ)) (start end : ℕ) → start ≤ end → IsInNfg list → IsInNfg (slice_range list start end)
range-in_nfg list start end low nfg =
    let whole : take start list ++ drop start list ≡ list = take-append-drop start list in
    let back = (parts_are_in_nfg (take start list) (drop start list) (subst IsInNfg (sym whole) nfg)).1 in
    let parts : take (end - start) (drop start list) ++ drop (end - start) (drop start list) ≡ drop start list = take-append-drop (end - start) (drop start list) in
    (parts_are_in_nfg (take (end - start) (drop start list)) (drop (end - start) (drop start list)) (subst IsInNfg (sym parts) back)).0

StartSafely-take : (n : ℕ) (list : List (List ℕ)) → StartSafely list → StartSafely (take n list)
StartSafely-take zero list safe = tt
StartSafely-take (suc n) [] safe = tt
StartSafely-take (suc n) (c ∷ list) safe = safe

front-parts : {A : Type 0} (xs : List A) (start end : ℕ) → start ≤ end → take end xs ≡ take start xs ++ slice_range xs start end
front-parts xs start end low =
    let both : end ≡ start + (end - start) = omega (arith, low) in
    ap (λ n. take n xs) both ∙ take-add start (end - start) xs

-- the text of a seam, composed up to the first place of b that begins safely, and then gone on with
pub seam-text : (x : List ℕ) (b : List (List ℕ)) (start right : ℕ) (joined composed text : List ℕ) → IsInNfg b → start ≤ right → StartSafely (drop start b)
    → joined ≡ x ++ text_of (take start b) → composed ≡ nfc joined → text ≡ composed ++ text_of (slice_range b start right)
    → text ≡ nfc (x ++ text_of (take right b))
seam-text x b start right joined composed text nfg low safe is_joined is_composed is_text =
    let front = text_of (take start b) in
    let range = slice_range b start right in
    let spelled : text_of (take right b) ≡ front ++ text_of range = ap text_of (front-parts b start right low) ∙ concat-append (take start b) range in
    is_text ∙ ap (λ t. t ++ text_of range) (is_composed ∙ ap nfc is_joined)
    ∙ sym (composed-on (x ++ front) range (StartSafely-take (right - start) (drop start b) safe) (range-in_nfg b start right low nfg))
    ∙ ap nfc (append_assoc x front (text_of range) ∙ ap (λ t. x ++ t) (sym spelled))

-- one more cluster from the end on does not begin safely
pub unsafe-more : (list : List (List ℕ)) (k left : ℕ) (cluster : List ℕ) → left ≡ suc k → slice_get list k ≡ Some cluster → begins_safely cluster ≡ false
    → list_all is_unsafe (drop left list) ≡ true → list_all is_unsafe (drop k list) ≡ true
unsafe-more list k left cluster is e fails behind =
    ap (list_all is_unsafe) (drop-at list k cluster e)
    ∙ and_from (is_unsafe cluster) (list_all is_unsafe (drop (suc k) list)) (ap not fails) (ap (λ n. list_all is_unsafe (drop n list)) (sym is) ∙ behind)

-- or it does, and then it is the left end
pub left-found : (list : List (List ℕ)) (k left : ℕ) (cluster : List ℕ) → left ≡ suc k → slice_get list k ≡ Some cluster → begins_safely cluster ≡ true
    → list_all is_unsafe (drop left list) ≡ true → IsLeftEnd list k
left-found list k left cluster is e holds behind = record {
  start = inr (subst BeginSafely (sym (drop-at list k cluster e)) holds);
  last = ap (λ n. list_all is_unsafe (drop n list)) (sym is) ∙ behind;
}

unsafe-rest : (list : List (List ℕ)) → list_all is_unsafe list ≡ true → list_all is_unsafe (drop 1 list) ≡ true
unsafe-rest [] all = refl
unsafe-rest (c ∷ list) all = (and_parts (is_unsafe c) (list_all is_unsafe list) all).1

pub left-none : (list : List (List ℕ)) (left : ℕ) → left ≡ 0 → list_all is_unsafe (drop left list) ≡ true → IsLeftEnd list 0
left-none list left none all = record {
  start = inl refl;
  last = unsafe-rest list (ap (λ n. list_all is_unsafe (drop n list)) (sym none) ∙ all);
}

pub unsafe-none : (list : List (List ℕ)) (n : ℕ) → length list ≤ n → list_all is_unsafe (drop n list) ≡ true
unsafe-none list n past = ap (list_all is_unsafe) (drop_of_length-le list past)

pub safe-found : (list : List (List ℕ)) (k : ℕ) (cluster : List ℕ) → slice_get list k ≡ Some cluster → begins_safely cluster ≡ true → StartSafely (drop k list)
safe-found list k cluster e holds = subst StartSafely (sym (drop-at list k cluster e)) holds

pub safe-none : (list : List (List ℕ)) (n : ℕ) → length list ≤ n → StartSafely (drop n list)
safe-none list n past = subst StartSafely (sym (drop_of_length-le list past)) tt

-- all text of a list is added at its end
pub text-whole : (into all : List ℕ) (list : List (List ℕ)) (n : ℕ) → length list ≤ n → into ++ text_of (drop n list) ≡ all → into ≡ all
text-whole into all list n past e =
    sym (append-nil into) ∙ ap (λ cs. into ++ text_of cs) (sym (drop_of_length-le list past)) ∙ e

pub boundary-at : (text : List ℕ) (list : List (List ℕ)) (k : ℕ) (cluster : List ℕ) → slice_get list k ≡ Some cluster
    → GoOnSafely text (cluster ∷ drop (suc k) list) → GoOnSafely text (drop k list)
boundary-at text list k cluster e goes = subst (GoOnSafely text) (sym (drop-at list k cluster e)) goes

pub boundary-none : (text : List ℕ) (list : List (List ℕ)) (n : ℕ) → length list ≤ n → GoOnSafely text (drop n list)
boundary-none text list n past = subst (GoOnSafely text) (sym (drop_of_length-le list past)) tt

-- a text that is added to nothing in two parts
pub joined-is : (none first both x y : List ℕ) → none ≡ [] → first ≡ none ++ x → both ≡ first ++ y → both ≡ x ++ y
joined-is none first both x y is one two = two ∙ ap (λ t. t ++ y) (one ∙ ap (λ t. t ++ x) is)
