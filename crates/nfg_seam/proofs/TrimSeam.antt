-- What a concatenation keeps of both sides, by their seam.
use Rattle.std.proofs.Common.{◌≡◌, ℕ, zero, suc, ◌+◌, ◌-◌, min, true, false, not, List, [], ◌∷◌, ◌++◌, length, take, drop, reverse, bytes_eq, refl, sym, ap, ap₂, subst, ◌∙◌, arith, append_assoc, length-append, length-drop}
use Rattle.std.proofs.lemmas.Bool.{and_parts, both_ways, false_from_ne_true}
use Rattle.std.proofs.lemmas.List.{take-append-drop, take-append-le, drop-append-le, drop-drop, length-take-le, length-reverse, reverse-append}
use Rattle.std.proofs.lemmas.List.Sums.{common_prefix_len-le}
use Rattle.std.proofs.lemmas.Slice.Eq.{bytes_eq-Decides}
use Rattle.std.proofs.Math.Seq.{drop-append-add}
use Rattle.std.specs.List.{common_prefix_len, list_all}
use Rattle.nfg_text.specs.Forms.{nfc}
use Rattle.nfg_text.specs.Graphemes.{clusters, IsInNfg}
use Rattle.nfg_text.specs.Operations.{concatenation}
use Rattle.nfg_text.specs.Splice.{splice, shared_front, shared_back}
use Rattle.nfg_text.specs.Text.{text_of}
use Rattle.nfg_text.proofs.Proved.{clusters_spell_text, nfc_is_some, parts_are_in_nfg}
use Rattle.nfg_seam.specs.Seam.{begins_safely, GoOnSafely, IsSeam}
use Rattle.nfg_seam.specs.SeamReads.{StartSafely, is_unsafe}
use Rattle.nfg_seam.specs.declared.seam.Seam.{Seam}
use Rattle.nfg_seam.proofs.ConcatLaw.{concatenation-seam, clusters-text}
use Rattle.nfg_seam.proofs.SeamText.{clusters-nil}
use Rattle.nfg_seam.proofs.TrimLists.{front-keep, front-stops, front-bounded, three-parts}

same_bytes : (c : List ℕ) → bytes_eq c c ≡ true
same_bytes c = (bytes_eq-Decides c c).1 refl

unsafe-drop : (list : List (List ℕ)) (n : ℕ) → list_all is_unsafe list ≡ true → list_all is_unsafe (drop n list) ≡ true
unsafe-drop list zero all = all
unsafe-drop [] (suc n) all = refl
unsafe-drop (c ∷ list) (suc n) all = unsafe-drop list n (and_parts (is_unsafe c) (list_all is_unsafe list) all).1

-- clusters that don't begin safely have nothing in common with those that do
unsafe-apart : (xs ys : List (List ℕ)) → list_all is_unsafe xs ≡ true → StartSafely ys → common_prefix_len bytes_eq xs ys ≡ 0
unsafe-apart [] ys all safe = refl
unsafe-apart (x ∷ xs) [] all safe = refl
unsafe-apart (x ∷ xs) (y ∷ ys) all safe =
    let first = (and_parts (is_unsafe x) (list_all is_unsafe xs) all).0 in
    let apart : bytes_eq x y ≡ false =
    false_from_ne_true (bytes_eq x y) (λ same.
    let is = (bytes_eq-Decides x y).0 same in
    both_ways (not (begins_safely x)) (ap (λ c. not (begins_safely c)) is ∙ ap not safe) first) in
    rw apart refl

starts-safely : (text : List ℕ) (list : List (List ℕ)) → GoOnSafely text list → StartSafely list
starts-safely text [] goes = tt
starts-safely text ([] ∷ list) never = absurd never
starts-safely text ((c ∷ cs) ∷ list) goes = goes.0

-- nothing composes to nothing alone
nothing-composed : (t : List ℕ) → nfc t ≡ [] → t ≡ []
nothing-composed [] none = refl
nothing-composed (c ∷ cs) none = absurd (nfc_is_some c cs none)

first-nothing : (x y : List ℕ) → x ++ y ≡ [] → x ≡ []
first-nothing [] y none = refl
first-nothing (c ∷ x) y none = cc

-- where a seam has no cluster, it takes none of a
nothing-taken : (a b : List (List ℕ)) (seam : Seam) → IsInNfg a → IsSeam a b seam → clusters seam.text ≡ [] → drop seam.left a ≡ []
nothing-taken a b seam nfg is none =
    let text : seam.text ≡ [] = sym (clusters_spell_text seam.text) ∙ ap text_of none in
    let middle = nothing-composed (text_of (drop seam.left a) ++ text_of (take seam.right b)) (sym is.text ∙ text) in
    let front = first-nothing (text_of (drop seam.left a)) (text_of (take seam.right b)) middle in
    let back = (parts_are_in_nfg (take seam.left a) (drop seam.left a) (subst IsInNfg (sym (take-append-drop seam.left a)) nfg)).1 in
    sym (clusters-text (drop seam.left a) back) ∙ ap clusters front ∙ clusters-nil

-- behind the clusters of the seam, a and the concatenation go on apart
goes-apart : (a b : List (List ℕ)) (seam : Seam) (cs : List (List ℕ)) → IsInNfg a → IsSeam a b seam → clusters seam.text ≡ cs
    → common_prefix_len bytes_eq (drop (length cs) (drop seam.left a)) (drop seam.right b) ≡ 0
goes-apart a b seam [] nfg is none =
    ap (λ l. common_prefix_len bytes_eq l (drop seam.right b)) (nothing-taken a b seam nfg is none)
goes-apart a b seam (c ∷ cs) nfg is some =
    let behind : drop (length (c ∷ cs)) (drop seam.left a) ≡ drop (length cs) (drop (suc seam.left) a) =
    drop-drop (length (c ∷ cs)) seam.left a ∙ ap (λ n. drop n a) (omega arith) ∙ sym (drop-drop (length cs) (suc seam.left) a) in
    ap (λ l. common_prefix_len bytes_eq l (drop seam.right b)) behind
    ∙ unsafe-apart (drop (length cs) (drop (suc seam.left) a)) (drop seam.right b) (unsafe-drop (drop (suc seam.left) a) (length cs) is.last)
    (starts-safely seam.text (drop seam.right b) is.right)

-- how many clusters of the seam are those of a, and how many of the others are those of b
abbrev pub kept_front : (a : List (List ℕ)) (left : ℕ) (middle : List (List ℕ)) → ℕ
kept_front a left middle = common_prefix_len bytes_eq (drop left a) middle

abbrev pub kept_back : (b : List (List ℕ)) (right : ℕ) (middle : List (List ℕ)) (front : ℕ) → ℕ
kept_back b right middle front =
    min (common_prefix_len bytes_eq (reverse (take right b)) (reverse middle)) (length middle - front)

front-seam : (a b : List (List ℕ)) (seam : Seam) → IsInNfg a → IsInNfg b → IsSeam a b seam
    → shared_front a (concatenation a b) ≡ seam.left + kept_front a seam.left (clusters seam.text)
front-seam a b seam nfg_a nfg_b is =
    let cs = clusters seam.text in
    ap₂ shared_front (sym (take-append-drop seam.left a)) (concatenation-seam a b seam nfg_a nfg_b is)
    ∙ front-keep bytes_eq same_bytes (take seam.left a) (drop seam.left a) (cs ++ drop seam.right b)
    ∙ ap₂ (λ m n. m + n) (length-take-le seam.left a is.left_within)
    (front-stops bytes_eq (drop seam.left a) cs (drop seam.right b) (λ whole. goes-apart a b seam cs nfg_a is refl))

reverse-three : {X : Type 0} (x y z : List X) → reverse (x ++ (y ++ z)) ≡ reverse z ++ (reverse y ++ reverse x)
reverse-three x y z =
    reverse-append x (y ++ z) ∙ ap (λ t. t ++ reverse x) (reverse-append y z) ∙ append_assoc (reverse z) (reverse y) (reverse x)

back-seam : (a b : List (List ℕ)) (seam : Seam) → IsInNfg a → IsInNfg b → IsSeam a b seam
    → shared_back b (concatenation a b)
    ≡ (length b - seam.right) + common_prefix_len bytes_eq (reverse (take seam.right b)) (reverse (clusters seam.text) ++ reverse (take seam.left a))
back-seam a b seam nfg_a nfg_b is =
    let cs = clusters seam.text in
    ap₂ (common_prefix_len bytes_eq)
    (ap reverse (sym (take-append-drop seam.right b)) ∙ reverse-append (take seam.right b) (drop seam.right b))
    (ap reverse (concatenation-seam a b seam nfg_a nfg_b is) ∙ reverse-three (take seam.left a) cs (drop seam.right b))
    ∙ front-keep bytes_eq same_bytes (reverse (drop seam.right b)) (reverse (take seam.right b)) (reverse cs ++ reverse (take seam.left a))
    ∙ ap (λ n. n + common_prefix_len bytes_eq (reverse (take seam.right b)) (reverse cs ++ reverse (take seam.left a)))
    (length-reverse (drop seam.right b) ∙ length-drop seam.right b)

length-joined : (a b : List (List ℕ)) (seam : Seam) → IsInNfg a → IsInNfg b → IsSeam a b seam
    → length (concatenation a b) ≡ seam.left + (length (clusters seam.text) + (length b - seam.right))
length-joined a b seam nfg_a nfg_b is =
    let cs = clusters seam.text in
    ap length (concatenation-seam a b seam nfg_a nfg_b is)
    ∙ length-append (take seam.left a) (cs ++ drop seam.right b)
    ∙ ap₂ (λ m n. m + n) (length-take-le seam.left a is.left_within)
    (length-append cs (drop seam.right b) ∙ ap (λ n. length cs + n) (length-drop seam.right b))

-- the front and the back of the splice, and what is new
pub splice-front : (a b : List (List ℕ)) (seam : Seam) → IsInNfg a → IsInNfg b → IsSeam a b seam
    → (splice a b).front ≡ seam.left + kept_front a seam.left (clusters seam.text)
unfolding splice
splice-front a b seam nfg_a nfg_b is = front-seam a b seam nfg_a nfg_b is

pub splice-back : (a b : List (List ℕ)) (seam : Seam) → IsInNfg a → IsInNfg b → IsSeam a b seam
    → (splice a b).back ≡ (length b - seam.right) + kept_back b seam.right (clusters seam.text) (kept_front a seam.left (clusters seam.text))
unfolding splice
splice-back a b seam nfg_a nfg_b is =
    let cs = clusters seam.text in
    let front = kept_front a seam.left cs in
    let within = (common_prefix_len-le bytes_eq (drop seam.left a) cs).1 in
    let long = length-joined a b seam nfg_a nfg_b is in
    let kept = front-seam a b seam nfg_a nfg_b is in
    let shared = back-seam a b seam nfg_a nfg_b is in
    let turned = length-reverse cs in
    let bounded = front-bounded bytes_eq (reverse (take seam.right b)) (reverse cs) (reverse (take seam.left a)) (length cs - front) (omega (arith, turned)) in
    omega (arith, long, kept, shared, bounded, within)

pub splice-middle : (a b : List (List ℕ)) (seam : Seam) → IsInNfg a → IsInNfg b → IsSeam a b seam
    → (splice a b).middle
    ≡ take (length (clusters seam.text) - kept_front a seam.left (clusters seam.text)
    - kept_back b seam.right (clusters seam.text) (kept_front a seam.left (clusters seam.text)))
    (drop (kept_front a seam.left (clusters seam.text)) (clusters seam.text))
unfolding splice
splice-middle a b seam nfg_a nfg_b is =
    let cs = clusters seam.text in
    let front = kept_front a seam.left cs in
    let back = kept_back b seam.right cs front in
    let joined = concatenation a b in
    let within = (common_prefix_len-le bytes_eq (drop seam.left a) cs).1 in
    let long = length-joined a b seam nfg_a nfg_b is in
    let is_front = front-seam a b seam nfg_a nfg_b is in
    let is_back = splice-back a b seam nfg_a nfg_b is in
    let left_long = length-take-le seam.left a is.left_within in
    let count : length joined - shared_front a joined - (splice a b).back ≡ length cs - front - back = omega (arith, long, is_front, is_back, within) in
    let behind : drop (shared_front a joined) joined ≡ drop front cs ++ drop seam.right b =
    ap₂ drop (is_front ∙ ap (λ n. n + front) (sym left_long)) (concatenation-seam a b seam nfg_a nfg_b is)
    ∙ drop-append-add (take seam.left a) (cs ++ drop seam.right b) front
    ∙ drop-append-le front cs (drop seam.right b) within in
    let short = length-drop front cs in
    ap₂ take count behind ∙ take-append-le (length cs - front - back) (drop front cs) (drop seam.right b) (omega (arith, short))

-- a concatenation is what it keeps of a, what is new, and what it keeps of b
pub splice-parts : (a b : List (List ℕ))
    → concatenation a b ≡ take (splice a b).front a ++ ((splice a b).middle ++ drop (length b - (splice a b).back) b)
unfolding splice
splice-parts a b =
    let joined = concatenation a b in
    let front = shared_front a joined in
    let within = (common_prefix_len-le bytes_eq a joined).1 in
    three-parts bytes_eq bytes_eq-Decides a b joined front (min (shared_back b joined) (length joined - front)) (omega arith) (omega arith) (omega (arith, within))
