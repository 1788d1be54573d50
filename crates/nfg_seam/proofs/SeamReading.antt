-- What a seam reads of strings, and of the clusters that they stand for.
use Rattle.std.proofs.Common.{◌≡◌, ℕ, zero, suc, ◌+◌, ◌-◌, ◌<◌, ◌≤◌, List, [], ◌∷◌, ◌++◌, length, take, drop, slice_get, slice_range, get_or, reverse, Some, true, false, ℤ, pos, negsuc, refl, sym, ap, ap₂, subst, ◌∙◌, arith, append_assoc, append-nil, inl, inr}
use Rattle.std.specs.Prelude.{IfSome}
use Rattle.std.specs.Char.{IsScalar}
use Rattle.std.proofs.Math.Dec.{leb-zero}
use Rattle.std.proofs.Math.Seq.{drop-append_seam}
use Rattle.std.proofs.Math.Utf8.{scalar_cases}
use Rattle.std.proofs.lemmas.Bool.{and_parts, and_from, both_ways}
use Rattle.std.proofs.lemmas.List.{drop-drop, take_more, reverse-append}
use Rattle.std.proofs.lemmas.List.Folds.{concat-append}
use Rattle.std.specs.Str.{all_scalars}
use lib.Dec.{leb}
use lib.Signed.{le_z}
use lib.Utf8.{scalar}
use Rattle.nfg_text.specs.Text.{text_of, IsText}
use Rattle.nfg_text.proofs.Proved.{parts_of_text}
use Rattle.nfg_syn.specs.Known.{Texts, IsKnowledge, IsSame, text_at}
use Rattle.nfg_syn.specs.KnownLaws.{IsWithin-same}
use Rattle.nfg_syn.specs.LearnedLaws.{IsSame-refl, IsSame-trans}
use Rattle.nfg_syn.specs.Represents.{spelling, Represents, AreKnown}
use Rattle.nfg_syn.specs.RepresentsLaws.{spelling-one, spelling-grows, Represents-grows}
use Rattle.nfg_syn.specs.Seen.{Seen, Keeps, SameCounts}
use Rattle.nfg_syn.specs.SeenLaws.{Keeps-refl, Keeps-trans, SameCounts-refl, SameCounts-trans}
use Rattle.nfg_seam.specs.SeamReads.{HasAsked}

pub asked-none : (p : Seen) → HasAsked p p
asked-none p = record { kept = Keeps-refl p; counts = SameCounts-refl p; known = IsSame-refl p.known }

pub asked-again : (p q r : Seen) → HasAsked p q → Keeps q r → SameCounts q r → IsSame q.known r.known → HasAsked p r
asked-again p q r so_far kept counts known = record {
  kept = Keeps-trans p q r so_far.kept kept;
  counts = SameCounts-trans p q r so_far.counts counts;
  known = IsSame-trans p.known q.known r.known so_far.known known;
}

pub asked-both : (p q r : Seen) → HasAsked p q → HasAsked q r → HasAsked p r
asked-both p q r first second = asked-again p q r first second.kept second.counts second.known

-- what a number spelled it spells still
pub spelling-asked : (p q : Seen) → HasAsked p q → (n : ℤ) (t : List ℕ) → spelling p.known n ≡ Some t → spelling q.known n ≡ Some t
spelling-asked p q asked n t e = spelling-grows p.known q.known (IsWithin-same p.known q.known asked.known) n t e

pub Represents-asked : (p q : Seen) → HasAsked p q → (numbers : List ℤ) (list : List (List ℕ)) → Represents p.known numbers list → Represents q.known numbers list
Represents-asked p q asked numbers list represents = Represents-grows p.known q.known (IsWithin-same p.known q.known asked.known) numbers list represents

pub known-asked : (p q : Seen) → HasAsked p q → (numbers : List ℤ) → AreKnown p.known numbers → AreKnown q.known numbers
known-asked p q asked numbers are = (are.0, Represents-asked p q asked numbers are.0 are.1)

-- the first element behind a place stands there
pub first-behind : {X : Type 0} (xs : List X) (k : ℕ) (x : X) → slice_get (drop k xs) 0 ≡ Some x → slice_get xs k ≡ Some x
first-behind [] zero x e = e
first-behind [] (suc k) x e = cc
first-behind (y ∷ xs) zero x e = e
first-behind (y ∷ xs) (suc k) x e = first-behind xs k x e

-- so what is read next stands at the place reached
pub next-at : {X : Type 0} (xs left : List X) (k : ℕ) (x : X) → left ≡ drop k xs → slice_get left 0 ≡ Some x → slice_get xs k ≡ Some x
next-at xs left k x e first = first-behind xs k x (subst (λ l. slice_get l 0 ≡ Some x) e first)

-- and one place further stands what is read after it
pub next-left : {X : Type 0} (xs left after : List X) (k : ℕ) → left ≡ drop k xs → after ≡ drop 1 left → after ≡ drop (k + 1) xs
next-left xs left after k e read = read ∙ ap (drop 1) e ∙ drop-drop 1 k xs

-- the number at a place spells the cluster there
pub cluster-of : (known : Texts) (ns : List ℤ) (cs : List (List ℕ)) → Represents known ns cs → (k : ℕ) (n : ℤ) → slice_get ns k ≡ Some n
    → (cluster : List ℕ) × (slice_get cs k ≡ Some cluster) × (spelling known n ≡ Some cluster)
cluster-of known [] cs r k n e = cc
cluster-of known (m ∷ ns) [] r k n e = absurd r
cluster-of known (m ∷ ns) (c ∷ cs) r zero n e = (c, refl, cc (r.0))
cluster-of known (m ∷ ns) (c ∷ cs) r (suc k) n e = cluster-of known ns cs r.1 k n e

-- the same, when the pass was asked, of a number that is read in two steps
pub cluster-asked : (p q : Seen) → HasAsked p q → (ns : List ℤ) (cs : List (List ℕ)) → Represents p.known ns cs → (k : ℕ) (n read : ℤ) → read ≡ n → slice_get ns k ≡ Some n
    → (cluster : List ℕ) × (slice_get cs k ≡ Some cluster) × (spelling q.known read ≡ Some cluster)
cluster-asked p q asked ns cs r k n read same e =
    let found = cluster-of p.known ns cs r k n e in
    (found.0, found.1, ap (spelling q.known) same ∙ spelling-asked p q asked n found.0 found.2)

pub spelled-asked : (p q : Seen) → HasAsked p q → (ns : List ℤ) → AreKnown p.known ns → (k : ℕ) (n read : ℤ) → read ≡ n → slice_get ns k ≡ Some n
    → (cluster : List ℕ) × (spelling q.known read ≡ Some cluster)
spelled-asked p q asked ns are k n read same e =
    let found = cluster-asked p q asked ns are.0 are.1 k n read same e in
    (found.0, found.2)

-- what is left at a place
pub drop-at : {X : Type 0} (xs : List X) (k : ℕ) (x : X) → slice_get xs k ≡ Some x → drop k xs ≡ x ∷ drop (suc k) xs
drop-at [] k x e = cc
drop-at (y ∷ xs) zero x e = let first : y ≡ x = cc in ap (λ z. z ∷ xs) first
drop-at (y ∷ xs) (suc k) x e = drop-at xs k x e

-- what comes before the next one
pub take-at : {X : Type 0} (xs : List X) (k : ℕ) (x : X) → slice_get xs k ≡ Some x → take (suc k) xs ≡ take k xs ++ x ∷ []
take-at [] k x e = cc
take-at (y ∷ xs) zero x e = let first : y ≡ x = cc in ap (λ z. z ∷ []) first
take-at (y ∷ xs) (suc k) x e = ap (λ zs. y ∷ zs) (take-at xs k x e)

slice_get-drop : {X : Type 0} (xs : List X) (a j : ℕ) → slice_get (drop a xs) j ≡ slice_get xs (a + j)
slice_get-drop xs zero j = let same : j ≡ 0 + j = omega arith in ap (slice_get xs) same
slice_get-drop [] (suc a) j = refl
slice_get-drop (x ∷ xs) (suc a) j =
    let more : suc (a + j) ≡ suc a + j = omega arith in slice_get-drop xs a j ∙ ap (slice_get (x ∷ xs)) more

pub range-at : {X : Type 0} (xs : List X) (a k : ℕ) (x : X) → a ≤ k → slice_get xs k ≡ Some x → slice_range xs a (k + 1) ≡ slice_range xs a k ++ x ∷ []
range-at xs a k x low e =
    let more : k + 1 - a ≡ suc (k - a) = omega (arith, low) in
    let on : a + (k - a) ≡ k = omega (arith, low) in
    ap (λ n. take n (drop a xs)) more
    ∙ take-at (drop a xs) (k - a) x (slice_get-drop xs a (k - a) ∙ ap (slice_get xs) on ∙ e)

-- one more cluster of the text
pub text-pushed : (cs : List (List ℕ)) (cluster : List ℕ) → text_of (cs ++ cluster ∷ []) ≡ text_of cs ++ cluster
text-pushed cs cluster = concat-append cs (cluster ∷ []) ∙ ap (λ t. text_of cs ++ t) (append-nil cluster)

pub text-front_more : (old mid new : List ℕ) (cs : List (List ℕ)) (k : ℕ) (cluster : List ℕ) → slice_get cs k ≡ Some cluster
    → mid ≡ old ++ text_of (take k cs) → new ≡ mid ++ cluster → new ≡ old ++ text_of (take (k + 1) cs)
text-front_more old mid new cs k cluster e first second =
    let more : k + 1 ≡ suc k = omega arith in
    second ∙ ap (λ t. t ++ cluster) first ∙ append_assoc old (text_of (take k cs)) cluster
    ∙ ap (λ t. old ++ t) (sym (ap (λ n. text_of (take n cs)) more ∙ ap text_of (take-at cs k cluster e) ∙ text-pushed (take k cs) cluster))

pub text-range_more : (old mid new : List ℕ) (cs : List (List ℕ)) (a k : ℕ) (cluster : List ℕ) → a ≤ k → slice_get cs k ≡ Some cluster
    → mid ≡ old ++ text_of (slice_range cs a k) → new ≡ mid ++ cluster → new ≡ old ++ text_of (slice_range cs a (k + 1))
text-range_more old mid new cs a k cluster low e first second =
    second ∙ ap (λ t. t ++ cluster) first ∙ append_assoc old (text_of (slice_range cs a k)) cluster
    ∙ ap (λ t. old ++ t) (sym (ap text_of (range-at cs a k cluster low e) ∙ text-pushed (slice_range cs a k) cluster))

pub text-range_none : (old : List ℕ) (cs : List (List ℕ)) (a : ℕ) → old ≡ old ++ text_of (slice_range cs a a)
text-range_none old cs a =
    let none : a - a ≡ 0 = omega arith in
    sym (ap (λ n. old ++ text_of (take n (drop a cs))) none ∙ append-nil old)

-- of a text that is added from its front on, what is left
pub text-left_more : (all mid new : List ℕ) (cs : List (List ℕ)) (k : ℕ) (cluster : List ℕ) → slice_get cs k ≡ Some cluster
    → mid ++ text_of (drop k cs) ≡ all → new ≡ mid ++ cluster → new ++ text_of (drop (k + 1) cs) ≡ all
text-left_more all mid new cs k cluster e first second =
    let more : k + 1 ≡ suc k = omega arith in
    ap₂ (λ t n. t ++ text_of (drop n cs)) second more
    ∙ append_assoc mid cluster (text_of (drop (suc k) cs))
    ∙ ap (λ ds. mid ++ text_of ds) (sym (drop-at cs k cluster e))
    ∙ first

-- what a number spells is a text
pub spelled-text : (size : ℕ) (known places : Texts) → IsKnowledge size known places → (n : ℤ) (t : List ℕ) → spelling known n ≡ Some t → IsText t
spelled-text size known places knows (pos c) t e =
    let one = spelling-one known c t e in subst IsText (sym one.1) (and_from (scalar c) true one.0 refl)
spelled-text size known places knows (negsuc m) t e = (knows.numbers m t e).1.text

pub represented-text : (size : ℕ) (known places : Texts) → IsKnowledge size known places → (ns : List ℤ) (cs : List (List ℕ)) → Represents known ns cs → IsText (text_of cs)
represented-text size known places knows [] [] r = refl
represented-text size known places knows [] (c ∷ cs) r = absurd r
represented-text size known places knows (n ∷ ns) [] r = absurd r
represented-text size known places knows (n ∷ ns) (c ∷ cs) r =
    (parts_of_text c (text_of cs)).1 (spelled-text size known places knows n c r.0, represented-text size known places knows ns cs r.1)

-- a negative number spells a text of the table, which has a code point
pub negative-text : (size : ℕ) (known places : Texts) → IsKnowledge size known places → (n : ℤ) (t : List ℕ) → le_z (pos 0) n ≡ false → spelling known n ≡ Some t
    → (text_at known n ≡ Some t) × (0 < length t)
negative-text size known places knows (pos c) t below e = absurd (both_ways (leb 0 c) below (leb-zero c))
negative-text size known places knows (negsuc m) t below e =
    let several = (knows.numbers m t e).1.several in (e, omega (arith, several))

first-is : (t : List ℕ) (code : ℕ) → slice_get t 0 ≡ Some code → (rest : List ℕ) × (t ≡ code ∷ rest)
first-is [] code e = cc
first-is (c ∷ rest) code e = (rest, cc)

pub first-code : (known : Texts) (n : ℤ) (t : List ℕ) (code : ℕ) → text_at known n ≡ Some t → IfSome (text_at known n) (λ u. slice_get u 0 ≡ Some code)
    → (rest : List ℕ) × (t ≡ code ∷ rest)
first-code known n t code e found =
    first-is t code (subst (λ o. IfSome o (λ u. slice_get u 0 ≡ Some code)) e found)

pub first-scalar : (t : List ℕ) (code : ℕ) (rest : List ℕ) → IsText t → t ≡ code ∷ rest → IsScalar code
first-scalar t code rest text e =
    let all : all_scalars (code ∷ rest) ≡ true = subst IsText e text in (and_parts (scalar code) (all_scalars rest) all).0

pub scalar-at : (t : List ℕ) (i d : ℕ) → IsText t → i < length t → IsScalar (get_or t i d)
scalar-at [] i d all h = absurd (omega (arith, h))
scalar-at (c ∷ cs) zero d all h = (and_parts (scalar c) (all_scalars cs) all).0
scalar-at (c ∷ cs) (suc i) d all h = scalar-at cs i d (and_parts (scalar c) (all_scalars cs) all).1 (omega (arith, h))

pub scalar-limit : (c : ℕ) → IsScalar c → c < 0x11_0000
scalar-limit c h = elim (scalar_cases c h) [
  | inl low ↦ omega (arith, low)
  | inr high ↦ high.1
]

-- a text with one more code point, from its end
pub reversed-more : (text more : List ℕ) (i : ℕ) → i < length more → reverse (text ++ take (i + 1) more) ≡ get_or more i 0 ∷ reverse (text ++ take i more)
reversed-more text more i within =
    ap (λ s. reverse (text ++ s)) (take_more more i 0 within)
    ∙ ap reverse (sym (append_assoc text (take i more) (get_or more i 0 ∷ [])))
    ∙ reverse-append (text ++ take i more) (get_or more i 0 ∷ [])

-- what is added behind a text is what is behind it
pub behind-added : (old new cluster : List ℕ) → new ≡ old ++ cluster → drop (length old) new ≡ cluster
behind-added old new cluster added = ap (drop (length old)) added ∙ drop-append_seam old cluster
