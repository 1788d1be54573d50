-- The text of clusters, taken in parts, and what numbers go on to stand for while a pass is only asked.
use Rattle.std.proofs.Common.{◌≡◌, ℕ, ◌+◌, ◌-◌, ◌<◌, ◌≤◌, List, [], ◌∷◌, ◌++◌, length, take, drop, get_or, slice_range, Some, ℤ, pos, negsuc, nat_abs, map, true, false, refl, inl, inr, min, sym, ap, ◌∙◌, arith, append_assoc, append-nil, take-add, length-drop}
use Rattle.std.proofs.lemmas.List.{take_all, drop-drop}
use Rattle.std.proofs.lemmas.Bool.{both_ways, cases_lt}
use Rattle.std.specs.List.{list_all}
use Rattle.nfg_text.specs.Text.{text_of}
use Rattle.nfg_syn.specs.Known.{Texts, IsSame}
use Rattle.nfg_syn.specs.KnownLaws.{IsWithin-same, IsWithin-same_back}
use Rattle.nfg_syn.specs.Represents.{Represents, AreKnown, spelling}
use Rattle.nfg_syn.specs.RepresentsLaws.{Represents-grows, Represents-take, Represents-drop, spelling-one}
use Rattle.nfg_ops.specs.Reads.{is_code}

pub Represents-same_known : (old new : Texts) → IsSame old new → (numbers : List ℤ) (clusters : List (List ℕ)) → Represents old numbers clusters → Represents new numbers clusters
Represents-same_known old new same numbers clusters = Represents-grows old new (IsWithin-same old new same) numbers clusters

-- and stood for before
pub Represents-same_back : (old new : Texts) → IsSame old new → (numbers : List ℤ) (clusters : List (List ℕ)) → Represents new numbers clusters → Represents old numbers clusters
Represents-same_back old new same numbers clusters = Represents-grows new old (IsWithin-same_back old new same) numbers clusters

-- parts of what is known are known
pub known-range : (known : Texts) (numbers : List ℤ) (start end : ℕ) → AreKnown known numbers → AreKnown known (slice_range numbers start end)
known-range known numbers start end are =
    (slice_range are.0 start end, Represents-take known (end - start) (drop start numbers) (drop start are.0) (Represents-drop known start numbers are.0 are.1))

pub Represents-range : (known : Texts) (numbers : List ℤ) (clusters : List (List ℕ)) (start end : ℕ) → Represents known numbers clusters
    → Represents known (slice_range numbers start end) (slice_range clusters start end)
Represents-range known numbers clusters start end represents =
    Represents-take known (end - start) (drop start numbers) (drop start clusters) (Represents-drop known start numbers clusters represents)

-- the text of clusters in two parts
pub text_of-append : (front rest : List (List ℕ)) → text_of (front ++ rest) ≡ text_of front ++ text_of rest
text_of-append [] rest = refl
text_of-append (c ∷ front) rest = ap (λ t. c ++ t) (text_of-append front rest) ∙ sym (append_assoc c (text_of front) (text_of rest))

-- a range in two parts
pub range-parts : {A : Type 0} (xs : List A) (start mid end : ℕ) → start ≤ mid → mid ≤ end → slice_range xs start end ≡ slice_range xs start mid ++ slice_range xs mid end
range-parts xs start mid end low high =
    let both : end - start ≡ (mid - start) + (end - mid) = omega (arith, low, high) in
    let on : start + (mid - start) ≡ mid = omega (arith, low) in
    ap (λ n. take n (drop start xs)) both ∙ take-add (mid - start) (end - mid) (drop start xs)
    ∙ ap (λ ys. take (mid - start) (drop start xs) ++ take (end - mid) ys) (drop-drop (mid - start) start xs ∙ ap (λ n. drop n xs) on)

-- the text of a range in two parts, added one after the other
pub text-parts : (old mid new : List ℕ) (list : List (List ℕ)) (start place end : ℕ) → start ≤ place → place ≤ end
    → mid ≡ old ++ text_of (slice_range list start place) → new ≡ mid ++ text_of (slice_range list place end) → new ≡ old ++ text_of (slice_range list start end)
text-parts old mid new list start place end low high first second =
    second ∙ ap (λ t. t ++ text_of (slice_range list place end)) first
    ∙ append_assoc old (text_of (slice_range list start place)) (text_of (slice_range list place end))
    ∙ ap (λ t. old ++ t) (sym (ap text_of (range-parts list start place end low high) ∙ text_of-append (slice_range list start place) (slice_range list place end)))

-- nothing is added before the first part
pub text-none : (old : List ℕ) (list : List (List ℕ)) (start : ℕ) → old ≡ old ++ text_of (slice_range list start start)
text-none old list start =
    let none : start - start ≡ 0 = omega arith in
    sym (ap (λ n. old ++ text_of (take n (drop start list))) none ∙ append-nil old)

-- the same of the front of a list
pub text-front : (old mid new : List ℕ) (list : List (List ℕ)) (place count : ℕ)
    → mid ≡ old ++ text_of (take place list) → new ≡ mid ++ text_of (take count (drop place list)) → new ≡ old ++ text_of (take (place + count) list)
text-front old mid new list place count first second =
    second ∙ ap (λ t. t ++ text_of (take count (drop place list))) first
    ∙ append_assoc old (text_of (take place list)) (text_of (take count (drop place list)))
    ∙ ap (λ t. old ++ t) (sym (ap text_of (take-add place count list) ∙ text_of-append (take place list) (take count (drop place list))))

-- what was known before
pub known-same : (old new : Texts) → IsSame old new → (numbers : List ℤ) → AreKnown old numbers → AreKnown new numbers
known-same old new same numbers are = (are.0, Represents-same_known old new same numbers are.0 are.1)

-- the first number spells a cluster
pub known-first : (known : Texts) (numbers : List ℤ) → AreKnown known numbers → 0 < length numbers → (cluster : List ℕ) × (spelling known (get_or numbers 0 (pos 0)) ≡ Some cluster)
known-first known numbers are some = by numbers are.0 are.1 some
  where
    by : (ns : List ℤ) (cs : List (List ℕ)) → Represents known ns cs → 0 < length ns → (cluster : List ℕ) × (spelling known (get_or ns 0 (pos 0)) ≡ Some cluster)
    by [] cs represents none = absurd (omega (arith, none))
    by (n ∷ ns) [] never some = absurd never
    by (n ∷ ns) (c ∷ cs) represents some = (c, represents.0)

-- code points stand for themselves
pub codes-text : (known : Texts) (numbers : List ℤ) (clusters : List (List ℕ)) → list_all is_code numbers ≡ true → Represents known numbers clusters
    → map nat_abs numbers ≡ text_of clusters
codes-text known [] [] codes represents = refl
codes-text known [] (c ∷ cs) codes never = absurd never
codes-text known (pos n ∷ ns) [] codes never = absurd never
codes-text known (pos n ∷ ns) (c ∷ cs) codes represents =
    ap (λ t. n ∷ t) (codes-text known ns cs codes represents.1) ∙ ap (λ t. t ++ text_of cs) (sym (spelling-one known n c represents.0).1)
codes-text known (negsuc m ∷ ns) cs never represents = absurd (both_ways false refl never)

-- a part that may reach past the end is the range up to it
pub part-range : {A : Type 0} (xs : List A) (start count : ℕ) → start ≤ length xs → slice_range xs start (min (length xs) (start + count)) ≡ take count (drop start xs)
part-range xs start count inside = elim (cases_lt (length xs) (start + count)) [
  | inl short ↦
      let behind = length-drop start xs in
      take_all (min (length xs) (start + count) - start) (drop start xs) (omega (arith, behind, short))
      ∙ sym (take_all count (drop start xs) (omega (arith, behind, short)))
  | inr long ↦
      let exact : min (length xs) (start + count) - start ≡ count = omega (arith, long) in
      ap (λ n. take n (drop start xs)) exact
]
