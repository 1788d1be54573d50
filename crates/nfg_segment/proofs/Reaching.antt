-- The open cluster while it is still a part of a text that is fed.
use Rattle.std.proofs.Common.{◌≡◌, ℕ, ◌+◌, ◌-◌, ◌<◌, ◌≤◌, zero, suc, Bool, true, false, List, [], ◌∷◌, ◌++◌, take, drop, reverse, length, get_or, refl, sym, ap, ap₂, subst, ◌∙◌, arith, append_assoc, append-nil, lt-ltb, inl, inr, ◌⊎◌}
use Rattle.std.proofs.lemmas.Bool.{cases_lt}
use Rattle.std.proofs.lemmas.List.{length-append, length-take-le, length-drop, length-reverse, take_all, take-append-le, take_more, reverse-append}
use Rattle.std.proofs.Math.Seq.{take-append-add}
use Rattle.std.specs.List.{slice_range}
use Rattle.nfg_text.specs.Breaks.{Remembers}
use Rattle.nfg_text.specs.Graphemes.{is_too_long}
use Rattle.nfg_text.specs.Plain.{singles}
use Rattle.nfg_text.specs.Text.{IsText}
use Rattle.nfg_text.specs.declared.breaks.Memory.{Memory}
use Rattle.nfg_segment.specs.Given.{Given, with_head, with_cluster, with_clusters}
use Rattle.nfg_segment.specs.Held.{Unfinished, Keeps, is_some, ends_before, next}
use Rattle.nfg_segment.specs.Reach.{Reaches}
use Rattle.nfg_segment.specs.declared.open_reach.Reach.{Reach}
use Rattle.nfg_segment.proofs.Keeping.{unfinished, is_short, left_open-ends, left_open-stays}
use Rattle.nfg_segment.proofs.TextLemmas.{IsText-take, IsText-drop}

-- ---- slices

pub slice_none : (t : List ℕ) (at : ℕ) → slice_range t at at ≡ []
slice_none t at = let e : at - at ≡ 0 = omega arith in ap (λ n. take n (drop at t)) e

pub slice_more : (t : List ℕ) (start at : ℕ) → start ≤ at → at < length t → slice_range t start (at + 1) ≡ slice_range t start at ++ get_or t at 0 ∷ []
slice_more t start at low high =
    let e : (at + 1) - start ≡ (at - start) + 1 = omega (arith, low) in
    ap (λ n. take n (drop start t)) e ∙ front t start (at - start) (omega (arith, low, high))
    ∙ (let f : start + (at - start) ≡ at = omega (arith, low) in ap (λ n. take (at - start) (drop start t) ++ get_or t n 0 ∷ []) f)
  where
    front : (t : List ℕ) (start n : ℕ) → start + n < length t → take (n + 1) (drop start t) ≡ take n (drop start t) ++ get_or t (start + n) 0 ∷ []
    front t zero n h =
        let e : n ≡ 0 + n = omega arith in take_more t n 0 (omega (arith, h)) ∙ ap (λ k. take n t ++ get_or t k 0 ∷ []) e
    front [] (suc start) n h = absurd (omega (arith, h))
    front (x ∷ xs) (suc start) n h =
        let e : suc (start + n) ≡ suc start + n = omega arith in
        front xs start n (omega (arith, h)) ∙ ap (λ k. take n (drop start xs) ++ get_or (x ∷ xs) k 0 ∷ []) e

pub slice_text : (t : List ℕ) (start at : ℕ) → IsText t → IsText (slice_range t start at)
slice_text t start at all = IsText-take (at - start) (drop start t) (IsText-drop start t all)

pub slice_length : (t : List ℕ) (start at : ℕ) → start ≤ at → at ≤ length t → length (slice_range t start at) + start ≡ at
slice_length t start at low high =
    let e = length-take-le (at - start) (drop start t) (omega (arith, length-drop start t, low, high)) in omega (arith, e, low)

pub some-codes : (t : List ℕ) (start at n : ℕ) → start ≤ at → at ≤ length t → (start ≡ at → 0 < n) → 0 < n + length (slice_range t start at)
some-codes t start at n low high held = by (cases_lt start at)
  where
    size : length (slice_range t start at) + start ≡ at
    size = slice_length t start at low high

    by : (start < at) ⊎ (at ≤ start) → 0 < n + length (slice_range t start at)
    by (inl less) = omega (arith, size, less)
    by (inr more) = let h = held (omega (arith, low, more)) in omega (arith, h)

-- ---- is there a cluster

pub some-append : (k t : List ℕ) → is_some k ≡ true → is_some (k ++ t) ≡ true
some-append [] t some = cc
some-append (x ∷ xs) t some = refl

pub some-right : (k t : List ℕ) → 0 < length t → is_some (k ++ t) ≡ true
some-right [] [] h = absurd (omega (arith, h))
some-right [] (y ∷ ys) h = refl
some-right (x ∷ xs) t h = refl

pub some-length : (k : List ℕ) → is_some k ≡ true → 0 < length (reverse k)
some-length [] some = cc
some-length (x ∷ xs) some = let e = length-reverse (x ∷ xs) in omega (arith, e)

pub reaches-some : (h : Unfinished) (t : List ℕ) (at : ℕ) (r : Reach) (k : List ℕ) → Reaches h t at r k → r.start < at → at < length t → true ≡ is_some k
reaches-some h t at r k reaches low high =
    let e = slice_length t r.start at (omega (arith, low)) (omega (arith, high)) in
    sym (ap is_some reaches.whole ∙ some-right reaches.before (slice_range t r.start at) (omega (arith, e, low)))

-- nothing of the text belongs to it yet
pub reaches-held : (h : Unfinished) (t : List ℕ) (at : ℕ) (r : Reach) (k : List ℕ) → (reaches : Reaches h t at r k) → r.start ≡ at → reaches.before ≡ k
reaches-held h t at r k reaches e =
    sym (reaches.whole ∙ ap (λ l. reaches.before ++ l) (ap (λ n. slice_range t n at) e ∙ slice_none t at) ∙ append-nil reaches.before)

-- ---- what joins

full : (head k : List ℕ) → head ≡ take 1024 k → 1024 < length k → length head ≡ 1024
full head k e high = ap length e ∙ length-take-le 1024 k (omega (arith, high))

whole : (head k : List ℕ) → head ≡ take 1024 k → length k ≤ 1024 → head ≡ k
whole head k e low = e ∙ take_all 1024 k low

no_more : (t : List ℕ) → length t ≤ 0 → t ≡ []
no_more [] h = refl
no_more (x ∷ xs) h = absurd (omega (arith, h))

pub joins_all-short : (head longer : List ℕ) (is_long : Bool) (m after : Memory) (k t : List ℕ) → Keeps (unfinished head is_long m) k
    → length head + length t ≤ 1024 → longer ≡ head ++ t → Remembers after (reverse (k ++ t)) → Keeps (unfinished longer is_long after) (k ++ t)
joins_all-short head longer is_long m after k t keeps low e remembers = by (cases_lt 1024 (length k))
  where
    by : (1024 < length k) ⊎ (length k ≤ 1024) → Keeps (unfinished longer is_long after) (k ++ t)
    by (inl high) =
        let none = no_more t (omega (arith, full head k keeps.head high, low)) in
        let same = ap (λ l. k ++ l) none ∙ append-nil k in
        record {
          head = e ∙ ap (λ l. head ++ l) none ∙ append-nil head ∙ keeps.head ∙ ap (take 1024) (sym same);
          long = keeps.long ∙ ap is_too_long (sym same);
          memory = remembers;
        }
    by (inr short) =
        let all = whole head k keeps.head short in
        let fits : length (k ++ t) ≤ 1024 = omega (arith, length-append k t, ap length all, low) in
        record {
          head = e ∙ ap (λ l. l ++ t) all ∙ sym (take_all 1024 (k ++ t) fits);
          long = keeps.long ∙ is_short k short ∙ sym (is_short (k ++ t) fits);
          memory = remembers;
        }

pub joins_all-long : (head longer : List ℕ) (is_long : Bool) (m after : Memory) (k t : List ℕ) (room : ℕ) → Keeps (unfinished head is_long m) k
    → room + length head ≡ 1024 → room < length t → longer ≡ head ++ take room t → Remembers after (reverse (k ++ t)) → Keeps (unfinished longer true after) (k ++ t)
joins_all-long head longer is_long m after k t room keeps size over e remembers = by (cases_lt 1024 (length k))
  where
    by : (1024 < length k) ⊎ (length k ≤ 1024) → Keeps (unfinished longer true after) (k ++ t)
    by (inl high) =
        let none : room ≡ 0 = omega (arith, full head k keeps.head high, size) in
        record {
          head = e ∙ ap (λ n. head ++ take n t) none ∙ append-nil head ∙ keeps.head ∙ sym (take-append-le 1024 k t (omega (arith, high)));
          long = sym (lt-ltb 1024 (length (k ++ t)) (omega (arith, length-append k t, high)));
          memory = remembers;
        }
    by (inr short) =
        let all = whole head k keeps.head short in
        let sum : 1024 ≡ length k + room = omega (arith, ap length all, size) in
        record {
          head = e ∙ ap (λ l. l ++ take room t) all ∙ sym (ap (λ n. take n (k ++ t)) sum ∙ take-append-add k t room);
          long = sym (lt-ltb 1024 (length (k ++ t)) (omega (arith, length-append k t, sum, over)));
          memory = remembers;
        }

-- ---- what is given out

pub give-single : (g : Given) (t : List ℕ) → length t ≡ 1 → with_clusters g (singles t) ≡ with_cluster g t
give-single g [] e = absurd (omega (arith, e))
give-single g (x ∷ []) e = refl
give-single g (x ∷ (y ∷ ys)) e = absurd (omega (arith, e))

pub give-short : (g : Given) (t : List ℕ) → length t ≤ 1024 → with_head g t false ≡ with_cluster g t
give-short g t short = ap₂ (with_head g) (sym (take_all 1024 t short)) (sym (is_short t short))

pub give-long : (g : Given) (t : List ℕ) → 1024 < length t → with_head g (take 1024 t) true ≡ with_cluster g t
give-long g t long = ap (with_head g (take 1024 t)) (sym (lt-ltb 1024 (length t) long))

-- ---- a code point more

reverse-one : (k : List ℕ) (x : ℕ) → reverse (k ++ x ∷ []) ≡ x ∷ reverse k
reverse-one k x = reverse-append k (x ∷ [])

pub reaches-ended : (h : Unfinished) (t : List ℕ) (at : ℕ) (m : Memory) (k : List ℕ) → Keeps h [] → at < length t → ends_before k (get_or t at 0) ≡ true
    → Remembers m (get_or t at 0 ∷ []) → Reaches h t (at + 1) record { start = at; memory = m } (next k (get_or t at 0))
reaches-ended h t at m k keeps within ends remembers =
    let x = get_or t at 0 in
    let one : next k x ≡ x ∷ [] = ap (λ l. l ++ x ∷ []) (left_open-ends k x ends) in
    record {
      before = [];
      keeps = keeps;
      whole = one ∙ sym (slice_more t at at (omega arith) within ∙ ap (λ l. l ++ x ∷ []) (slice_none t at));
      memory = subst (λ l. Remembers m (reverse l)) (sym one) remembers;
    }

pub reaches-on : (h : Unfinished) (t : List ℕ) (at : ℕ) (r : Reach) (m : Memory) (k : List ℕ) → Reaches h t at r k → r.start ≤ at → at < length t → ends_before k (get_or t at 0) ≡ false
    → Remembers m (get_or t at 0 ∷ reverse k) → Reaches h t (at + 1) record { start = r.start; memory = m } (next k (get_or t at 0))
reaches-on h t at r m k reaches low within stays remembers =
    let x = get_or t at 0 in
    let more : next k x ≡ k ++ x ∷ [] = ap (λ l. l ++ x ∷ []) (left_open-stays k x stays) in
    record {
      before = reaches.before;
      keeps = reaches.keeps;
      whole = more ∙ ap (λ l. l ++ x ∷ []) reaches.whole ∙ append_assoc reaches.before (slice_range t r.start at) (x ∷ [])
          ∙ ap (λ l. reaches.before ++ l) (sym (slice_more t r.start at low within));
      memory = subst (Remembers m) (sym (ap reverse more ∙ reverse-one k x)) remembers;
    }

pub reaches-same : (h : Unfinished) (t : List ℕ) (at : ℕ) (r : Reach) (k l : List ℕ) → k ≡ l → Reaches h t at r k → Reaches h t at r l
reaches-same h t at r k l e reaches = subst (Reaches h t at r) e reaches
