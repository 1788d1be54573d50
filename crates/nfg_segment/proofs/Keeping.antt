-- What is held of a cluster that goes on.
use Rattle.std.proofs.Common.{◌≡◌, ℕ, ◌<◌, ◌≤◌, Bool, true, false, List, [], ◌∷◌, ◌++◌, take, reverse, length, if◌then◌else◌, refl, sym, ap, subst, ◌∙◌, arith, lt-ltb, le-ltb}
use Rattle.std.proofs.lemmas.Bool.{cases_lt}
use Rattle.std.proofs.lemmas.List.{length-append, length-take, take_all, take-append-le, reverse-append, length-take-le}
use Rattle.std.proofs.Common.{◌⊎◌, inl, inr}
use Rattle.nfg_text.specs.Breaks.{Remembers}
use Rattle.nfg_text.specs.Graphemes.{is_too_long}
use Rattle.nfg_text.specs.declared.breaks.Memory.{Memory}
use Rattle.nfg_segment.specs.Held.{Unfinished, Keeps, is_some, ends_before, closed, left_open, as_list}

abbrev pub unfinished : List ℕ → Bool → Memory → Unfinished
unfinished head is_long memory = record { head = head; is_long = is_long; memory = memory }

reverse-push : (k : List ℕ) (c : ℕ) → reverse (k ++ c ∷ []) ≡ c ∷ reverse k
reverse-push k c = reverse-append k (c ∷ [])

pub is_short : (k : List ℕ) → length k ≤ 1024 → is_too_long k ≡ false
is_short k h = le-ltb 1024 (length k) h

-- fewer than 1,024 code points are held only of a cluster that is held as a whole
held_whole : (k : List ℕ) → length (take 1024 k) < 1024 → length k < 1024
held_whole k h = by (cases_lt (length k) 1024)
  where
    by : (length k < 1024) ⊎ (1024 ≤ length k) → length k < 1024
    by (inl low) = low
    by (inr high) = let e = length-take-le 1024 k high in omega (arith, h, e)

-- a code point joins a cluster that is held as a whole
pub joins-short : (head longer : List ℕ) (is_long : Bool) (m after : Memory) (k : List ℕ) (c : ℕ) → Keeps (unfinished head is_long m) k
    → length head < 1024 → longer ≡ head ++ c ∷ [] → Remembers after (c ∷ reverse k) → Keeps (unfinished longer is_long after) (k ++ c ∷ [])
joins-short head longer is_long m after k c keeps low e remembers =
    let short = held_whole k (subst (λ l. length l < 1024) keeps.head low) in
    let fits : length (k ++ c ∷ []) ≤ 1024 = omega (arith, length-append k (c ∷ [])) in
    record {
      head = e ∙ ap (λ l. l ++ c ∷ []) (keeps.head ∙ take_all 1024 k (omega arith)) ∙ sym (take_all 1024 (k ++ c ∷ []) fits);
      long = keeps.long ∙ is_short k (omega arith) ∙ sym (is_short (k ++ c ∷ []) fits);
      memory = subst (Remembers after) (sym (reverse-push k c)) remembers;
    }

-- a code point joins a cluster of which 1,024 code points are held
pub joins-long : (head : List ℕ) (is_long : Bool) (m after : Memory) (k : List ℕ) (c : ℕ) → Keeps (unfinished head is_long m) k
    → 1024 ≤ length head → Remembers after (c ∷ reverse k) → Keeps (unfinished head true after) (k ++ c ∷ [])
joins-long head is_long m after k c keeps high remembers =
    let full : 1024 ≤ length k = at_least (subst (λ l. 1024 ≤ length l) keeps.head high) in
    record {
      head = keeps.head ∙ sym (take-append-le 1024 k (c ∷ []) full);
      long = sym (lt-ltb 1024 (length (k ++ c ∷ [])) (omega (arith, length-append k (c ∷ []))));
      memory = subst (Remembers after) (sym (reverse-push k c)) remembers;
    }
  where
    at_least : 1024 ≤ length (take 1024 k) → 1024 ≤ length k
    at_least g = omega (arith, g, length-take 1024 k)

pub Keeps-same : (h g : Unfinished) (k : List ℕ) → h ≡ g → Keeps g k → Keeps h k
Keeps-same h g k e p = subst (λ u. Keeps u k) (sym e) p

-- ---- before a next code point

pub closed-ends : (k : List ℕ) (c : ℕ) → ends_before k c ≡ true → closed k c ≡ k ∷ []
closed-ends k c e = ap (λ b. if b then k ∷ [] else []) e

pub left_open-ends : (k : List ℕ) (c : ℕ) → ends_before k c ≡ true → left_open k c ≡ []
left_open-ends k c e = ap (λ b. if b then [] else k) e

pub closed-stays : (k : List ℕ) (c : ℕ) → ends_before k c ≡ false → closed k c ≡ []
closed-stays k c e = ap (λ b. if b then k ∷ [] else []) e

pub left_open-stays : (k : List ℕ) (c : ℕ) → ends_before k c ≡ false → left_open k c ≡ k
left_open-stays k c e = ap (λ b. if b then [] else k) e

pub as_list-some : (k : List ℕ) → is_some k ≡ true → as_list k ≡ k ∷ []
as_list-some [] some = cc
as_list-some (x ∷ xs) some = refl

pub as_list-none : (k : List ℕ) → is_some k ≡ false → as_list k ≡ []
as_list-none [] none = refl
as_list-none (x ∷ xs) none = cc

pub none-is_nil : (k : List ℕ) → is_some k ≡ false → k ≡ []
none-is_nil [] none = refl
none-is_nil (x ∷ xs) none = cc
