-- What a pass learns by a list several times over, and where it is refused.
use Rattle.std.proofs.Common.{◌≡◌, ℕ, zero, suc, ◌+◌, ◌<◌, inl, inr, Bool, true, false, cond, List, [], ◌∷◌, ◌++◌, length, take, drop, Some, None, ℤ, refl, sym, ap, subst, ◌∙◌, arith, append_assoc}
use Rattle.std.specs.List.{repeat, slice_range}
use Rattle.nfg_text.specs.Graphemes.{is_too_long}
use Rattle.nfg_syn.specs.Known.{Texts, IsKnowledge, IsWithin}
use Rattle.nfg_syn.specs.Learned.{HasLearned, StopsAt, several, first_long}
use Rattle.nfg_syn.specs.LearnedLaws.{HasLearned-several}
use Rattle.nfg_syn.specs.Represents.{Represents}
use Rattle.nfg_syn.specs.RepresentsLaws.{Represents-append, Represents-take, Represents-drop, Represents-grows}
use Rattle.nfg_syn.specs.Seen.{Seen}
use Rattle.nfg_seam.specs.declared.error.SeamError.{SeamError}
use Rattle.nfg_seam.specs.declared.error.SeamError.TheVariants.{TooLong, ClusterLong, RowFull, NoPortion, OutOfMemory}
use Rattle.nfg_seam.specs.Numbered.{AreNumbered, AreRefused}
use Rattle.nfg_seam.specs.Woven.{woven, IsShifted}
use Rattle.nfg_seam.proofs.RepeatLearned.{Learned-again}
use Rattle.nfg_seam.proofs.RepeatSinks.{long_from, first_long-from}
use Rattle.nfg_seam.proofs.RepeatSpelled.{Represents-repeat, none_is_long}

-- ---- where a cluster is long

none-append : (i : ℕ) (xs ys : List (List ℕ)) → long_from i xs ≡ None → long_from i (xs ++ ys) ≡ long_from (i + length xs) ys
none-append i [] ys none = let same : i ≡ i + 0 = omega arith in ap (λ k. long_from k ys) same
none-append i (x ∷ xs) ys none = by (is_too_long x) none (none-append (i + 1) xs ys)
  where
    by : (b : Bool) → cond b (Some i) (long_from (i + 1) xs) ≡ None → (long_from (i + 1) xs ≡ None → long_from (i + 1) (xs ++ ys) ≡ long_from (i + 1 + length xs) ys)
        → cond b (Some i) (long_from (i + 1) (xs ++ ys)) ≡ long_from (i + length (x ∷ xs)) ys
    by true some rest = cc
    by false none rest = let sum : i + 1 + length xs ≡ i + length (x ∷ xs) = omega arith in rest none ∙ ap (λ k. long_from k ys) sum

some-append : (i k : ℕ) (xs ys : List (List ℕ)) → long_from i xs ≡ Some k → long_from i (xs ++ ys) ≡ Some k
some-append i k [] ys some = cc
some-append i k (x ∷ xs) ys some = by (is_too_long x) some (some-append (i + 1) k xs ys)
  where
    by : (b : Bool) → cond b (Some i) (long_from (i + 1) xs) ≡ Some k → (long_from (i + 1) xs ≡ Some k → long_from (i + 1) (xs ++ ys) ≡ Some k)
        → cond b (Some i) (long_from (i + 1) (xs ++ ys)) ≡ Some k
    by true some rest = some
    by false some rest = rest some

some-later : (i by k : ℕ) (xs : List (List ℕ)) → long_from i xs ≡ Some k → long_from (i + by) xs ≡ Some (k + by)
some-later i by k [] some = cc
some-later i by k (x ∷ xs) some = at (is_too_long x) some (some-later (i + 1) by k xs)
  where
    at : (b : Bool) → cond b (Some i) (long_from (i + 1) xs) ≡ Some k → (long_from (i + 1) xs ≡ Some k → long_from (i + 1 + by) xs ≡ Some (k + by))
        → cond b (Some (i + by)) (long_from (i + by + 1) xs) ≡ Some (k + by)
    at true some rest = let same : i ≡ k = cc in ap (λ n. Some (n + by)) same
    at false some rest = let sum : i + by + 1 ≡ i + 1 + by = omega arith in ap (λ n. long_from n xs) sum ∙ rest some

first_long-append : (xs ys : List (List ℕ)) → first_long xs ≡ None → first_long ys ≡ None → first_long (xs ++ ys) ≡ None
first_long-append xs ys first second =
    first_long-from (xs ++ ys) ∙ none-append 0 xs ys (sym (first_long-from xs) ∙ first) ∙ none-later (0 + length xs) ys (sym (first_long-from ys) ∙ second)
  where
    none-later : (by : ℕ) (ys : List (List ℕ)) → long_from 0 ys ≡ None → long_from by ys ≡ None
    none-later by ys none = from 0 by ys none
      where
        from : (i by : ℕ) (ys : List (List ℕ)) → long_from i ys ≡ None → long_from by ys ≡ None
        from i by [] none = refl
        from i by (y ∷ ys) none = at (is_too_long y) none (from (i + 1) (by + 1) ys)
          where
            at : (b : Bool) → cond b (Some i) (long_from (i + 1) ys) ≡ None → (long_from (i + 1) ys ≡ None → long_from (by + 1) ys ≡ None)
                → cond b (Some by) (long_from (by + 1) ys) ≡ None
            at true some rest = cc
            at false none rest = rest none

first_long-repeat : (n : ℕ) (xs : List (List ℕ)) → first_long xs ≡ None → first_long (repeat n xs) ≡ None
first_long-repeat zero xs none = refl
first_long-repeat (suc n) xs none = first_long-append xs (repeat n xs) none (first_long-repeat n xs none)

first_long-second : (xs ys zs : List (List ℕ)) (k : ℕ) → first_long xs ≡ None → first_long ys ≡ Some k → first_long (xs ++ (ys ++ zs)) ≡ Some (k + length xs)
first_long-second xs ys zs k none some =
    let sum : 0 + length xs ≡ length xs + 0 = omega arith in
    first_long-from (xs ++ (ys ++ zs)) ∙ none-append 0 xs (ys ++ zs) (sym (first_long-from xs) ∙ none)
    ∙ some-append (0 + length xs) (k + length xs) ys zs (some-later 0 (length xs) k ys (sym (first_long-from ys) ∙ some))

-- ---- the parts of a list several times over

module _ (size : ℕ) (known places : Texts) (knows : IsKnowledge size known places) (ns : List ℤ) (list : List (List ℕ)) (are : Represents known ns list) (left right : ℕ) where
  front_are : Represents known (take left ns) (take left list)
  front_are = Represents-take known left ns list are

  between_are : Represents known (slice_range ns right left) (slice_range list right left)
  between_are = Represents-take known _ (drop right ns) (drop right list) (Represents-drop known right ns list are)

  back_are : Represents known (drop left ns) (drop left list)
  back_are = Represents-drop known left ns list are

  -- no cluster of it is long where none of the middle is
  pub woven_short : (middle : List (List ℕ)) (seams : ℕ) → first_long middle ≡ None → first_long (woven list left right middle seams) ≡ None
  woven_short middle seams none =
      first_long-append (take left list) (repeat seams (middle ++ slice_range list right left) ++ drop left list)
      (none_is_long size known places knows (take left ns) (take left list) front_are)
      (first_long-append (repeat seams (middle ++ slice_range list right left)) (drop left list)
      (first_long-repeat seams (middle ++ slice_range list right left)
      (first_long-append middle (slice_range list right left) none (none_is_long size known places knows (slice_range ns right left) (slice_range list right left) between_are)))
      (none_is_long size known places knows (drop left ns) (drop left list) back_are))

  -- numbers for the middle are all that is needed
  pub woven_numbered : (new : Texts) → IsWithin known new → (middle : List (List ℕ)) (numbers : List ℤ) (seams : ℕ) → 0 < seams → AreNumbered middle known new numbers
      → AreNumbered (woven list left right middle seams) known new (woven ns left right numbers seams)
  woven_numbered new within middle numbers zero some all = absurd (omega (arith, some))
  woven_numbered new within middle numbers (suc more) some all = record {
    represents =
        Represents-append new (take left ns) _ (take left list) _ (grown (take left ns) (take left list) front_are)
        (Represents-append new (repeat (suc more) unit_numbers) (drop left ns) (repeat (suc more) unit) (drop left list) (Represents-repeat new unit_numbers unit (suc more) unit_are)
        (grown (drop left ns) (drop left list) back_are));
    learned =
        HasLearned-several known known new (take left list) _ (Learned-again known (take left ns) (take left list) front_are)
        (subst (λ cs. HasLearned known (several cs) new) (sym parts)
        (HasLearned-several known new new middle rest all.learned (Learned-again new rest_numbers rest rest_are)));
  }
    where
      y : List (List ℕ)
      y = slice_range list right left

      unit : List (List ℕ)
      unit = middle ++ y

      rest : List (List ℕ)
      rest = y ++ (repeat more unit ++ drop left list)

      unit_numbers : List ℤ
      unit_numbers = numbers ++ slice_range ns right left

      rest_numbers : List ℤ
      rest_numbers = slice_range ns right left ++ (repeat more unit_numbers ++ drop left ns)

      grown : (ns : List ℤ) (cs : List (List ℕ)) → Represents known ns cs → Represents new ns cs
      grown ns cs are = Represents-grows known new within ns cs are

      unit_are : Represents new unit_numbers unit
      unit_are = Represents-append new numbers (slice_range ns right left) middle y all.represents (grown (slice_range ns right left) y between_are)

      rest_are : Represents new rest_numbers rest
      rest_are =
          Represents-append new (slice_range ns right left) (repeat more unit_numbers ++ drop left ns) y (repeat more unit ++ drop left list) (grown (slice_range ns right left) y between_are)
          (Represents-append new (repeat more unit_numbers) (drop left ns) (repeat more unit) (drop left list) (Represents-repeat new unit_numbers unit more unit_are)
          (grown (drop left ns) (drop left list) back_are))

      parts : repeat (suc more) unit ++ drop left list ≡ middle ++ rest
      parts = append_assoc unit (repeat more unit) (drop left list) ∙ append_assoc middle y (repeat more unit ++ drop left list)

-- ---- refusals

stops_within : (front middle rest : List (List ℕ)) (old new : Texts) (Reason : List ℕ → Type 0) → HasLearned old (several front) old
    → (first_long middle ≡ None → first_long (front ++ (middle ++ rest)) ≡ None) → StopsAt middle old new Reason → StopsAt (front ++ (middle ++ rest)) old new Reason
stops_within front middle rest old new Reason known short stops = record {
  front = front ++ stops.front;
  cluster = stops.cluster;
  rest = stops.rest ++ rest;
  parts =
      ap (λ l. front ++ (l ++ rest)) stops.parts ∙ ap (λ l. front ++ l) (append_assoc stops.front (stops.cluster ∷ stops.rest) rest)
      ∙ sym (append_assoc front stops.front (stops.cluster ∷ (stops.rest ++ rest)));
  short = short stops.short;
  needs_number = stops.needs_number;
  unknown = stops.unknown;
  reason = stops.reason;
  learned = HasLearned-several old old new front stops.front known stops.learned;
}

-- what is refused of a part behind a known front
pub Refused-within : (front middle rest : List (List ℕ)) (old new : Seen) (error shifted : SeamError) (by : ℕ) → by ≡ length front → first_long front ≡ None
    → HasLearned old.known (several front) old.known → (first_long middle ≡ None → first_long (front ++ (middle ++ rest)) ≡ None)
    → AreRefused middle old new error → IsShifted error by shifted → AreRefused (front ++ (middle ++ rest)) old new shifted
Refused-within front middle rest old new TooLong shifted by place none known short never is = absurd never
Refused-within front middle rest old new (ClusterLong at) shifted by place none known short refused (inl is) =
    subst (λ e. AreRefused (front ++ (middle ++ rest)) old new e) (sym is)
    (first_long-second front middle rest at none refused.0 ∙ ap (λ n. Some (at + n)) (sym place), refused.1)
Refused-within front middle rest old new (ClusterLong at) shifted by place none known short refused (inr is) =
    subst (λ e. AreRefused (front ++ (middle ++ rest)) old new e) (sym is)
    (record { front = []; rest = front ++ (middle ++ rest); parts = refl; learned = refused.1 })
Refused-within front middle rest old new RowFull shifted by place none known short refused is =
    subst (λ e. AreRefused (front ++ (middle ++ rest)) old new e) (sym is)
    (stops_within front middle rest old.known new.known new.full known short refused)
Refused-within front middle rest old new NoPortion shifted by place none known short refused is =
    subst (λ e. AreRefused (front ++ (middle ++ rest)) old new e) (sym is)
    (stops_within front middle rest old.known new.known (λ _. new.drained) known short refused)
Refused-within front middle rest old new OutOfMemory shifted by place none known short refused is =
    subst (λ e. AreRefused (front ++ (middle ++ rest)) old new e) (sym is)
    (record {
      front = front ++ refused.front;
      rest = refused.rest ++ rest;
      parts =
          ap (λ l. front ++ (l ++ rest)) refused.parts ∙ ap (λ l. front ++ l) (append_assoc refused.front refused.rest rest)
          ∙ sym (append_assoc front refused.front (refused.rest ++ rest));
      learned = HasLearned-several old.known old.known new.known front refused.front known refused.learned;
    })
