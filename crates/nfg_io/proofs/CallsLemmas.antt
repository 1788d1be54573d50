-- The numbers of the calls that fail, as the keys of a set and as a finite set.
use Rattle.std.proofs.Common.{◌≡◌, ℕ, ◌<◌, ◌||◌, Bool, true, false, cond, List, refl, sym, ap, ◌∙◌, arith, rules}
use Rattle.std.specs.Ordering.{nat_cmp, eq_by_cmp}
use Rattle.std.specs.Cmp.{nat_cmp_total, unsigned_tied, eq_by_cmp_equiv}
use Rattle.std.specs.List.{list_any}
use Rattle.std.specs.FinSet.{FinSet, contains, insert, from_list, contains-from_list, contains-insert, same_set, nat_cmp-IsAntisymmetric}

-- the keys as a set have a number where one of them is equal to it
abbrev pub has_key : List ℕ → ℕ → Bool
has_key keys number = list_any (eq_by_cmp nat_cmp number) keys

or-cond : (b c : Bool) → cond b true c ≡ (b || c)
or-cond true c = refl
or-cond false c = refl

-- keys that have one number more are the set with that number
pub from_list-insert : (old new : List ℕ) (number : ℕ)
    → ((q : ℕ) → has_key new q ≡ cond (eq_by_cmp nat_cmp number q) true (has_key old q))
    → from_list {R = nat_cmp} new ≡ insert (from_list old) number
from_list-insert old new number updates =
    same_set nat_cmp_total nat_cmp-IsAntisymmetric _ _ (λ q.
    contains-from_list nat_cmp_total new q
    ∙ updates q
    ∙ or-cond (eq_by_cmp nat_cmp number q) (has_key old q)
    ∙ ap (λ b. b || has_key old q) ((eq_by_cmp_equiv nat_cmp_total).symm number q)
    ∙ ap (λ b. eq_by_cmp nat_cmp q number || b) (sym (contains-from_list nat_cmp_total old q))
    ∙ sym (contains-insert nat_cmp_total (from_list old) number q))

-- a number that is not inserted stays out
pub contains-insert_other : (failing : FinSet nat_cmp) (number other : ℕ) → number < other → contains failing other ≡ false
    → contains (insert failing number) other ≡ false
contains-insert_other failing number other below out =
    let apart : eq_by_cmp nat_cmp other number ≡ false = unsigned_tied other number ∙ grind (arith, rules) in
    contains-insert nat_cmp_total failing number other ∙ (λ i. apart i || out i)
