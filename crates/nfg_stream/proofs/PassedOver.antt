-- Places that are passed over, since the numbers there are code points.
use Rattle.std.proofs.Common.{◌≡◌, ℕ, zero, suc, ◌+◌, ◌-◌, ◌<◌, ◌≤◌, true, List, [], ◌∷◌, ◌++◌, length, map, take, drop, take-add, get_or, ℤ, pos, negsuc, refl, sym, ap, subst, ◌∙◌, arith}
use Rattle.std.proofs.lemmas.Bool.{both_ways}
use lib.Signed.{le_z}
use Rattle.std.proofs.lemmas.List.{take_more, take-map, drop-map, drop-drop, length-drop, get_or-drop}
use Rattle.nfg_syn.specs.Known.{Texts}
use Rattle.nfg_syn.specs.RepresentsLaws.{Represents-append}
use Rattle.nfg_stream.specs.Collected.{kept_as}
use Rattle.nfg_stream.specs.Numbering.{AreClusters, AreNumbered}
use Rattle.nfg_stream.specs.Numbers.{ArePlain}
use Rattle.nfg_syn.specs.LearnedLaws.{HasLearned-several}
use Rattle.nfg_stream.proofs.Numbered.{Numbered-clear}

clusters-drop : (k : ℕ) (cs : List (List ℕ)) → AreClusters cs → AreClusters (drop k cs)
clusters-drop zero cs are = are
clusters-drop (suc k) [] are = tt
clusters-drop (suc k) (c ∷ cs) are = clusters-drop k cs are.1

clusters-take : (k : ℕ) (cs : List (List ℕ)) → AreClusters cs → AreClusters (take k cs)
clusters-take zero cs are = tt
clusters-take (suc k) [] are = tt
clusters-take (suc k) (c ∷ cs) are = (are.0, clusters-take k cs are.1)

pub Numbered-on : (longer : List (List ℕ)) (ns numbers : List ℤ) (k next : ℕ) (old mid : Texts) → k ≤ next → drop k numbers ≡ drop k ns
    → ArePlain (take (next - k) (drop k numbers)) → AreClusters (map (kept_as longer) ns)
    → AreNumbered (take k (map (kept_as longer) ns)) old mid (take k numbers) → AreNumbered (take next (map (kept_as longer) ns)) old mid (take next numbers)
Numbered-on longer ns numbers k next old mid later rest plain are so_far =
    let run = take (next - k) (drop k numbers) in
    let heads = map (kept_as longer) ns in
    let on : next ≡ k + (next - k) = omega (arith, later) in
    let front : take next numbers ≡ take k numbers ++ run = ap (λ n. take n numbers) on ∙ take-add k (next - k) numbers in
    let same : take (next - k) (drop k heads) ≡ map (kept_as longer) run =
    ap (take (next - k)) (drop-map (kept_as longer) k ns ∙ ap (map (kept_as longer)) (sym rest)) ∙ take-map (kept_as longer) (next - k) (drop k numbers)
    in
    let both : take next heads ≡ take k heads ++ map (kept_as longer) run =
    ap (λ n. take n heads) on ∙ take-add k (next - k) heads ∙ ap (λ l. take k heads ++ l) same
    in
    let clear = Numbered-clear longer mid run plain (subst AreClusters same (clusters-take (next - k) (drop k heads) (clusters-drop k heads are))) in
    subst (λ cs. AreNumbered cs old mid (take next numbers)) (sym both)
    (subst (λ l. AreNumbered (take k heads ++ map (kept_as longer) run) old mid l) (sym front)
    (record {
      represents = Represents-append mid (take k numbers) run (take k heads) (map (kept_as longer) run) so_far.represents clear.represents;
      learned = HasLearned-several old mid mid (take k heads) (map (kept_as longer) run) so_far.learned clear.learned;
    }))

-- what is the same from a place on is so from a later one on
pub same_later : (xs ys : List ℤ) (k next : ℕ) → k ≤ next → drop k xs ≡ drop k ys → drop next xs ≡ drop next ys
same_later xs ys k next later same =
    let on : next ≡ k + (next - k) = omega (arith, later) in
    ap (λ n. drop n xs) on ∙ sym (drop-drop (next - k) k xs) ∙ ap (drop (next - k)) same ∙ drop-drop (next - k) k ys ∙ ap (λ n. drop n ys) (sym on)

-- one place more
plain-append : (xs ys : List ℤ) → ArePlain xs → ArePlain ys → ArePlain (xs ++ ys)
plain-append [] ys plain more = more
plain-append (pos c ∷ xs) ys plain more = plain-append xs ys plain more
plain-append (negsuc k ∷ xs) ys never more = absurd never

plain-one : (n : ℤ) → le_z (pos 0) n ≡ true → ArePlain (n ∷ [])
plain-one (pos c) above = tt
plain-one (negsuc k) never = absurd (both_ways (le_z (pos 0) (negsuc k)) refl never)

pub plain-more : (ns : List ℤ) (start at : ℕ) → start ≤ at → at < length ns → le_z (pos 0) (get_or ns at (pos 0)) ≡ true → ArePlain (take (at - start) (drop start ns))
    → ArePlain (take ((at + 1) - start) (drop start ns))
plain-more ns start at later within above plain =
    let behind = drop start ns in
    let count = at - start in
    let further : (at + 1) - start ≡ count + 1 = omega (arith, later) in
    let on : start + count ≡ at = omega (arith, later) in
    let inside : count < length behind = omega (arith, within, later, length-drop start ns) in
    let here = ap (λ i. get_or ns i (pos 0)) (sym on) ∙ sym (get_or-drop start ns count (pos 0)) in
    subst ArePlain (sym (ap (λ n. take n behind) further ∙ take_more behind count (pos 0) inside))
    (plain-append (take count behind) (get_or behind count (pos 0) ∷ []) plain (plain-one (get_or behind count (pos 0)) (subst (λ n. le_z (pos 0) n ≡ true) here above)))
