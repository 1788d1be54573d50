-- Lists of numbers are the same exactly where the clusters are that they stand for, and stand in each other likewise.
use Rattle.std.proofs.Common.{◌≡◌, ◌↔◌, ℕ, ◌+◌, suc, List, [], ◌∷◌, length, take, drop, Bool, true, false, ◌&&◌, ◌==◌, nat_le, cond, ℤ, IsTrue, refl, sym, subst, ap, ap₂, ◌∙◌, arith}
use Rattle.std.specs.List.{common_prefix_len}
use Rattle.std.specs.Cmp.Lexicographic.{pointwise, pointwise_decides, bytes_decides}
use Rattle.std.specs.Cmp.Rules.{signed_items}
use Rattle.std.specs.Ordering.{int_eq}
use Rattle.std.specs.Str.{bytes_eq}
use Rattle.std.proofs.lemmas.Bool.{ne_eqb, eqb-true, eq-eqb}
use Rattle.nfg_text.specs.Graphemes.{IsInNfg, AreEquivalent, graphemes_of}
use Rattle.nfg_text.specs.Operations.{occurs_at}
use Rattle.nfg_text.specs.Text.{text_of}
use Rattle.nfg_text.proofs.Proved.{graphemes_decide_equivalence}
use Rattle.nfg_syn.specs.Known.{Texts, IsKnowledge}
use Rattle.nfg_syn.specs.Represents.{Represents, AreGraphemes}
use Rattle.nfg_syn.specs.RepresentsLaws.{Represents-clusters, Represents-same, Represents-length, Represents-take, Represents-drop}
use Rattle.nfg_ops.specs.Places.{stand_at}

-- two tests that are true in the same cases are the same
pub same_test : (a b : Bool) → (a ≡ true → b ≡ true) → (b ≡ true → a ≡ true) → a ≡ b
same_test true b to from = sym (to refl)
same_test false true to from = from refl
same_test false false to from = refl

one-more : (m n : ℕ) → (1 + m == suc n) ≡ (m == n)
one-more m n = same_test (1 + m == suc n) (m == n)
    (λ e. let both = eqb-true (1 + m) (suc n) e in eq-eqb m n (omega (arith, both)))
    (λ e. let both = eqb-true m n e in eq-eqb (1 + m) (suc n) (omega (arith, both)))

-- lists of one length have all in common exactly where they are the same at each place
pub common-whole : {A : Type 0} (same : A → A → Bool) (xs ys : List A) → length xs ≡ length ys
    → (common_prefix_len same xs ys == length ys) ≡ pointwise same xs ys
common-whole same [] [] long = refl
common-whole same [] (y ∷ ys) long = absurd (omega (arith, long))
common-whole same (x ∷ xs) [] long = absurd (omega (arith, long))
common-whole same (x ∷ xs) (y ∷ ys) long =
    elim (same x y) as (λ (b : Bool). (cond b (1 + common_prefix_len same xs ys) 0 == suc (length ys)) ≡ (b && pointwise same xs ys)) [
      | true ↦ one-more (common_prefix_len same xs ys) (length ys) ∙ common-whole same xs ys (omega (arith, long))
      | false ↦ ne_eqb 0 (suc (length ys)) (λ e. absurd (omega (arith, e)))
    ]

-- clusters are the same, one by one, exactly where their numbers are
pub numbers-decide : (size : ℕ) (known places : Texts) → IsKnowledge size known places → (ms ns : List ℤ) (bs cs : List (List ℕ))
    → Represents known ms bs → Represents known ns cs → pointwise int_eq ms ns ≡ pointwise bytes_eq bs cs
numbers-decide size known places knows ms ns bs cs left right =
    let same = Represents-same size known places knows ms ns bs cs left right in
    same_test (pointwise int_eq ms ns) (pointwise bytes_eq bs cs)
    (λ e. (clusters_decide bs cs).1 (same.0 ((signed_items ms ns).0 e)))
    (λ e. (signed_items ms ns).1 (same.1 ((clusters_decide bs cs).0 e)))
  where
    clusters_decide : (bs cs : List (List ℕ)) → (pointwise bytes_eq bs cs ≡ true) ↔ (bs ≡ cs)
    clusters_decide bs cs = pointwise_decides bytes_decides bs cs

-- so a part occurs where its numbers stand
pub stand-occurs : (size : ℕ) (known places : Texts) → IsKnowledge size known places → (numbers needle : List ℤ) (list part : List (List ℕ))
    → Represents known numbers list → Represents known needle part → (place : ℕ) → stand_at numbers needle place ≡ occurs_at list part place
stand-occurs size known places knows numbers needle list part whole few place =
    let long = Represents-length known numbers list whole in
    let wide = Represents-length known needle part few in
    let front : Represents known (take (length needle) (drop place numbers)) (take (length needle) (drop place list)) =
    Represents-take known (length needle) (drop place numbers) (drop place list) (Represents-drop known place numbers list whole) in
    ap₂ ◌&&◌ (ap₂ (λ n m. nat_le (place + n) m) wide long)
    (numbers-decide size known places knows (take (length needle) (drop place numbers)) needle (take (length needle) (drop place list)) part front few
    ∙ ap (λ n. pointwise bytes_eq (take n (drop place list)) part) wide)

-- the clusters that graphemes stand for are those of a text
pub graphemes-in_nfg : (known : Texts) (numbers : List ℤ) (clusters : List (List ℕ)) → AreGraphemes known numbers → Represents known numbers clusters → IsInNfg clusters
graphemes-in_nfg known numbers clusters are represents =
    subst IsInNfg (Represents-clusters known numbers are.0 clusters are.1 represents) are.2

-- graphemes have the same numbers exactly where their texts are equivalent
pub numbers-equivalent : (size : ℕ) (known places : Texts) → IsKnowledge size known places → (ms ns : List ℤ) → AreGraphemes known ms → AreGraphemes known ns
    → (left right : List (List ℕ)) → Represents known ms left → Represents known ns right → (same : Bool) → same ≡ pointwise int_eq ms ns
    → IsTrue same ↔ AreEquivalent (text_of left) (text_of right)
numbers-equivalent size known places knows ms ns are other_are left right represents other_represents same said =
    let clusters = Represents-same size known places knows ms ns left right represents other_represents in
    let decide = graphemes_decide_equivalence (text_of left) (text_of right) in
    let first : left ≡ graphemes_of (text_of left) = graphemes-in_nfg known ms left are represents in
    let second : right ≡ graphemes_of (text_of right) = graphemes-in_nfg known ns right other_are other_represents in (
      λ e. decide.0 (sym first ∙ clusters.0 ((signed_items ms ns).0 (sym said ∙ e)) ∙ second),
      λ e. said ∙ (signed_items ms ns).1 (clusters.1 (first ∙ decide.1 e ∙ sym second)),
    )
