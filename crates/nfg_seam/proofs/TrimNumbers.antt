-- Numbers have as much in common as the clusters that they stand for.
use Rattle.std.proofs.Common.{◌≡◌, ℕ, ◌+◌, ◌-◌, min, Bool, true, false, cond, List, [], ◌∷◌, ◌++◌, length, take, drop, reverse, bytes_eq, Some, ℤ, refl, sym, ap, ap₂, subst, ◌∙◌}
use Rattle.std.proofs.lemmas.Bool.Decides.{Decides-int_eq}
use Rattle.std.proofs.lemmas.List.{reverse-append}
use Rattle.std.proofs.lemmas.Slice.Eq.{bytes_eq-Decides}
use Rattle.std.specs.List.{common_prefix_len}
use Rattle.std.specs.Ordering.{int_eq}
use Rattle.nfg_syn.specs.Known.{Texts, IsKnowledge}
use Rattle.nfg_syn.specs.KnownLaws.{same_text}
use Rattle.nfg_syn.specs.Represents.{Represents, spelling}
use Rattle.nfg_syn.specs.RepresentsLaws.{spelling-one_to_one, Represents-append, Represents-take, Represents-drop, Represents-length}
use Rattle.nfg_seam.specs.ConcatNumbers.{front_of, back_of, between}
use Rattle.nfg_seam.proofs.TrimSeam.{kept_front, kept_back}

same_test : (x y : Bool) → (x ≡ true → y ≡ true) → (y ≡ true → x ≡ true) → x ≡ y
same_test true true there back = refl
same_test true false there back = sym (there refl)
same_test false true there back = back refl
same_test false false there back = refl

same_spelled : (size : ℕ) (known places : Texts) → IsKnowledge size known places → (m n : ℤ) (c d : List ℕ) → spelling known m ≡ Some c → spelling known n ≡ Some d
    → int_eq m n ≡ bytes_eq c d
same_spelled size known places knows m n c d e f =
    same_test (int_eq m n) (bytes_eq c d)
    (λ same. (bytes_eq-Decides c d).1 (same_text c d (sym e ∙ ap (spelling known) ((Decides-int_eq m n).0 same) ∙ f)))
    (λ same. (Decides-int_eq m n).1 (spelling-one_to_one size known places knows m n d (e ∙ ap (λ t. Some t) ((bytes_eq-Decides c d).0 same)) f))

-- from the front on
pub common-numbers : (size : ℕ) (known places : Texts) → IsKnowledge size known places → (ms ns : List ℤ) (cs ds : List (List ℕ)) → Represents known ms cs → Represents known ns ds
    → common_prefix_len int_eq ms ns ≡ common_prefix_len bytes_eq cs ds
common-numbers size known places knows [] ns [] ds r s = refl
common-numbers size known places knows [] ns (c ∷ cs) ds r s = absurd r
common-numbers size known places knows (m ∷ ms) ns [] ds r s = absurd r
common-numbers size known places knows (m ∷ ms) [] (c ∷ cs) [] r s = refl
common-numbers size known places knows (m ∷ ms) [] (c ∷ cs) (d ∷ ds) r s = absurd s
common-numbers size known places knows (m ∷ ms) (n ∷ ns) (c ∷ cs) [] r s = absurd s
common-numbers size known places knows (m ∷ ms) (n ∷ ns) (c ∷ cs) (d ∷ ds) r s =
    ap₂ (λ b k. cond b (1 + k) 0) (same_spelled size known places knows m n c d r.0 s.0) (common-numbers size known places knows ms ns cs ds r.1 s.1)

pub Represents-reverse : (known : Texts) (ns : List ℤ) (cs : List (List ℕ)) → Represents known ns cs → Represents known (reverse ns) (reverse cs)
Represents-reverse known [] [] r = tt
Represents-reverse known [] (c ∷ cs) r = absurd r
Represents-reverse known (n ∷ ns) [] r = absurd r
Represents-reverse known (n ∷ ns) (c ∷ cs) r =
    subst (λ ms. Represents known ms (reverse (c ∷ cs))) (sym (reverse-append (n ∷ []) ns))
    (subst (λ ds. Represents known (reverse ns ++ n ∷ []) ds) (sym (reverse-append (c ∷ []) cs))
    (Represents-append known (reverse ns) (n ∷ []) (reverse cs) (c ∷ []) (Represents-reverse known ns cs r.1) (r.0, tt)))

-- what is kept of a and b, told by numbers
pub front-numbers : (size : ℕ) (known places : Texts) → IsKnowledge size known places → (ns ms : List ℤ) (a cs : List (List ℕ)) (left : ℕ) → Represents known ns a → Represents known ms cs
    → front_of ns left ms ≡ kept_front a left cs
front-numbers size known places knows ns ms a cs left r s =
    common-numbers size known places knows (drop left ns) ms (drop left a) cs (Represents-drop known left ns a r) s

pub back-numbers : (size : ℕ) (known places : Texts) → IsKnowledge size known places → (ns ms : List ℤ) (b cs : List (List ℕ)) (right front : ℕ) → Represents known ns b → Represents known ms cs
    → back_of ns right ms front ≡ kept_back b right cs front
back-numbers size known places knows ns ms b cs right front r s =
    ap₂ (λ m n. min m (n - front))
    (common-numbers size known places knows (reverse (take right ns)) (reverse ms) (reverse (take right b)) (reverse cs)
    (Represents-reverse known (take right ns) (take right b) (Represents-take known right ns b r)) (Represents-reverse known ms cs s))
    (Represents-length known ms cs s)

-- what stands between stands for what is new
pub between-numbers : (known : Texts) (ms : List ℤ) (cs : List (List ℕ)) (front back : ℕ) → Represents known ms cs
    → Represents known (between ms front back) (take (length cs - front - back) (drop front cs))
between-numbers known ms cs front back r =
    subst (λ n. Represents known (between ms front back) (take (n - front - back) (drop front cs))) (Represents-length known ms cs r)
    (Represents-take known (length ms - front - back) (drop front ms) (drop front cs) (Represents-drop known front ms cs r))
