-- Laws of what a list of numbers stands for.
use Rattle.std.proofs.Common.{◌≡◌, ℕ, suc, List, [], ◌∷◌, ◌++◌, length, take, drop, slice_get, Some, None, Bool, true, false, ℤ, pos, negsuc, refl, sym, ap, ◌∙◌, arith, subst, ◌↔◌, zero, if◌then◌else◌}
use Rattle.std.proofs.lemmas.Grind.{common_steps}
use lib.Utf8.{scalar as is_scalar}
use Rattle.nfg_syn.specs.Known.{Texts, IsKnowledge, IsWithin, MapsBesides}
use Rattle.nfg_syn.specs.Represents.{spelling, Represents}
use Rattle.nfg_syn.specs.KnownLaws.{same_text}

-- a scalar value spells itself, whatever is known
pub spelling-scalar : (known : Texts) (c : ℕ) → is_scalar c ≡ true → spelling known (pos c) ≡ Some (c ∷ [])
spelling-scalar known c scalar = rw scalar refl

-- a number that was interned spells its text
pub spelling-interned : (old new : Texts) (n : ℤ) (t : List ℕ) → MapsBesides old n t new → spelling new n ≡ Some t
spelling-interned old new (pos c) t never = absurd never
spelling-interned old new (negsuc m) t besides = besides.0

-- what a number of 0 or more spells does not depend on what is known
pub spelling-pos : (f g : Texts) (c : ℕ) → spelling f (pos c) ≡ spelling g (pos c)
spelling-pos f g c = refl

-- more knowledge changes no spelling
pub spelling-grows : (old new : Texts) → IsWithin old new → (n : ℤ) (t : List ℕ) → spelling old n ≡ Some t → spelling new n ≡ Some t
spelling-grows old new within (pos c) t e = e
spelling-grows old new within (negsuc m) t e = within m t e

pub Represents-grows : (old new : Texts) → IsWithin old new → (numbers : List ℤ) (clusters : List (List ℕ)) → Represents old numbers clusters → Represents new numbers clusters
Represents-grows old new within [] [] r = tt
Represents-grows old new within [] (c ∷ cs) r = absurd r
Represents-grows old new within (n ∷ ns) [] r = absurd r
Represents-grows old new within (n ∷ ns) (c ∷ cs) r = (spelling-grows old new within n c r.0, Represents-grows old new within ns cs r.1)

pub Represents-append : (known : Texts) (ms ns : List ℤ) (bs cs : List (List ℕ)) → Represents known ms bs → Represents known ns cs → Represents known (ms ++ ns) (bs ++ cs)
Represents-append known [] ns [] cs r s = s
Represents-append known [] ns (b ∷ bs) cs r s = absurd r
Represents-append known (m ∷ ms) ns [] cs r s = absurd r
Represents-append known (m ∷ ms) ns (b ∷ bs) cs r s = (r.0, Represents-append known ms ns bs cs r.1 s)

-- one more number, for one more cluster
pub Represents-push : (known : Texts) (ns : List ℤ) (cs : List (List ℕ)) (n : ℤ) (c : List ℕ) → Represents known ns cs → spelling known n ≡ Some c → Represents known (ns ++ n ∷ []) (cs ++ c ∷ [])
Represents-push known ns cs n c r e = Represents-append known ns (n ∷ []) cs (c ∷ []) r (e, tt)

pub Represents-take : (known : Texts) (i : ℕ) (ns : List ℤ) (cs : List (List ℕ)) → Represents known ns cs → Represents known (take i ns) (take i cs)
Represents-take known zero ns cs r = tt
Represents-take known (suc i) [] [] r = tt
Represents-take known (suc i) [] (c ∷ cs) r = absurd r
Represents-take known (suc i) (n ∷ ns) [] r = absurd r
Represents-take known (suc i) (n ∷ ns) (c ∷ cs) r = (r.0, Represents-take known i ns cs r.1)

pub Represents-drop : (known : Texts) (i : ℕ) (ns : List ℤ) (cs : List (List ℕ)) → Represents known ns cs → Represents known (drop i ns) (drop i cs)
Represents-drop known zero ns cs r = r
Represents-drop known (suc i) [] [] r = tt
Represents-drop known (suc i) [] (c ∷ cs) r = absurd r
Represents-drop known (suc i) (n ∷ ns) [] r = absurd r
Represents-drop known (suc i) (n ∷ ns) (c ∷ cs) r = Represents-drop known i ns cs r.1

-- there are as many numbers as clusters
pub Represents-length : (known : Texts) (ns : List ℤ) (cs : List (List ℕ)) → Represents known ns cs → length ns ≡ length cs
Represents-length known [] [] r = refl
Represents-length known [] (c ∷ cs) r = absurd r
Represents-length known (n ∷ ns) [] r = absurd r
Represents-length known (n ∷ ns) (c ∷ cs) r = let shorter = Represents-length known ns cs r.1 in grind (arith, common_steps, shorter)

-- the number at a place spells the cluster there
pub Represents-at : (known : Texts) (ns : List ℤ) (cs : List (List ℕ)) → Represents known ns cs → (i : ℕ) (n : ℤ) (c : List ℕ) → slice_get ns i ≡ Some n → slice_get cs i ≡ Some c → spelling known n ≡ Some c
Represents-at known [] [] r i n c e f = cc
Represents-at known [] (d ∷ cs) r i n c e f = absurd r
Represents-at known (m ∷ ns) [] r i n c e f = absurd r
Represents-at known (m ∷ ns) (d ∷ cs) r zero n c e f = cc (r.0)
Represents-at known (m ∷ ns) (d ∷ cs) r (suc i) n c e f = Represents-at known ns cs r.1 i n c e f

one_if : (test : Bool) (c : ℕ) (t : List ℕ) → (if test then Some (c ∷ []) else None) ≡ Some t → (test ≡ true) × (t ≡ c ∷ [])
one_if true c t e = (refl, cc)
one_if false c t e = cc

-- a number of 0 or more that spells a text is a scalar value, and the text is that one code point
pub spelling-one : (known : Texts) (c : ℕ) (t : List ℕ) → spelling known (pos c) ≡ Some t → (is_scalar c ≡ true) × (t ≡ c ∷ [])
spelling-one known c t e = one_if (is_scalar c) c t e

-- no text has two spellings
pub spelling-one_to_one : (size : ℕ) (known places : Texts) → IsKnowledge size known places → (m n : ℤ) (t : List ℕ) → spelling known m ≡ Some t → spelling known n ≡ Some t → m ≡ n
spelling-one_to_one size known places knows (pos c) (pos d) t e f = let one = (spelling-one known c t e).1 in let other = (spelling-one known d t f).1 in cc
spelling-one_to_one size known places knows (pos c) (negsuc b) t e f = let one = ap length (spelling-one known c t e).1 in let several = (knows.numbers b t f).1.several in absurd (omega arith)
spelling-one_to_one size known places knows (negsuc a) (pos d) t e f = let one = ap length (spelling-one known d t f).1 in let several = (knows.numbers a t e).1.several in absurd (omega arith)
spelling-one_to_one size known places knows (negsuc a) (negsuc b) t e f = ap (λ m. negsuc m) (knows.one_to_one a b t e f)

-- the numbers determine the clusters
pub Represents-clusters : (known : Texts) (ns : List ℤ) (bs cs : List (List ℕ)) → Represents known ns bs → Represents known ns cs → bs ≡ cs
Represents-clusters known [] [] [] r s = refl
Represents-clusters known [] [] (c ∷ cs) r s = absurd s
Represents-clusters known [] (b ∷ bs) cs r s = absurd r
Represents-clusters known (n ∷ ns) [] cs r s = absurd r
Represents-clusters known (n ∷ ns) (b ∷ bs) [] r s = absurd s
Represents-clusters known (n ∷ ns) (b ∷ bs) (c ∷ cs) r s = let first : b ≡ c = same_text b c (sym r.0 ∙ s.0) in let rest = Represents-clusters known ns bs cs r.1 s.1 in cc

-- the clusters determine the numbers
pub Represents-numbers : (size : ℕ) (known places : Texts) → IsKnowledge size known places → (ms ns : List ℤ) (cs : List (List ℕ)) → Represents known ms cs → Represents known ns cs → ms ≡ ns
Represents-numbers size known places knows [] [] [] r s = refl
Represents-numbers size known places knows [] (n ∷ ns) [] r s = absurd s
Represents-numbers size known places knows [] ns (c ∷ cs) r s = absurd r
Represents-numbers size known places knows (m ∷ ms) ns [] r s = absurd r
Represents-numbers size known places knows (m ∷ ms) [] (c ∷ cs) r s = absurd s
Represents-numbers size known places knows (m ∷ ms) (n ∷ ns) (c ∷ cs) r s = let first = spelling-one_to_one size known places knows m n c r.0 s.0 in let rest = Represents-numbers size known places knows ms ns cs r.1 s.1 in cc

-- two lists are equal exactly where the clusters are that they stand for
pub Represents-same : (size : ℕ) (known places : Texts) → IsKnowledge size known places → (ms ns : List ℤ) (bs cs : List (List ℕ)) → Represents known ms bs → Represents known ns cs → (ms ≡ ns) ↔ (bs ≡ cs)
Represents-same size known places knows ms ns bs cs r s = (
  λ same. Represents-clusters known ns bs cs (subst (λ numbers. Represents known numbers bs) same r) s,
  λ same. Represents-numbers size known places knows ms ns cs (subst (Represents known ms) same r) s,
)
