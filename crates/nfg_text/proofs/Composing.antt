-- Composing and joining: what NFC does at a starter, and when two parts of a text in NFC are in NFC.
use Rattle.std.proofs.Common.{◌≡◌, ◌⊎◌, ℕ, ◌+◌, ◌≤◌, false, List, [], ◌∷◌, ◌++◌, length, flat_map, refl, sym, ap, ap₂, subst, ◌∙◌, arith, inl, inr, append-nil, append_assoc, length-append}
use Rattle.std.proofs.lemmas.Bool.{cases_lt}
use Rattle.std.proofs.lemmas.Grind.{flat_map-append}
use Rattle.ucd_normal.specs.CanonicalCombiningClass.{canonical_combining_class as ccc}
use Rattle.unicode_normalization.specs.Compose.{is_blocked, joined, compose_after, compose}
use Rattle.unicode_normalization.specs.Decompose.{decompose}
use Rattle.unicode_normalization.specs.Forms.{Nfd, nfc, nfd, decomposed, normalize}
use Rattle.unicode_normalization.specs.Order.{canonical_order}
use Rattle.unicode_normalization.proofs.ComposeLemmas.{cases_Option, is_blocked-parts, joined-some, joined-free, compose_after-cases, compose_after-nil, compose_after-joined, compose_after-starter, compose_after-kept, compose-nil, compose-starter, compose-mark}
use Rattle.unicode_normalization.proofs.DecomposeLemmas.{IsFull-decompose, decompose-primary_composite}
use Rattle.unicode_normalization.proofs.FormsLemmas.{nfc-by_nfd, nfd-nfc}
use Rattle.unicode_normalization.proofs.OrderLemmas.{is_reorderable-true, canonical_order-nil, canonical_order-at_starter, length-canonical_order}

-- ---- the length of the NFD of a text

abbrev pub parts : List ℕ → List ℕ
parts = flat_map (decompose Nfd)

abbrev size : List ℕ → ℕ
size t = length (parts t)

pub size-nfd : (t : List ℕ) → length (nfd t) ≡ size t
unfolding normalize decomposed
size-nfd t = length-canonical_order (parts t)

size-nfc : (t : List ℕ) → size (nfc t) ≡ size t
size-nfc t = sym (size-nfd (nfc t)) ∙ ap length (nfd-nfc t) ∙ size-nfd t

size-append : (x y : List ℕ) → size (x ++ y) ≡ size x + size y
size-append x y = ap length (flat_map-append (decompose Nfd) x y) ∙ length-append (parts x) (parts y)

pub one_part : (c : ℕ) → 1 ≤ length (decompose Nfd c)
one_part c = (IsFull-decompose Nfd c).some

size-cons : (c : ℕ) (t : List ℕ) → size (c ∷ t) ≡ length (decompose Nfd c) + size t
size-cons c t = length-append (decompose Nfd c) (parts t)

-- ---- two ways to part one list in two

abbrev pub Parted : List ℕ → List ℕ → List ℕ → List ℕ → Type 0
Parted a b x y = (z : List ℕ) × (x ≡ a ++ z) × (b ≡ z ++ y)

pub parted : (a b x y : List ℕ) → a ++ b ≡ x ++ y → Parted a b x y ⊎ Parted x y a b
parted [] b x y e = inl (x, refl, e)
parted (c ∷ a) b [] y e = inr (c ∷ a, refl, sym e)
parted (c ∷ a) b (d ∷ x) y e =
    let first : c ≡ d = cc in
    let rest : a ++ b ≡ x ++ y = cc in
    elim (parted a b x y rest) [
      | inl h ↦ inl (h.0, ap₂ ◌∷◌ (sym first) h.1, h.2)
      | inr h ↦ inr (h.0, ap₂ ◌∷◌ first h.1, h.2)
    ]

-- where the NFCs of two parts make up the joined text, each part is in NFC
pub same_parts : (x y : List ℕ) → nfc x ++ nfc y ≡ x ++ y → (nfc x ≡ x) × (nfc y ≡ y)
same_parts x y e =
    elim (parted (nfc x) (nfc y) x y e) [
      | inl h ↦ from_rest h.0 (nothing h.0 (nfc x) x h.1 (sym (size-nfc x))) h.1 h.2
      | inr h ↦ back_rest h.0 (nothing h.0 x (nfc x) h.1 (size-nfc x)) h.1 h.2
    ]
  where
    nothing : (z a b : List ℕ) → b ≡ a ++ z → size b ≡ size a → z ≡ []
    nothing [] a b f g = refl
    nothing (c ∷ z) a b f g =
        let one = one_part c in
        absurd (omega (arith, ap size f, size-append a (c ∷ z), size-cons c z, g))

    from_rest : (z : List ℕ) → z ≡ [] → x ≡ nfc x ++ z → nfc y ≡ z ++ y → (nfc x ≡ x) × (nfc y ≡ y)
    from_rest z none f g = (sym (f ∙ ap (λ l. nfc x ++ l) none ∙ append-nil (nfc x)), g ∙ ap (λ l. l ++ y) none)

    back_rest : (z : List ℕ) → z ≡ [] → nfc x ≡ x ++ z → y ≡ z ++ nfc y → (nfc x ≡ x) × (nfc y ≡ y)
    back_rest z none f g = (f ∙ ap (λ l. x ++ l) none ∙ append-nil x, sym (g ∙ ap (λ l. l ++ nfc y) none))

-- ---- composing up to a starter

-- the last starter of the first part has composed with something of the second, and decomposes to more than before
abbrev Grown : List ℕ → List ℕ → Type 0
Grown front whole =
    (u : List ℕ) × (s : ℕ) × (p : ℕ) × (w : List ℕ) × (front ≡ u ++ s ∷ []) × (whole ≡ u ++ p ∷ w) × (length (decompose Nfd s) + 1 ≤ length (decompose Nfd p))

grown-behind : (v front whole : List ℕ) → Grown front whole → Grown (v ++ front) (v ++ whole)
grown-behind v front whole g =
    (v ++ g.0, g.1, g.2, g.3, ap (λ l. v ++ l) g.4 ∙ sym (append_assoc v g.0 _), ap (λ l. v ++ l) g.5 ∙ sym (append_assoc v g.0 _), g.6)

first_grows : (s : ℕ) (bs cs : List ℕ) → (p : ℕ) × (w : List ℕ) × (compose_after s bs cs ≡ p ∷ w) × (length (decompose Nfd s) ≤ length (decompose Nfd p))
first_grows s bs [] = (s, bs, compose_after-nil s bs, omega arith)
first_grows s bs (c ∷ cs) =
    compose_after-cases s bs c cs (λ l. (p : ℕ) × (w : List ℕ) × (l ≡ p ∷ w) × (length (decompose Nfd s) ≤ length (decompose Nfd p)))
    (λ p _ both.
    let later = first_grows p bs cs in
    let wide = ap length (decompose-primary_composite Nfd s c p both) ∙ length-append (decompose Nfd s) (decompose Nfd c) in
    (later.0, later.1, later.2, omega (arith, later.3)))
    (λ _ _. (s, bs ++ compose_after c [] cs, refl, omega arith))
    (λ _ _. first_grows s (bs ++ c ∷ []) cs)

-- only what stands right behind a starter may be a starter that composes with it
free_at_once : (bs : List ℕ) (c : ℕ) → ccc c ≤ 0 → is_blocked bs c ≡ false → bs ≡ []
free_at_once [] c starter free = refl
free_at_once (b ∷ bs) c starter free = let lt = is_reorderable-true c b (is_blocked-parts b bs c free).0 in absurd (omega (arith, lt.0, lt.1))

abbrev Seam : ℕ → List ℕ → List ℕ → List ℕ → Type 0
Seam x ys front whole = (whole ≡ front ++ compose_after x [] ys) ⊎ Grown front whole

seam_after : (s : ℕ) (bs xs : List ℕ) (x : ℕ) (ys : List ℕ) → ccc x ≤ 0 → Seam x ys (compose_after s bs xs) (compose_after s bs (xs ++ x ∷ ys))
seam_after s bs [] x ys starter =
    elim (cases_Option (joined s bs x)) [
      | inl none ↦ inl (compose_after-starter s bs x ys none starter ∙ ap (λ l. l ++ compose_after x [] ys) (sym (compose_after-nil s bs)))
      | inr some ↦
          let made = joined-some s bs x some.0 some.1 in
          let alone = free_at_once bs x starter made.0 in
          let grows = first_grows some.0 bs ys in
          let one = one_part x in
          let wide = ap length (decompose-primary_composite Nfd s x some.0 made.1) ∙ length-append (decompose Nfd s) (decompose Nfd x) in
          inr ([], s, grows.0, grows.1, compose_after-nil s bs ∙ ap (λ l. s ∷ l) alone, compose_after-joined s bs x some.0 ys some.1 ∙ grows.2, omega (arith, grows.3))
    ]
seam_after s bs (c ∷ cs) x ys starter =
    compose_after-cases s bs c cs (λ l. Seam x ys l (compose_after s bs (c ∷ (cs ++ x ∷ ys))))
    (λ p free both.
    subst (Seam x ys (compose_after p bs cs)) (sym (compose_after-joined s bs c p _ (joined-free s bs c free ∙ both))) (seam_after p bs cs x ys starter))
    (λ none first.
    subst (Seam x ys (s ∷ (bs ++ compose_after c [] cs))) (sym (compose_after-starter s bs c _ none first)) (behind (s ∷ bs) _ _ (seam_after c [] cs x ys starter)))
    (λ none mark.
    subst (Seam x ys (compose_after s (bs ++ c ∷ []) cs)) (sym (compose_after-kept s bs c _ none mark)) (seam_after s (bs ++ c ∷ []) cs x ys starter))
  where
    behind : (v front whole : List ℕ) → Seam x ys front whole → Seam x ys (v ++ front) (v ++ whole)
    behind v front whole (inl e) = inl (ap (λ l. v ++ l) e ∙ sym (append_assoc v front _))
    behind v front whole (inr g) = inr (grown-behind v front whole g)

seam : (xs : List ℕ) (x : ℕ) (ys : List ℕ) → ccc x ≤ 0 → Seam x ys (compose xs) (compose (xs ++ x ∷ ys))
seam [] x ys starter = inl (compose-starter x ys starter ∙ ap (λ l. l ++ compose_after x [] ys) (sym compose-nil))
seam (c ∷ cs) x ys starter =
    elim (cases_lt 0 (ccc c)) [
      | inl mark ↦
          subst (λ l. Seam x ys l (compose (c ∷ (cs ++ x ∷ ys)))) (sym (compose-mark c cs mark))
          (subst (Seam x ys (c ∷ compose cs)) (sym (compose-mark c _ mark)) (behind c _ _ (seam cs x ys starter)))
      | inr first ↦
          subst (λ l. Seam x ys l (compose (c ∷ (cs ++ x ∷ ys)))) (sym (compose-starter c cs first))
          (subst (Seam x ys (compose_after c [] cs)) (sym (compose-starter c _ first)) (seam_after c [] cs x ys starter))
    ]
  where
    behind : (v : ℕ) (front whole : List ℕ) → Seam x ys front whole → Seam x ys (v ∷ front) (v ∷ whole)
    behind v front whole (inl e) = inl (ap (λ l. v ∷ l) e)
    behind v front whole (inr g) = inr (grown-behind (v ∷ []) front whole g)

-- ---- before a code point whose decomposition begins with a starter

module _ (x : List ℕ) (c : ℕ) (ys : List ℕ) (s : ℕ) (rest : List ℕ) (split : decompose Nfd c ≡ s ∷ rest) (starter : ccc s ≤ 0) where
  abbrev pub tail : List ℕ
  tail = canonical_order (rest ++ parts ys)

  pub nfd-from : nfd (c ∷ ys) ≡ s ∷ tail
  unfolding normalize decomposed
  nfd-from = ap (λ l. canonical_order (l ++ parts ys)) split ∙ canonical_order-at_starter [] s _ starter ∙ ap (λ l. l ++ s ∷ tail) canonical_order-nil

  pub nfd-parted : nfd (x ++ c ∷ ys) ≡ nfd x ++ s ∷ tail
  unfolding normalize decomposed
  nfd-parted =
      ap canonical_order (flat_map-append (decompose Nfd) x (c ∷ ys)) ∙ ap (λ l. canonical_order (parts x ++ (l ++ parts ys))) split
      ∙ canonical_order-at_starter (parts x) s _ starter

  pub nfc-from : nfc (c ∷ ys) ≡ compose_after s [] tail
  nfc-from = nfc-by_nfd (c ∷ ys) ∙ ap compose nfd-from ∙ compose-starter s tail starter

  nfc-seam : Seam s tail (nfc x) (nfc (x ++ c ∷ ys))
  nfc-seam =
      subst (λ l. Seam s tail l (nfc (x ++ c ∷ ys))) (sym (nfc-by_nfd x))
      (subst (Seam s tail (compose (nfd x))) (sym (nfc-by_nfd (x ++ c ∷ ys) ∙ ap compose nfd-parted)) (seam (nfd x) s tail starter))

  pub closed_at_starter : nfc (x ++ c ∷ ys) ≡ x ++ c ∷ ys → (nfc x ≡ x) × (nfc (c ∷ ys) ≡ c ∷ ys)
  closed_at_starter same =
      elim nfc-seam [
        | inl e ↦ same_parts x (c ∷ ys) (ap (λ l. nfc x ++ l) nfc-from ∙ sym e ∙ same)
        | inr g ↦ absurd (never g.0 g.1 g.2 g.3 g.4 (sym g.5 ∙ same) g.6)
      ]
    where
      none_taken : (u z : List ℕ) (s' p : ℕ) (w : List ℕ) → nfc x ≡ u ++ s' ∷ [] → length (decompose Nfd s') + 1 ≤ length (decompose Nfd p) → x ≡ u ++ z → p ∷ w ≡ z ++ (c ∷ ys) → ⊥
      none_taken u [] s' p w front wide f g =
          let one = one_part s' in
          omega (arith, size-nfc x, ap size front, size-append u (s' ∷ []), size-cons s' [], ap size f, size-append u [])
      none_taken u (d ∷ z) s' p w front wide f g =
          let same_first : p ≡ d = cc in
          let wide_d : length (decompose Nfd s') + 1 ≤ length (decompose Nfd d) = subst (λ q. length (decompose Nfd s') + 1 ≤ length (decompose Nfd q)) same_first wide in
          omega (arith, size-nfc x, ap size front, size-append u (s' ∷ []), size-cons s' [], ap size f, size-append u (d ∷ z), size-cons d z)

      never : (u : List ℕ) (s' p : ℕ) (w : List ℕ) → nfc x ≡ u ++ s' ∷ [] → u ++ p ∷ w ≡ x ++ c ∷ ys → length (decompose Nfd s') + 1 ≤ length (decompose Nfd p) → ⊥
      never u s' p w front e wide =
          elim (parted u (p ∷ w) x (c ∷ ys) e) [
            | inl h ↦ none_taken u h.0 s' p w front wide h.1 h.2
            | inr h ↦
                let one = one_part s' in
                omega (arith, size-nfc x, ap size front, size-append u (s' ∷ []), size-cons s' [], ap size h.1, size-append x h.0)
          ]
