-- What holds of each decoder that goes by one sequence after another.
use Rattle.std.proofs.Common.{◌≡◌, ℕ, zero, suc, ◌+◌, ◌-◌, ◌<◌, ◌≤◌, List, [], ◌∷◌, ◌++◌, length, take, drop, refl, sym, ap, ◌∙◌, arith, length-append, length-take, length-drop, take-append-drop, append_assoc, take-add}
use Rattle.std.proofs.lemmas.List.{length-take-le}
use Rattle.std.specs.Prelude.{Ok, Err}
use Rattle.nfg_decode.specs.Decoded.{Decoded, after_text}

-- two texts in a row
pub after_text-after_text : (t u : List ℕ) (m n : ℕ) (r : Decoded) → after_text t m (after_text u n r) ≡ after_text (t ++ u) (m + n) r
after_text-after_text t u m n (Ok v) = ap (λ l. Ok l) (sym (append_assoc t u v))
after_text-after_text t u m n (Err p) = ap (λ k. Err k) (omega arith)

pub after_text-nil : (r : Decoded) → after_text [] 0 r ≡ r
after_text-nil (Ok v) = refl
after_text-nil (Err p) = ap (λ k. Err k) (omega arith)

-- what follows is a text where the whole is
pub record Continues (t : List ℕ) (n : ℕ) (r : Decoded) (whole : List ℕ) : Type 0 where
  pub more : List ℕ
  pub is : r ≡ Ok more
  pub joined : t ++ more ≡ whole

pub continues : (t : List ℕ) (n : ℕ) (r : Decoded) (whole : List ℕ) → after_text t n r ≡ Ok whole → Continues t n r whole
continues t n (Ok v) whole e = record { more = v; is = refl; joined = cc }
continues t n (Err p) whole e = cc

-- and is malformed where the whole is
pub record Fails (n : ℕ) (r : Decoded) (p : ℕ) : Type 0 where
  pub place : ℕ
  pub is : r ≡ Err place
  pub joined : n + place ≡ p

pub fails : (t : List ℕ) (n : ℕ) (r : Decoded) (p : ℕ) → after_text t n r ≡ Err p → Fails n r p
fails t n (Ok v) p e = cc
fails t n (Err q) p e = record { place = q; is = refl; joined = cc }

-- a sequence of bytes at the front that spells one code point, whatever follows it
pub record Begins (D : List ℕ → Decoded) (b : List ℕ) : Type 0 where
  pub sequence : List ℕ
  pub rest : List ℕ
  pub code : ℕ
  pub split : b ≡ sequence ++ rest
  pub some : 0 < length sequence
  pub goes : (ys : List ℕ) → D (sequence ++ ys) ≡ after_text (code ∷ []) (length sequence) (D ys)

-- how bytes begin
pub data First (D : List ℕ → Decoded) (b : List ℕ) : Type 0 where
  empty : b ≡ [] → First D b
  begins : Begins D b → First D b
  none : D b ≡ Err 0 → First D b

-- a decoder goes by one sequence after another
pub record IsStepwise (D : List ℕ → Decoded) : Type 0 where
  pub nothing : D [] ≡ Ok []
  pub first : (b : List ℕ) → First D b

-- what stands behind a list
pub take-append : (s r : List ℕ) (q : ℕ) → take (length s + q) (s ++ r) ≡ s ++ take q r
take-append [] r q = ap (λ n. take n r) (omega arith)
take-append (x ∷ s) r q =
    let n : suc (length s) + q ≡ suc (length s + q) = omega arith in
    ap (λ m. take m (x ∷ (s ++ r))) n ∙ ap (λ l. x ∷ l) (take-append s r q)

pub drop-append : (s r : List ℕ) (q : ℕ) → drop (length s + q) (s ++ r) ≡ drop q r
drop-append [] r q = ap (λ n. drop n r) (omega arith)
drop-append (x ∷ s) r q =
    let n : suc (length s) + q ≡ suc (length s + q) = omega arith in
    ap (λ m. drop m (x ∷ (s ++ r))) n ∙ drop-append s r q

module _ (D : List ℕ → Decoded) (stepwise : IsStepwise D) where
  joins_within : (n : ℕ) (xs ys t : List ℕ) → length xs ≤ n → D xs ≡ Ok t → D (xs ++ ys) ≡ after_text t (length xs) (D ys)
  joins_within zero [] ys t l e =
      let t_is : t ≡ [] = cc (stepwise.nothing) in
      rw t_is (sym (after_text-nil (D ys)))
  joins_within zero (x ∷ xs) ys t l e = absurd (omega arith)
  joins_within (suc n) xs ys t l e =
      elim (stepwise.first xs) [
        | empty is_nil ↦
            let t_is : t ≡ [] = cc (stepwise.nothing, ap D is_nil) in
            rw (is_nil, t_is) (sym (after_text-nil (D ys)))
        | none fault ↦ cc
        | begins b ↦
            let len : length xs ≡ length b.sequence + length b.rest = ap length b.split ∙ length-append b.sequence b.rest in
            let some = b.some in
            let whole : after_text (b.code ∷ []) (length b.sequence) (D b.rest) ≡ Ok t = sym (b.goes b.rest) ∙ ap D (sym b.split) ∙ e in
            let c : Continues (b.code ∷ []) (length b.sequence) (D b.rest) t = continues (b.code ∷ []) (length b.sequence) (D b.rest) t whole in
            let next = joins_within n b.rest ys c.more (omega arith) c.is in
            ap (λ l'. D (l' ++ ys)) b.split
            ∙ ap D (append_assoc b.sequence b.rest ys)
            ∙ b.goes (b.rest ++ ys)
            ∙ ap (λ r. after_text (b.code ∷ []) (length b.sequence) r) next
            ∙ after_text-after_text (b.code ∷ []) c.more _ _ (D ys)
            ∙ (λ i. after_text (c.joined i) (sym len i) (D ys))
      ]

  -- after a whole text decoding begins anew
  pub joins : (xs ys t : List ℕ) → D xs ≡ Ok t → D (xs ++ ys) ≡ after_text t (length xs) (D ys)
  joins xs ys t e = joins_within (length xs) xs ys t (omega arith) e

  -- a text and then a text
  pub two_texts : (b : List ℕ) (m n : ℕ) (t u : List ℕ) → D (take m b) ≡ Ok t → D (take n (drop m b)) ≡ Ok u → D (take (m + n) b) ≡ Ok (t ++ u)
  two_texts b m n t u e f =
      ap D (take-add m n b) ∙ joins (take m b) (take n (drop m b)) t e ∙ ap (λ r. after_text t (length (take m b)) r) f

  -- where decoding fails: a text goes up to there, and no sequence stands there
  pub record Breaks (b : List ℕ) (p : ℕ) : Type 0 where
    pub within : p ≤ length b
    pub text : List ℕ
    pub front : D (take p b) ≡ Ok text
    pub there : D (drop p b) ≡ Err 0

  breaks_within : (n : ℕ) (b : List ℕ) (p : ℕ) → length b ≤ n → D b ≡ Err p → Breaks b p
  breaks_within zero [] p l e = cc (stepwise.nothing)
  breaks_within zero (x ∷ xs) p l e = absurd (omega arith)
  breaks_within (suc n) b p l e =
      elim (stepwise.first b) [
        | empty is_nil ↦ cc (stepwise.nothing, ap D is_nil)
        | none fault ↦
            let at_0 : p ≡ 0 = cc in
            rw at_0 (record { within = omega arith; text = []; front = stepwise.nothing; there = fault })
        | begins f ↦
            let s = f.sequence in
            let len : length b ≡ length s + length f.rest = ap length f.split ∙ length-append s f.rest in
            let some = f.some in
            let whole : after_text (f.code ∷ []) (length s) (D f.rest) ≡ Err p = sym (f.goes f.rest) ∙ ap D (sym f.split) ∙ e in
            let c : Fails (length s) (D f.rest) p = fails (f.code ∷ []) (length s) (D f.rest) p whole in
            let next : Breaks f.rest c.place = breaks_within n f.rest c.place (omega arith) c.is in
            let q = c.place in
            let taken : take p b ≡ s ++ take q f.rest =
            (λ i. take (sym c.joined i) (f.split i)) ∙ take-append s f.rest q in
            let dropped : drop p b ≡ drop q f.rest =
            (λ i. drop (sym c.joined i) (f.split i)) ∙ drop-append s f.rest q in
            record {
              within = omega (arith, c.joined, next.within);
              text = f.code ∷ next.text;
              front = ap D taken ∙ f.goes (take q f.rest) ∙ ap (λ r. after_text (f.code ∷ []) (length s) r) next.front;
              there = ap D dropped ∙ next.there;
            }
      ]

  pub breaks : (b : List ℕ) (p : ℕ) → D b ≡ Err p → Breaks b p
  breaks b p e = breaks_within (length b) b p (omega arith) e

  -- where no sequence stands, none stands at a shorter front
  pub none_shorter : (b : List ℕ) (n : ℕ) → D b ≡ Err 0 → 0 < n → n ≤ length b → D (take n b) ≡ Err 0
  none_shorter b n e some l =
      elim (stepwise.first (take n b)) [
        | empty is_nil ↦ absurd (omega (arith, ap length is_nil, length-take n b))
        | none fault ↦ fault
        | begins f ↦
            let s = f.sequence in
            let whole : b ≡ s ++ (f.rest ++ drop n b) =
            sym (take-append-drop n b) ∙ ap (λ l'. l' ++ drop n b) f.split ∙ append_assoc s f.rest (drop n b) in
            let read : after_text (f.code ∷ []) (length s) (D (f.rest ++ drop n b)) ≡ Err 0 =
            sym (f.goes (f.rest ++ drop n b)) ∙ ap D (sym whole) ∙ e in
            let c : Fails (length s) (D (f.rest ++ drop n b)) 0 = fails (f.code ∷ []) (length s) _ 0 read in
            absurd (omega (arith, f.some, c.joined))
      ]

  -- a longer front than that up to the fault is malformed
  pub malformed_past : (b : List ℕ) (p n : ℕ) → D b ≡ Err p → p < n → n ≤ length b → D (take n b) ≡ Err p
  malformed_past b p n e more l =
      let k : Breaks b p = breaks b p e in
      let apart : p + (n - p) ≡ n = omega arith in
      let cut : take n b ≡ take p b ++ take (n - p) (drop p b) = ap (λ m. take m b) (sym apart) ∙ take-add p (n - p) b in
      let within = k.within in
      let len : length (take p b) ≡ p = length-take-le p b k.within in
      ap D cut
      ∙ joins (take p b) (take (n - p) (drop p b)) k.text k.front
      ∙ ap (λ r. after_text k.text (length (take p b)) r) (none_shorter (drop p b) (n - p) k.there (omega arith) (omega (arith, length-drop p b)))
      ∙ ap (λ m. Err m) (omega arith)
