-- What is held, and a settled text behind it.
use Rattle.std.proofs.Common.{◌≡◌, ℕ, ◌+◌, ◌<◌, true, false, not, List, [], ◌∷◌, ◌++◌, length, take, get_or, refl, sym, ap, subst, ◌∙◌, arith, append_assoc}
use Rattle.std.proofs.lemmas.Bool.{and_parts, and_from}
use Rattle.std.proofs.lemmas.List.{take_more}
use Rattle.nfg_text.specs.Forms.{nfc}
use Rattle.nfg_text.specs.Graphemes.{clusters, graphemes_of, starts_safely}
use Rattle.nfg_segment.specs.Follows.{Follows}
use Rattle.nfg_segment.specs.Given.{Given, with_clusters}
use Rattle.nfg_segment.specs.Held.{Unfinished, Held, Keeps, next, next_all, closed, closed_all, none_safe}
use Rattle.nfg_segment.proofs.Machine.{with_clusters-append}
use Rattle.nfg_segment.proofs.Stable.{stable-hold}
use Rattle.nfg_segment.proofs.Steps.{held}

-- ---- code points that do not start safely

pub none-more : (t : List ℕ) (n : ℕ) → n < length t → none_safe (take n t) ≡ true → starts_safely (get_or t n 0) ≡ false → none_safe (take (n + 1) t) ≡ true
none-more t n within none one = ap none_safe (take_more t n 0 within) ∙ push (take n t) (get_or t n 0) none one
  where
    push : (xs : List ℕ) (c : ℕ) → none_safe xs ≡ true → starts_safely c ≡ false → none_safe (xs ++ c ∷ []) ≡ true
    push [] c none one = and_from _ _ (ap not one) refl
    push (x ∷ xs) c none one =
        let parts = and_parts (not (starts_safely x)) (none_safe xs) none in
        and_from _ _ parts.0 (push xs c parts.1 one)

-- ---- the open cluster after two texts

pub next_all-append : (k xs ys : List ℕ) → next_all k (xs ++ ys) ≡ next_all (next_all k xs) ys
next_all-append k [] ys = refl
next_all-append k (x ∷ xs) ys = next_all-append (next k x) xs ys

pub closed_all-append : (k xs ys : List ℕ) → closed_all k (xs ++ ys) ≡ closed_all k xs ++ closed_all (next_all k xs) ys
closed_all-append k [] ys = refl
closed_all-append k (x ∷ xs) ys =
    ap (λ l. closed k x ++ l) (closed_all-append (next k x) xs ys)
    ∙ sym (append_assoc (closed k x) (closed_all (next k x) xs) (closed_all (next_all (next k x) xs) ys))

pub keeps-two : (o : Unfinished) (k t run : List ℕ) → nfc (t ++ run) ≡ nfc t ++ run → Keeps o (next_all (next_all k (nfc t)) run) → Keeps o (next_all k (nfc (t ++ run)))
keeps-two o k t run stays keeps = subst (Keeps o) (sym (ap (next_all k) stays ∙ next_all-append k (nfc t) run)) keeps

pub given-two : (first between last : Given) (k t run : List ℕ) → nfc (t ++ run) ≡ nfc t ++ run → between ≡ with_clusters first (closed_all k (nfc t))
    → last ≡ with_clusters between (closed_all (next_all k (nfc t)) run) → last ≡ with_clusters first (closed_all k (nfc (t ++ run)))
given-two first between last k t run stays one two =
    two ∙ ap (λ o. with_clusters o (closed_all (next_all k (nfc t)) run)) one
    ∙ sym (with_clusters-append first (closed_all k (nfc t)) (closed_all (next_all k (nfc t)) run))
    ∙ ap (with_clusters first) (sym (ap (closed_all k) stays ∙ closed_all-append k (nfc t) run))

-- ---- a composite in the place of its parts

pub follows-composed : (h : Held) (o : Unfinished) (tail fed : List ℕ) (given : List (List ℕ)) (a b p : ℕ) → starts_safely b ≡ false → Follows h fed given
    → h.tail ≡ a ∷ [] → o ≡ h.cluster → tail ≡ p ∷ [] → ((rest : List ℕ) → nfc (p ∷ rest) ≡ nfc (a ∷ b ∷ rest)) → Follows (held o tail) (fed ++ b ∷ []) given
follows-composed h o tail fed given a b p unsafe f was same e in_place =
    record {
      tracks =
          record {
            cluster = f.tracks.cluster;
            keeps = subst (λ u. Keeps u f.tracks.cluster) (sym same) f.tracks.keeps;
            one = f.tracks.one;
            goes_on = λ u. ap graphemes_of (append_assoc fed (b ∷ []) u) ∙ f.tracks.goes_on (b ∷ u)
                ∙ ap (λ l. given ++ clusters (f.tracks.cluster ++ nfc (l ++ b ∷ u))) was
                ∙ ap (λ l. given ++ clusters (f.tracks.cluster ++ l)) (sym (in_place u))
                ∙ ap (λ l. given ++ clusters (f.tracks.cluster ++ nfc (l ++ u))) (sym e);
          };
      stable = stable-hold fed (b ∷ []) given (and_from _ _ (ap not unsafe) refl) f.stable;
    }

-- the text that was fed, with its next code points and one more
pub begun-parts : (fed t : List ℕ) (at c : ℕ) → at < length t → c ≡ get_or t at 0 → (fed ++ take at t) ++ c ∷ [] ≡ fed ++ take (at + 1) t
begun-parts fed t at c within e =
    append_assoc fed (take at t) (c ∷ []) ∙ ap (λ l. fed ++ l) (ap (λ x. take at t ++ x ∷ []) e ∙ sym (take_more t at 0 within))

pub take-one : (t : List ℕ) (c : ℕ) → 0 < length t → c ≡ get_or t 0 0 → c ∷ [] ≡ take 1 t
take-one [] c some e = absurd (omega arith)
take-one (x ∷ xs) c some e = ap (λ y. y ∷ []) e
