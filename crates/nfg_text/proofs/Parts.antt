-- The parts of a list of clusters.
use Rattle.std.proofs.Common.{◌≡◌, ◌⊎◌, ℕ, ◌+◌, ◌<◌, Bool, true, false, List, [], ◌∷◌, ◌++◌, length, refl, sym, ap, ap₂, subst, ◌∙◌, arith, inl, inr, append-nil, append_assoc, length-append}
use Rattle.std.specs.List.{Contains}
use Rattle.std.proofs.lemmas.List.Elements.{Contains-append_right}
use Rattle.unicode_segmentation.specs.Grapheme.{is_grapheme_break}
use Rattle.unicode_segmentation.specs.Segments.{Rule, cut}
use Rattle.unicode_normalization.specs.Forms.{nfc}
use Rattle.unicode_normalization.proofs.FormsLemmas.{nfc_idem}
use Rattle.nfg_text.specs.Graphemes.{clusters, graphemes_of, ends_from}
use Rattle.nfg_text.specs.Laws.{IsAtBreak, ClustersOfParts, GraphemesAreInNfg, PartsAreInNfg}
use Rattle.nfg_text.specs.Text.{text_of}
use Rattle.nfg_text.proofs.AtBreak.{clusters_at_break}
use Rattle.nfg_text.proofs.Closure.{nfc_at_break}
use Rattle.nfg_text.proofs.Cuts.{put_first, cut-nil, cut-cons}
use Rattle.nfg_text.proofs.Equivalence.{clusters_spell_text, graphemes_spell_nfc}

abbrev Pieces : Type 0
Pieces = List (List ℕ)

-- no part is empty
abbrev AllFull : Pieces → Type 0
AllFull [] = Unit {0}
AllFull (p ∷ ps) = (0 < length p) × AllFull ps

full-put_first : (b : Bool) (c : ℕ) (ps : Pieces) → AllFull ps → AllFull (put_first b (c ∷ []) ps)
full-put_first true c ps h = (omega arith, h)
full-put_first false c [] h = (omega arith, tt)
full-put_first false c (p ∷ ps) h = (omega arith, h.1)

full-cut : (rule : Rule) (before cs after : List ℕ) → AllFull (cut rule before cs after)
full-cut rule before [] after = subst AllFull (sym (cut-nil rule before after)) tt
full-cut rule before (c ∷ cs) after = subst AllFull (sym (cut-cons rule before c cs after)) (full-put_first _ c _ (full-cut rule (c ∷ before) cs after))

full-right : (a b : Pieces) → AllFull (a ++ b) → AllFull b
full-right [] b h = h
full-right (p ∷ a) b h = full-right a b h.1

pub text_of-append : (a b : Pieces) → text_of (a ++ b) ≡ text_of a ++ text_of b
text_of-append [] b = refl
text_of-append (p ∷ a) b = ap (λ l. p ++ l) (text_of-append a b) ∙ sym (append_assoc p (text_of a) (text_of b))

none_left : (z : Pieces) → AllFull z → length (text_of z) ≡ 0 → z ≡ []
none_left [] h e = refl
none_left (p ∷ z) h e = let some = h.0 in absurd (omega (arith, length-append p (text_of z)))

abbrev Parted : Pieces → Pieces → Pieces → Pieces → Type 0
Parted a b x y = (z : Pieces) × (x ≡ a ++ z) × (b ≡ z ++ y)

parted : (a b x y : Pieces) → a ++ b ≡ x ++ y → Parted a b x y ⊎ Parted x y a b
parted [] b x y e = inl (x, refl, e)
parted (c ∷ a) b [] y e = inr (c ∷ a, refl, sym e)
parted (c ∷ a) b (d ∷ x) y e =
    let first : c ≡ d = cc in
    let rest : a ++ b ≡ x ++ y = cc in
    elim (parted a b x y rest) [
      | inl h ↦ inl (h.0, ap₂ ◌∷◌ (sym first) h.1, h.2)
      | inr h ↦ inr (h.0, ap₂ ◌∷◌ first h.1, h.2)
    ]

-- two ways to part a list of parts, whose fronts spell the same text, are one
same_front : (a b x y : Pieces) → AllFull (a ++ b) → a ++ b ≡ x ++ y → text_of a ≡ text_of x → (a ≡ x) × (b ≡ y)
same_front a b x y full e f =
    elim (parted a b x y e) [
      | inl h ↦
          let none = none_left h.0 (inner h.0 y (subst AllFull h.2 (full-right a b full))) (omega (arith, ap length (f ∙ ap text_of h.1 ∙ text_of-append a h.0), length-append (text_of a) (text_of h.0))) in
          (sym (h.1 ∙ ap (λ l. a ++ l) none ∙ append-nil a), h.2 ∙ ap (λ l. l ++ y) none)
      | inr h ↦
          let whole : AllFull (x ++ (h.0 ++ b)) = subst AllFull (ap (λ l. l ++ b) h.1 ∙ append_assoc x h.0 b) full in
          let none = none_left h.0 (inner h.0 b (full-right x (h.0 ++ b) whole)) (omega (arith, ap length (sym f ∙ ap text_of h.1 ∙ text_of-append x h.0), length-append (text_of x) (text_of h.0))) in
          (h.1 ∙ ap (λ l. x ++ l) none ∙ append-nil x, sym (h.2 ∙ ap (λ l. l ++ b) none))
    ]
  where
    inner : (z w : Pieces) → AllFull (z ++ w) → AllFull z
    inner [] w h = tt
    inner (p ∷ z) w h = (h.0, inner z w h.1)

-- what the first parts spell ends where a part ends
end_listed : (n : ℕ) (p : List ℕ) (a b : Pieces) (m : ℕ) → n + length (text_of (p ∷ a)) ≡ m → Contains (ends_from n ((p ∷ a) ++ b)) m
end_listed n p [] b m at = (0, omega arith, omega (arith, length-append p []))
end_listed n p (q ∷ a) b m at =
    let later = end_listed (n + length p) q a b m (omega (arith, length-append p (text_of (q ∷ a)))) in
    Contains-append_right ((n + length p) ∷ []) (ends_from (n + length p) ((q ∷ a) ++ b)) m later

pub ends_at_pieces : (t : List ℕ) (a b : Pieces) → clusters t ≡ a ++ b → (t ≡ text_of a ++ text_of b) × IsAtBreak (text_of a) (text_of b)
ends_at_pieces t a b e =
    let spelled : t ≡ text_of a ++ text_of b = sym (clusters_spell_text t) ∙ ap text_of e ∙ text_of-append a b in
    (spelled, ends a e spelled)
  where
    ends : (l : Pieces) → clusters t ≡ l ++ b → t ≡ text_of l ++ text_of b → IsAtBreak (text_of l) (text_of b)
    ends [] f g = inl refl
    ends (p ∷ l) f g = inr (subst (λ ps. Contains (ends_from 0 ps) (length (text_of (p ∷ l)))) (sym f ∙ ap clusters g) (end_listed 0 p l b (length (text_of (p ∷ l))) (omega arith)))

pub clusters_of_parts : ClustersOfParts
clusters_of_parts t a b e =
    let at = ends_at_pieces t a b e in
    let law = ap clusters (sym at.0) ∙ e in
    let both : clusters (text_of a) ++ clusters (text_of b) ≡ a ++ b = sym (clusters_at_break (text_of a) (text_of b) at.1) ∙ law in
    same_front (clusters (text_of a)) (clusters (text_of b)) a b
    (subst AllFull (clusters_at_break (text_of a) (text_of b) at.1) (full-cut (is_grapheme_break true) [] (text_of a ++ text_of b) []))
    both (clusters_spell_text (text_of a))

pub parts_are_in_nfg : PartsAreInNfg
parts_are_in_nfg a b lawful =
    let t = text_of (a ++ b) in
    let form : nfc t ≡ t = sym (graphemes_spell_nfc t) ∙ ap text_of (sym lawful) in
    let own : clusters t ≡ a ++ b = ap clusters (sym form) ∙ sym lawful in
    let at = ends_at_pieces t a b own in
    let parts = nfc_at_break (text_of a) (text_of b) at.1 (ap nfc (sym at.0) ∙ form ∙ at.0) in
    let pieces = clusters_of_parts t a b own in
    (sym (ap clusters parts.0 ∙ pieces.0), sym (ap clusters parts.1 ∙ pieces.1))

pub graphemes_are_in_nfg : GraphemesAreInNfg
graphemes_are_in_nfg t = sym (ap graphemes_of (graphemes_spell_nfc t) ∙ ap clusters (nfc_idem t))
