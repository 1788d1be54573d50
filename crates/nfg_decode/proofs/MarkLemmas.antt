-- The byte order mark over the first pieces.
use Rattle.std.proofs.Common.{◌≡◌, ℕ, ◌+◌, ◌-◌, ◌*◌, ◌<◌, ◌≤◌, inr, List, [], ◌∷◌, ◌++◌, length, get_or, take, drop, refl, sym, ap, ◌∙◌, subst, arith, length-take, take-append-drop, append_assoc}
use Rattle.std.proofs.lemmas.List.{take_all, take-take}
use Rattle.std.proofs.Math.Seq.{drop-append-add}
use Rattle.std.specs.Prelude.{Some, None}
use Rattle.nfg_decode.specs.declared.encoding.Encoding.TheVariants.{Utf16}
use Rattle.nfg_decode.specs.declared.utf16.ByteOrder.{ByteOrder}
use Rattle.nfg_decode.specs.declared.utf16.ByteOrder.TheVariants.{Big}
use Rattle.nfg_decode.specs.declared.reading.Form.TheVariants as forms
use Rattle.nfg_decode.specs.declared.tail.Tail.{Tail}
use Rattle.nfg_decode.specs.declared.tail.Tail.TheVariants.{Empty}
use Rattle.nfg_decode.specs.Utf16.{mark, decode_utf16}
use Rattle.nfg_decode.specs.Reads.{IsUnfinished, utf16_form}
use Rattle.nfg_decode.specs.Tail.{bytes_of}
use Rattle.nfg_decode.specs.Mark.{IsUnmarked, MayBeMark, Opens, Reduces}
use Rattle.nfg_decode.proofs.ReadsLemmas.{IsUnfinished-nil, one_byte}
use Rattle.nfg_decode.proofs.Utf16Tails.{mended, one_unit, not_surrogate}
use Rattle.nfg_decode.proofs.PrefixLemmas.{low_unmarked, reduces_marked, reduces_unmarked}

-- one byte that no mark begins with
pub absent_at : (b more : List ℕ) → 0 < length b → length b < 2 → get_or b 0 0 < 0xFE → IsUnmarked (b ++ more)
absent_at [] more l m h = absurd (omega arith)
absent_at (x ∷ []) more l m h = low_unmarked x more h
absent_at (x ∷ y ∷ b) more l m h = absurd (omega arith)

-- what holds of two bytes, whatever follows
pub at_two : (P : List ℕ → Type 0) (b : List ℕ) → 2 ≤ length b → ((more : List ℕ) → P (get_or b 0 0 ∷ get_or b 1 0 ∷ more)) → P b
at_two P [] l h = absurd (omega arith)
at_two P (x ∷ []) l h = absurd (omega arith)
at_two P (x ∷ y ∷ b) l h = h b

short_if_open : (b : List ℕ) → MayBeMark b → length b ≤ 1
short_if_open [] m = omega arith
short_if_open (x ∷ []) m = omega arith
short_if_open (x ∷ y ∷ b) m = absurd m

big_unfinished : (b : List ℕ) → MayBeMark b → IsUnfinished (utf16_form Big) b
unfolding decode_utf16
big_unfinished [] m = IsUnfinished-nil (utf16_form Big)
big_unfinished (x ∷ []) m =
    mended Big (x ∷ []) (0 ∷ []) _ (omega arith) refl (one_byte 0 (omega arith)) (one_unit Big x 0 (not_surrogate (x * 256 + 0) (inr (omega arith))))
big_unfinished (x ∷ y ∷ b) m = absurd m

module _ (held piece seam : List ℕ) (is : seam ≡ take 4 (held ++ piece)) where
  pub undecided_opens : (t : Tail) (used : ℕ) → bytes_of t ≡ seam → MayBeMark seam → Opens held piece (record { form = None; tail = t; mark = 0; used = used })
  undecided_opens t used e m =
      let short = short_if_open seam m in
      let whole : held ++ piece ≡ seam = sym (is ∙ take_all 4 (held ++ piece) (omega (arith, ap length is, length-take 4 (held ++ piece)))) in
      record { undecided = (whole ∙ sym e, subst MayBeMark (sym e) m); decided = tt }

  pub marked_opens : (o : ByteOrder) (used : ℕ) → MayBeMark held → take 2 seam ≡ mark o → used ≡ 2 - length held
      → Opens held piece (record { form = Some (forms.Utf16 o); tail = Empty; mark = 2; used = used })
  marked_opens o used m front u =
      let short = short_if_open held m in
      let apart : length held + (2 - length held) ≡ 2 = omega arith in
      let first : take 2 (held ++ piece) ≡ mark o = sym (take-take 2 4 (held ++ piece) (omega arith)) ∙ ap (take 2) (sym is) ∙ front in
      let rest : drop 2 (held ++ piece) ≡ drop used piece =
      ap (λ n. drop n (held ++ piece)) (sym apart) ∙ drop-append-add held piece (2 - length held) ∙ ap (λ n. drop n piece) (sym u) in
      let whole : mark o ++ drop used piece ≡ held ++ piece = (λ i. sym first i ++ sym rest i) ∙ take-append-drop 2 (held ++ piece) in
      record {
        undecided = tt;
        decided = (
          subst (λ b. Reduces Utf16 b (utf16_form o) (drop used piece) 2) whole (reduces_marked o (drop used piece)),
          IsUnfinished-nil (utf16_form o),
        );
      }

  pub absent_opens : (t : Tail) → held ≡ bytes_of t → MayBeMark held → ((more : List ℕ) → IsUnmarked (seam ++ more))
      → Opens held piece (record { form = Some (forms.Utf16 Big); tail = t; mark = 0; used = 0 })
  absent_opens t e m h = record {
    undecided = tt;
    decided = (
      subst (λ b. Reduces Utf16 (held ++ piece) (utf16_form Big) (b ++ piece) 0) e
          (reduces_unmarked (held ++ piece) (λ more.
          let regrouped : seam ++ (drop 4 (held ++ piece) ++ more) ≡ (held ++ piece) ++ more =
          sym (append_assoc seam (drop 4 (held ++ piece)) more)
          ∙ ap (λ l. l ++ more) (ap (λ l. l ++ drop 4 (held ++ piece)) is ∙ take-append-drop 4 (held ++ piece)) in
          subst IsUnmarked regrouped (h (drop 4 (held ++ piece) ++ more)))),
      subst (IsUnfinished (utf16_form Big)) e (big_unfinished held m),
    );
  }
