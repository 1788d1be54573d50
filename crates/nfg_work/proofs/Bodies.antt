-- Where the text of a file begins, and that texts in encodings without a mark go on.
use Rattle.std.proofs.Common.{◌≡◌, ◌⊎◌, inl, inr, ℕ, ◌≤◌, true, false, List, [], ◌∷◌, ◌++◌, length, drop, refl, sym, ap, ◌∙◌, subst, arith}
use Rattle.std.proofs.lemmas.Bool.{and_right}
use Rattle.std.specs.Prelude.{Ok, nat_eq}
use Rattle.std.specs.List.{starts_with}
use Rattle.nfg_decode.specs.declared.encoding.Encoding.{Encoding}
use Rattle.nfg_decode.specs.declared.encoding.Encoding.TheVariants.{Utf8, Utf16, Utf16Le, Utf16Be, Latin1}
use Rattle.nfg_decode.specs.declared.reading.Form.{Form}
use Rattle.nfg_decode.specs.declared.reading.Form.TheVariants as forms
use Rattle.nfg_decode.specs.declared.utf16.ByteOrder.TheVariants.{Little, Big}
use Rattle.nfg_decode.specs.Decoded.{after_text}
use Rattle.nfg_decode.specs.Encoding.{decode}
use Rattle.nfg_decode.specs.Reading.{as_encoding}
use Rattle.nfg_decode.specs.Utf16.{mark, decode_marked}
use Rattle.nfg_decode.proofs.ReadingLemmas.{form_stepwise}
use Rattle.nfg_decode.proofs.PrefixLemmas.{behind_text}
use Rattle.nfg_work.specs.Parts.{IsBody}
use Rattle.nfg_work.proofs.PartGrowth.{may_itself}

-- behind a text another one goes on
texts_in_row : (form : Form) (front back text : List ℕ) → decode (as_encoding form) front ≡ Ok text → (more : List ℕ) → decode (as_encoding form) back ≡ Ok more
    → decode (as_encoding form) (front ++ back) ≡ Ok (text ++ more)
texts_in_row form front back text here more there =
    behind_text (as_encoding form) (form_stepwise form) front text [] here back ∙ ap (λ d. after_text text (length front) d) there

-- where there is no mark, the text begins at the front
form_body : (form : Form) (bytes : List ℕ) → IsBody (as_encoding form) bytes (as_encoding form) 0
form_body form bytes = record {
  within = omega arith;
  may = may_itself (as_encoding form);
  goes_on = texts_in_row form;
  decoded = λ text is. is;
}

-- and so in every encoding without one
pub itself_body : (e : Encoding) (bytes : List ℕ) → (e ≡ Utf8) ⊎ (e ≡ Utf16Le) ⊎ (e ≡ Utf16Be) ⊎ (e ≡ Latin1) → IsBody e bytes e 0
itself_body e bytes (inl is) = subst (λ r. IsBody r bytes r 0) (sym is) (form_body forms.Utf8 bytes)
itself_body e bytes (inr (inl is)) = subst (λ r. IsBody r bytes r 0) (sym is) (form_body (forms.Utf16 Little) bytes)
itself_body e bytes (inr (inr (inl is))) = subst (λ r. IsBody r bytes r 0) (sym is) (form_body (forms.Utf16 Big) bytes)
itself_body e bytes (inr (inr (inr is))) = subst (λ r. IsBody r bytes r 0) (sym is) (form_body forms.Latin1 bytes)

-- what begins with two bytes has them
two_bytes : (x y : ℕ) (bytes : List ℕ) → starts_with nat_eq bytes (x ∷ y ∷ []) ≡ true → 2 ≤ length bytes
two_bytes x y [] starts = cc
two_bytes x y (b ∷ []) starts = let never = and_right (nat_eq x b) false refl in cc
two_bytes x y (b ∷ c ∷ bytes) starts = omega arith

big_decoded : (bytes text : List ℕ) → starts_with nat_eq bytes (mark Big) ≡ true → decode Utf16Be (drop 2 bytes) ≡ Ok text → decode Utf16 bytes ≡ Ok text
unfolding decode decode_marked
big_decoded bytes text starts is = rw starts (ap (λ d. after_text [] 2 d) is)

little_decoded : (bytes text : List ℕ) → starts_with nat_eq bytes (mark Big) ≡ false → starts_with nat_eq bytes (mark Little) ≡ true
    → decode Utf16Le (drop 2 bytes) ≡ Ok text → decode Utf16 bytes ≡ Ok text
unfolding decode decode_marked
little_decoded bytes text other starts is = rw (other, starts) (ap (λ d. after_text [] 2 d) is)

plain_decoded : (bytes text : List ℕ) → starts_with nat_eq bytes (mark Big) ≡ false → starts_with nat_eq bytes (mark Little) ≡ false
    → decode Utf16Be bytes ≡ Ok text → decode Utf16 bytes ≡ Ok text
unfolding decode decode_marked
plain_decoded bytes text other neither is = rw (other, neither) is

-- behind the big-endian mark
pub big_body : (bytes : List ℕ) → starts_with nat_eq bytes (mark Big) ≡ true → IsBody Utf16 bytes Utf16Be 2
big_body bytes starts = record {
  within = two_bytes 0xFE 0xFF bytes starts;
  may = tt;
  goes_on = texts_in_row (forms.Utf16 Big);
  decoded = λ text is. big_decoded bytes text starts is;
}

-- behind the little-endian mark
pub little_body : (bytes : List ℕ) → starts_with nat_eq bytes (mark Big) ≡ false → starts_with nat_eq bytes (mark Little) ≡ true → IsBody Utf16 bytes Utf16Le 2
little_body bytes other starts = record {
  within = two_bytes 0xFF 0xFE bytes starts;
  may = tt;
  goes_on = texts_in_row (forms.Utf16 Little);
  decoded = λ text is. little_decoded bytes text other starts is;
}

-- without a mark
pub unmarked_body : (bytes : List ℕ) → starts_with nat_eq bytes (mark Big) ≡ false → starts_with nat_eq bytes (mark Little) ≡ false → IsBody Utf16 bytes Utf16Be 0
unmarked_body bytes other neither = record {
  within = omega arith;
  may = tt;
  goes_on = texts_in_row (forms.Utf16 Big);
  decoded = λ text is. plain_decoded bytes text other neither is;
}
