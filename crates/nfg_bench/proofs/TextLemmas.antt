-- Parts of texts, and bytes that decode to one.
use Rattle.std.proofs.Common.{◌≡◌, ℕ, ◌<◌, List, [], ◌∷◌, ◌++◌, get_or, take, drop, refl, sym, ap, ◌∙◌, subst, append_assoc, take-append-drop}
use Rattle.std.proofs.lemmas.Bool.{and_from}
use Rattle.std.proofs.lemmas.List.{get_or_default}
use Rattle.std.specs.Char.{IsScalar}
use Rattle.std.specs.Str.{chars}
use Rattle.std.specs.Str.Lossy.{utf8_valid_len}
use Rattle.nfg_text.specs.Text.{IsText}
use Rattle.nfg_text.proofs.Proved.{parts_of_text}
use Rattle.nfg_decode.specs.declared.encoding.Encoding.TheVariants.{Utf8, Utf16, Utf16Le, Utf16Be, Latin1}
use Rattle.nfg_decode.specs.declared.encoding.Encoding.{Encoding}
use Rattle.nfg_decode.specs.State.{GivesNext}
use Rattle.nfg_decode.specs.Encoding.{AreBytes, decode, decoded_prefix}
use Rattle.nfg_decode.specs.Utf8.{decode_utf8}
use Rattle.nfg_decode.specs.Utf16.{decode_utf16, decode_marked}

pub text_part : (n m : ℕ) (t : List ℕ) → IsText t → IsText (take n (drop m t))
text_part n m t all =
    let back = ((parts_of_text (take m t) (drop m t)).0 (subst IsText (sym (take-append-drop m t)) all)).1 in
    ((parts_of_text (take n (drop m t)) (drop n (drop m t))).0 (subst IsText (sym (take-append-drop n (drop m t))) back)).0

-- what a list gained is a text where it is the end of one
pub text_gained : (old new before more whole : List ℕ) → old ≡ [] → new ≡ old ++ more → whole ≡ before ++ more → IsText whole → IsText new
text_gained old new before more whole none added is all =
    subst IsText (sym (added ∙ ap (λ l. l ++ more) none)) ((parts_of_text before more).0 (subst IsText is all)).1

pub are_bytes : (l : List ℕ) → ((i : ℕ) → get_or l i 0 < 256) → AreBytes l
are_bytes l small k d within = rw (get_or_default l k d 0 within) (small k)

-- one code point more
pub text_more : (old new : List ℕ) (c : ℕ) → new ≡ old ++ c ∷ [] → IsText old → IsScalar c → IsText new
text_more old new c is all one = subst IsText (sym is) ((parts_of_text old (c ∷ [])).1 (all, and_from _ _ one refl))

pub text_front : (whole front back : List ℕ) → whole ≡ front ++ back → IsText whole → IsText front
text_front whole front back is all = ((parts_of_text front back).0 (subst IsText is all)).0

pub text_back : (whole front back : List ℕ) → whole ≡ front ++ back → IsText whole → IsText back
text_back whole front back is all = ((parts_of_text front back).0 (subst IsText is all)).1

-- nothing decodes to nothing
pub decoded_none : (e : Encoding) → decoded_prefix e [] ≡ []
unfolding decoded_prefix decode decode_utf8 decode_utf16 decode_marked utf8_valid_len chars
decoded_none Utf8 = refl
decoded_none Utf16 = refl
decoded_none Utf16Le = refl
decoded_none Utf16Be = refl
decoded_none Latin1 = refl

-- two pieces one after the other
pub gives_on : (e : Encoding) (fed front piece old between new : List ℕ) → GivesNext e fed front old between
    → GivesNext e (fed ++ front) piece between new → GivesNext e fed (front ++ piece) old new
gives_on e fed front piece old between new first next = (
  first.0 ++ next.0,
  next.1 ∙ ap (λ l. l ++ next.0) first.1 ∙ append_assoc old first.0 next.0,
  ap (decoded_prefix e) (sym (append_assoc fed front piece)) ∙ next.2 ∙ ap (λ l. l ++ next.0) first.2
      ∙ append_assoc (decoded_prefix e fed) first.0 next.0,
)
