-- What a segmenter knows after plain lines.
use Rattle.std.proofs.Common.{◌≡◌, ℕ, zero, suc, ◌+◌, ◌<◌, ◌||◌, ◌==◌, true, false, List, [], ◌∷◌, ◌++◌, length, take, get_or, refl, sym, ap, ap₂, subst, ◌∙◌, arith, append_assoc, append-nil, inl, inr}
use Rattle.std.proofs.lemmas.List.{length-append, take_more, take_all}
use Rattle.nfg_text.specs.Forms.{nfc}
use Rattle.nfg_text.specs.Grapheme.{is_grapheme_break}
use Rattle.nfg_text.specs.Graphemes.{clusters, graphemes_of, starts_safely}
use Rattle.nfg_text.specs.Plain.{is_plain, AllPlain, singles}
use Rattle.nfg_text.proofs.AtBreak.{clusters-nil}
use Rattle.nfg_text.proofs.Proved.{plain_stands_apart, line_feed_is_not_plain, safe_starts_stay}
use Rattle.nfg_segment.specs.Follows.{Follows, IsApart}
use Rattle.nfg_segment.specs.Held.{Unfinished, Held, Keeps, is_some}
use Rattle.nfg_segment.specs.PlainLines.{is_of_plain_lines, ArePlainLines}
use Rattle.nfg_segment.proofs.Keeping.{none-is_nil}
use Rattle.nfg_segment.proofs.OneCluster.{clusters-single}
use Rattle.nfg_segment.proofs.PlainLines.{of_lines, graphemes-alone, graphemes-parted, plain_lines_are_singles, whole_lines_are_singles, lines-append, lines-plain, lines-take, lines-at}
use Rattle.nfg_segment.proofs.Stable.{graphemes-nil, stable-all, stable-but_one, no_line}
use Rattle.nfg_segment.proofs.Steps.{held}

-- a line feed is not plain
plain_no_line : (c : ℕ) → is_plain c ≡ true → c ≡ 0xA → ⊥
plain_no_line c plain e = let clash = sym line_feed_is_not_plain ∙ sym (ap is_plain e) ∙ plain in cc

module _ (h : Held) (o : Unfinished) (fed : List ℕ) (given : List (List ℕ)) (apart : IsApart h fed given) (same : o ≡ h.cluster) where
  keeps-none : Keeps o []
  keeps-none = subst (λ u. Keeps u []) (sym same) (subst (Keeps h.cluster) apart.none apart.follows.tracks.keeps)

  -- what follows is cut with what is held
  goes-apart : (u : List ℕ) → graphemes_of (fed ++ u) ≡ given ++ graphemes_of (h.tail ++ u)
  goes-apart u = apart.follows.tracks.goes_on u ∙ ap (λ k. given ++ clusters (k ++ nfc (h.tail ++ u))) apart.none

  -- of plain lines that end in a plain code point, each but that one is given out
  follows-plain : (tail front : List ℕ) (last : ℕ) → ArePlainLines front → is_plain last ≡ true → tail ≡ last ∷ [] → Follows (held o tail) (fed ++ (front ++ last ∷ [])) (given ++ singles (h.tail ++ front))
  follows-plain tail front last all plain_last e =
      record {
        tracks =
            record {
              cluster = [];
              keeps = keeps-none;
              one = clusters-nil;
              goes_on = λ u. goes u ∙ ap (λ l. (given ++ singles (h.tail ++ front)) ++ graphemes_of (l ++ u)) (sym e);
            };
        stable = stable-but_one (fed ++ (front ++ last ∷ [])) (given ++ singles (h.tail ++ front)) (omega (arith, ap length whole, length-append (given ++ singles (h.tail ++ front)) ((last ∷ []) ∷ [])))
            (λ before at. no_line (fed ++ front) last (plain_no_line last plain_last) before (append_assoc fed front (last ∷ []) ∙ at));
      }
    where
      goes : (u : List ℕ) → graphemes_of ((fed ++ (front ++ last ∷ [])) ++ u) ≡ (given ++ singles (h.tail ++ front)) ++ graphemes_of (last ∷ u)
      goes u =
          ap graphemes_of (append_assoc fed (front ++ last ∷ []) u ∙ ap (λ l. fed ++ l) (append_assoc front (last ∷ []) u))
          ∙ goes-apart (front ++ last ∷ u)
          ∙ ap (λ l. given ++ graphemes_of l) (sym (append_assoc h.tail front (last ∷ u)))
          ∙ ap (λ l. given ++ l) (plain_lines_are_singles (h.tail ++ front) last u (lines-append h.tail front (lines-plain h.tail apart.plain) all) (ap (λ b. b || (last == 0xA)) plain_last))
          ∙ sym (append_assoc given (singles (h.tail ++ front)) (graphemes_of (last ∷ u)))

      whole : graphemes_of (fed ++ (front ++ last ∷ [])) ≡ (given ++ singles (h.tail ++ front)) ++ (last ∷ []) ∷ []
      whole =
          ap graphemes_of (sym (append-nil (fed ++ (front ++ last ∷ [])))) ∙ goes []
          ∙ ap (λ l. (given ++ singles (h.tail ++ front)) ++ l) (ap clusters (safe_starts_stay last (plain_stands_apart last plain_last).safe) ∙ clusters-single last)

  -- of those that end in a line feed, all is given out
  follows-line_feed : (tail front : List ℕ) → ArePlainLines front → tail ≡ [] → Follows (held o tail) (fed ++ (front ++ 0xA ∷ [])) (given ++ singles (h.tail ++ (front ++ 0xA ∷ [])))
  follows-line_feed tail front all e =
      record {
        tracks =
            record {
              cluster = [];
              keeps = keeps-none;
              one = clusters-nil;
              goes_on = λ u. goes u ∙ ap (λ l. (given ++ singles (h.tail ++ lines)) ++ graphemes_of (l ++ u)) (sym e);
            };
        stable = stable-all (fed ++ lines) (given ++ singles (h.tail ++ lines)) (omega (arith, ap length whole));
      }
    where
      lines : List ℕ
      lines = front ++ 0xA ∷ []

      goes : (u : List ℕ) → graphemes_of ((fed ++ lines) ++ u) ≡ (given ++ singles (h.tail ++ lines)) ++ graphemes_of u
      goes u =
          ap graphemes_of (append_assoc fed lines u) ∙ goes-apart (lines ++ u)
          ∙ ap (λ l. given ++ graphemes_of l) (sym (append_assoc h.tail lines u) ∙ ap (λ l. l ++ u) (sym (append_assoc h.tail front (0xA ∷ []))))
          ∙ ap (λ l. given ++ l) (whole_lines_are_singles (h.tail ++ front) u (lines-append h.tail front (lines-plain h.tail apart.plain) all))
          ∙ ap (λ l. given ++ (singles l ++ graphemes_of u)) (append_assoc h.tail front (0xA ∷ []))
          ∙ sym (append_assoc given (singles (h.tail ++ lines)) (graphemes_of u))

      whole : graphemes_of (fed ++ lines) ≡ given ++ singles (h.tail ++ lines)
      whole =
          ap graphemes_of (sym (append-nil (fed ++ lines))) ∙ goes []
          ∙ ap (λ l. (given ++ singles (h.tail ++ lines)) ++ l) graphemes-nil ∙ append-nil (given ++ singles (h.tail ++ lines))

  last_of : (lines : List ℕ) (end last d : ℕ) → end + 1 ≡ length lines → last ≡ get_or lines end d → take end lines ++ last ∷ [] ≡ lines
  last_of lines end last d size at =
      let within : end < length lines = omega (arith, size) in
      ap (λ l. take end lines ++ l ∷ []) (at ∙ get_or-default lines end d 0 within) ∙ sym (take_more lines end 0 within) ∙ take_all (end + 1) lines (omega (arith, size))
    where
      get_or-default : (xs : List ℕ) (i d e : ℕ) → i < length xs → get_or xs i d ≡ get_or xs i e
      get_or-default [] i d e h = absurd (omega arith)
      get_or-default (x ∷ xs) zero d e h = refl
      get_or-default (x ∷ xs) (suc i) d e h = get_or-default xs i d e (omega arith)

  pub follows-lines : (tail lines : List ℕ) (end last d : ℕ) → ArePlainLines lines → end + 1 ≡ length lines → last ≡ get_or lines end d → (last ≡ 0xA → ⊥) → tail ≡ last ∷ []
      → Follows (held o tail) (fed ++ lines) (given ++ singles (h.tail ++ take end lines))
  follows-lines tail lines end last d all size at other e =
      let within : end < length lines = omega (arith, size) in
      let plain : is_plain last ≡ true =
      elim (of_lines last (ap is_of_plain_lines at ∙ lines-at lines end d all within)) [
        | inl plain ↦ plain
        | inr line ↦ absurd (other line)
      ]
      in
      subst (λ l. Follows (held o tail) (fed ++ l) (given ++ singles (h.tail ++ take end lines))) (last_of lines end last d size at)
      (follows-plain tail (take end lines) last (lines-take end lines all) plain e)

  pub follows-whole_lines : (tail lines : List ℕ) (end last d : ℕ) → ArePlainLines lines → end + 1 ≡ length lines → last ≡ get_or lines end d → last ≡ 0xA → tail ≡ []
      → Follows (held o tail) (fed ++ lines) (given ++ singles (h.tail ++ lines))
  follows-whole_lines tail lines end last d all size at line e =
      subst (λ l. Follows (held o tail) (fed ++ l) (given ++ singles (h.tail ++ l)))
      (ap (λ c. take end lines ++ c ∷ []) (sym line) ∙ last_of lines end last d size at)
      (follows-line_feed tail (take end lines) (lines-take end lines all) e)

-- a code point that is all that is held is given out where the rules part it from the next one
pub follows-parted : (h : Held) (o : Unfinished) (tail fed : List ℕ) (given : List (List ℕ)) (p c : ℕ) (f : Follows h fed given) → f.tracks.cluster ≡ [] → h.tail ≡ p ∷ []
    → starts_safely p ≡ true → starts_safely c ≡ true → (c ≡ 0xA → ⊥) → is_grapheme_break true (p ∷ []) (c ∷ []) ≡ true → tail ≡ c ∷ [] → o ≡ h.cluster
    → Follows (held o tail) (fed ++ c ∷ []) (given ++ (p ∷ []) ∷ [])
follows-parted h o tail fed given p c f none one safe_p safe_c other parted e same =
    record {
      tracks =
          record {
            cluster = [];
            keeps = subst (λ u. Keeps u []) (sym same) (subst (Keeps h.cluster) none f.tracks.keeps);
            one = clusters-nil;
            goes_on = λ u. goes u ∙ ap (λ l. (given ++ (p ∷ []) ∷ []) ++ graphemes_of (l ++ u)) (sym e);
          };
      stable = stable-but_one (fed ++ c ∷ []) (given ++ (p ∷ []) ∷ []) (omega (arith, ap length whole, length-append (given ++ (p ∷ []) ∷ []) ((c ∷ []) ∷ []))) (no_line fed c other);
    }
  where
    goes : (u : List ℕ) → graphemes_of ((fed ++ c ∷ []) ++ u) ≡ (given ++ (p ∷ []) ∷ []) ++ graphemes_of (c ∷ u)
    goes u =
        ap graphemes_of (append_assoc fed (c ∷ []) u) ∙ f.tracks.goes_on (c ∷ u)
        ∙ ap₂ (λ k t. given ++ clusters (k ++ nfc (t ++ c ∷ u))) none one
        ∙ ap (λ l. given ++ l) (graphemes-parted p c u safe_p safe_c parted)
        ∙ sym (append_assoc given ((p ∷ []) ∷ []) (graphemes_of (c ∷ u)))

    whole : graphemes_of (fed ++ c ∷ []) ≡ (given ++ (p ∷ []) ∷ []) ++ (c ∷ []) ∷ []
    whole = ap graphemes_of (sym (append-nil (fed ++ c ∷ []))) ∙ goes [] ∙ ap (λ l. (given ++ (p ∷ []) ∷ []) ++ l) (graphemes-alone c safe_c)

pub apart-from : (h : Held) (fed : List ℕ) (given : List (List ℕ)) (f : Follows h fed given) → is_some f.tracks.cluster ≡ false → AllPlain h.tail → IsApart h fed given
apart-from h fed given f none plain = record { follows = f; none = none-is_nil f.tracks.cluster none; plain = plain }

-- a list of none
pub no_item : (t : List ℕ) → length t ≡ 0 → t ≡ []
no_item [] e = refl
no_item (x ∷ t) e = absurd (omega (arith, e))

-- a list of one
pub one_item : (t : List ℕ) (x d : ℕ) → length t ≡ 1 → x ≡ get_or t 0 d → t ≡ x ∷ []
one_item [] x d e at = absurd (omega (arith, e))
one_item (y ∷ []) x d e at = ap (λ z. z ∷ []) (sym at)
one_item (y ∷ (z ∷ t)) x d e at = absurd (omega (arith, e))
