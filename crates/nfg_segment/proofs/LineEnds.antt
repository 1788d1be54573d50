-- Plain lines, and a CR LF behind them.
use Rattle.std.proofs.Common.{◌≡◌, ℕ, zero, suc, ◌<◌, ◌==◌, ◌&&◌, Bool, true, false, inl, inr, List, [], ◌∷◌, ◌++◌, length, nat_lt, unwrap_or, refl, sym, ap, ap₂, subst, ◌∙◌, arith, append_assoc, append-nil, eqb-true}
use Rattle.std.proofs.lemmas.Bool.{and_parts, cases_lt}
use Rattle.std.specs.List.{list_all}
use Rattle.nfg_text.specs.Forms.{nfc}
use Rattle.nfg_text.specs.Grapheme.{break_by_pair, is_grapheme_break}
use Rattle.nfg_text.specs.Graphemes.{clusters, graphemes_of, starts_safely}
use Rattle.nfg_text.specs.Plain.{singles}
use Rattle.nfg_text.specs.Properties.{bit}
use Rattle.nfg_text.proofs.AsciiFacts.{class_of_line_feed}
use Rattle.nfg_text.proofs.AtBreak.{clusters-nil}
use Rattle.nfg_text.proofs.Proved.{graphemes_at_stable, nfc_at_line_feed, nfc-nil, plain_stands_apart, safe_starts_stay}
use Rattle.nfg_passes.specs.Attributes.{attributes_in_order}
use Rattle.nfg_passes.specs.Ids.{id_number, attributes_of_id, class_of_id}
use Rattle.nfg_passes.specs.Rows.{next_in_rows, break_in_rows}
use Rattle.nfg_passes.specs.States.{automaton_state}
use Rattle.nfg_passes.proofs.Proved.{ids_tell}
use Rattle.nfg_passes.proofs.StateFacts.{state_below, next_gives, break_gives}
use Rattle.nfg_segment.specs.Follows.{Follows, IsApart}
use Rattle.nfg_segment.specs.Given.{Given, with_cluster, with_clusters}
use Rattle.nfg_segment.specs.Held.{Unfinished, Held, Keeps}
use Rattle.nfg_segment.specs.PlainLines.{is_of_plain_lines, ArePlainLines}
use Rattle.nfg_segment.proofs.Keeping.{left_open-stays}
use Rattle.nfg_segment.proofs.Machine.{with_clusters-append}
use Rattle.nfg_segment.proofs.OneCluster.{IsOne, IsOne-next, clusters-single}
use Rattle.nfg_segment.proofs.PlainLines.{of_lines, graphemes-line, graphemes-pair, graphemes-parted, lines-append, lines-plain, singles-append}
use Rattle.nfg_segment.proofs.Stable.{graphemes-nil, stable-all}
use Rattle.nfg_segment.proofs.Steps.{held}

-- ---- the rules at CR and LF, by the rows of the automaton

each : (ℕ → Bool) → ℕ → Bool
each test zero = true
each test (suc n) = test n && each test n

each-at : (test : ℕ → Bool) (n k : ℕ) → each test n ≡ true → k < n → test k ≡ true
unfolding each
each-at test zero k all below = absurd (omega (arith, below))
each-at test (suc n) k all below =
    let parts = and_parts (test n) (each test n) all in
    elim (cases_lt k n) [
      | inl less ↦ each-at test n k parts.1 less
      | inr more ↦ let same : k ≡ n = omega (arith, more, below) in ap test same ∙ parts.0
    ]

all_break : each (λ state. break_in_rows state 2 == 1) 13 ≡ true
unfolding break_in_rows each
all_break = refl

bit-one : (b : Bool) → bit b ≡ 1 → b ≡ true
bit-one true e = refl
bit-one false e = cc

bit-zero : (b : Bool) → bit b ≡ 0 → b ≡ false
bit-zero true e = cc
bit-zero false e = refl

module _ (c : ℕ) (return : id_number c ≡ 2) where
  abbrev pub line_end : List ℕ
  line_end = c ∷ 0xA ∷ []

  -- a cluster ends before every CR
  breaks_before_return : (before after : List ℕ) → is_grapheme_break true before (c ∷ after) ≡ true
  breaks_before_return before after =
      bit-one _ (sym (break_gives before c after) ∙ ap (break_in_rows (automaton_state before)) return
      ∙ eqb-true (break_in_rows (automaton_state before) 2) 1 (each-at (λ state. break_in_rows state 2 == 1) 13 (automaton_state before) all_break (state_below before)))

  state_of_return : automaton_state (c ∷ []) ≡ 1
  unfolding next_in_rows
  state_of_return = sym (next_gives [] c) ∙ ap (next_in_rows 0) return

  -- and none between CR and LF
  joins_line_feed : is_grapheme_break true (c ∷ []) (0xA ∷ []) ≡ false
  unfolding is_grapheme_break attributes_of_id attributes_in_order
  joins_line_feed =
      let rule = λ (otherwise : Bool). ap₂ (λ v w. unwrap_or (break_by_pair true v w) otherwise) (sym (ids_tell c).class ∙ ap class_of_id return) class_of_line_feed in
      rule _

  -- ---- a CR LF is a cluster of its own

  return_safe : starts_safely c ≡ true
  return_safe = sym (ids_tell c).safe ∙ ap (λ id. nat_lt id 18) return

  nfc-line_end : nfc line_end ≡ line_end
  nfc-line_end = nfc_at_line_feed (c ∷ []) [] ∙ ap₂ (λ front back. front ++ 0xA ∷ back) (safe_starts_stay c return_safe) nfc-nil

  clusters-line_end : clusters line_end ≡ line_end ∷ []
  clusters-line_end = subst IsOne (ap (λ l. l ++ 0xA ∷ []) (left_open-stays (c ∷ []) 0xA joins_line_feed)) (IsOne-next (c ∷ []) 0xA (clusters-single c))

  graphemes-line_end : (y : List ℕ) → graphemes_of (line_end ++ y) ≡ line_end ∷ graphemes_of y
  graphemes-line_end y =
      graphemes_at_stable line_end [] y (inr (inl (c ∷ [], refl))) ∙ ap (λ l. l ++ graphemes_of y) (ap clusters nfc-line_end ∙ clusters-line_end)

  before_line_end : (a : ℕ) (y : List ℕ) → is_of_plain_lines a ≡ true → graphemes_of (a ∷ line_end ++ y) ≡ (a ∷ []) ∷ graphemes_of (line_end ++ y)
  before_line_end a y of_a =
      elim (of_lines a of_a) [
        | inr line ↦ subst (λ x. graphemes_of (x ∷ line_end ++ y) ≡ (x ∷ []) ∷ graphemes_of (line_end ++ y)) (sym line) (graphemes-line (line_end ++ y))
        | inl plain ↦ graphemes-parted a c (0xA ∷ y) (plain_stands_apart a plain).safe return_safe (breaks_before_return (a ∷ []) [])
      ]

  -- so is each code point of the lines before it
  ended_lines_are_singles : (lines y : List ℕ) → ArePlainLines lines → graphemes_of (lines ++ (line_end ++ y)) ≡ singles lines ++ line_end ∷ graphemes_of y
  ended_lines_are_singles [] y all = graphemes-line_end y
  ended_lines_are_singles (a ∷ []) y all =
      before_line_end a y (and_parts (is_of_plain_lines a) (list_all is_of_plain_lines []) all).0 ∙ ap (λ l. (a ∷ []) ∷ l) (graphemes-line_end y)
  ended_lines_are_singles (a ∷ b ∷ lines) y all =
      let first = and_parts (is_of_plain_lines a) (list_all is_of_plain_lines (b ∷ lines)) all in
      let second = and_parts (is_of_plain_lines b) (list_all is_of_plain_lines lines) first.1 in
      graphemes-pair a b (lines ++ (line_end ++ y)) first.0 second.0 ∙ ap (λ l. (a ∷ []) ∷ l) (ended_lines_are_singles (b ∷ lines) y first.1)

  module _ (h : Held) (o : Unfinished) (tail lines fed : List ℕ) (given : List (List ℕ)) (apart : IsApart h fed given) (same : o ≡ h.cluster) (all : ArePlainLines lines) (none : tail ≡ []) where
    abbrev pub ended : List (List ℕ)
    ended = singles (h.tail ++ lines) ++ line_end ∷ []

    goes : (u : List ℕ) → graphemes_of ((fed ++ (lines ++ line_end)) ++ u) ≡ (given ++ ended) ++ graphemes_of u
    goes u =
        ap graphemes_of (append_assoc fed (lines ++ line_end) u) ∙ apart.follows.tracks.goes_on ((lines ++ line_end) ++ u)
        ∙ ap (λ k. given ++ clusters (k ++ nfc (h.tail ++ ((lines ++ line_end) ++ u)))) apart.none
        ∙ ap (λ l. given ++ graphemes_of l) (ap (λ l. h.tail ++ l) (append_assoc lines line_end u) ∙ sym (append_assoc h.tail lines (line_end ++ u)))
        ∙ ap (λ l. given ++ l) (ended_lines_are_singles (h.tail ++ lines) u (lines-append h.tail lines (lines-plain h.tail apart.plain) all))
        ∙ ap (λ l. given ++ l) (sym (append_assoc (singles (h.tail ++ lines)) (line_end ∷ []) (graphemes_of u)))
        ∙ sym (append_assoc given ended (graphemes_of u))

    whole : graphemes_of (fed ++ (lines ++ line_end)) ≡ given ++ ended
    whole =
        ap graphemes_of (sym (append-nil (fed ++ (lines ++ line_end)))) ∙ goes [] ∙ ap (λ l. (given ++ ended) ++ l) graphemes-nil ∙ append-nil (given ++ ended)

    pub follows-ended : Follows (held o tail) (fed ++ (lines ++ line_end)) (given ++ ended)
    follows-ended =
        record {
          tracks =
              record {
                cluster = [];
                keeps = subst (λ u. Keeps u []) (sym same) (subst (Keeps h.cluster) apart.none apart.follows.tracks.keeps);
                one = clusters-nil;
                goes_on = λ u. goes u ∙ ap (λ l. (given ++ ended) ++ graphemes_of (l ++ u)) (sym none);
              };
          stable = stable-all (fed ++ (lines ++ line_end)) (given ++ ended) (omega (arith, ap length whole));
        }

-- lines and what ends them are given in three parts
pub given-ended : (out first second third : Given) (x y end : List ℕ) → first ≡ with_clusters out (singles x) → second ≡ with_clusters first (singles y) → third ≡ with_cluster second end
    → third ≡ with_clusters out (singles (x ++ y) ++ end ∷ [])
given-ended out first second third x y end one two three =
    three ∙ ap (λ o. with_cluster o end) (two ∙ ap (λ o. with_clusters o (singles y)) one ∙ sym (with_clusters-append out (singles x) (singles y)) ∙ ap (with_clusters out) (sym (singles-append x y)))
    ∙ sym (with_clusters-append out (singles (x ++ y)) (end ∷ []))
