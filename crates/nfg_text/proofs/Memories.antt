-- A memory holds what the rules read of the text before a place.
use Rattle.std.proofs.Common.{◌≡◌, ℕ, ◌<◌, Bool, true, false, not, ◌==◌, ◌&&◌, ◌||◌, List, [], ◌∷◌, ◌++◌, map, length, unwrap_or, refl, sym, ap, ap₂, ◌∙◌, arith}
use Rattle.ucd_breaks.specs.GraphemeClusterBreak.{grapheme_cluster_break, grapheme_cluster_break_number}
use Rattle.ucd_breaks.specs.declared.GraphemeClusterBreak.{GraphemeClusterBreak}
use Rattle.ucd_breaks.proofs.GraphemeClusterBreakLemmas.{grapheme_cluster_break_number_injective}
use Rattle.ucd_derived.specs.IndicConjunctBreak.{indic_conjunct_break}
use Rattle.ucd_derived.specs.declared.IndicConjunctBreak.{IndicConjunctBreak}
use Rattle.ucd_derived.specs.declared.IndicConjunctBreak.TheVariants.{Linker, Extend}
use Rattle.ucd_emoji.specs.Binary.{is_extended_pictographic}
use Rattle.unicode_segmentation.specs.Grapheme.{break_by_pair, ends_in_linker, ends_in_pictograph, ends_in_half_flag, is_consonant, is_extend, is_zwj, is_regional, is_grapheme_break}
use Rattle.nfg_text.specs.declared.breaks.Memory.{Memory}
use Rattle.nfg_text.specs.Breaks.{Remembers, ends_in_emoji_joiner, is_linked_after, joins_by_memory, rule_number}
use Rattle.nfg_text.proofs.NeighborFacts.{by_rule}
use Rattle.nfg_text.specs.Laws.{MemoriesCutAlike}
use Rattle.nfg_text.proofs.Cuts.{put_first, cut-nil, cut-cons}

pub is_linked_after-step : (v : IndicConjunctBreak) (vs : List IndicConjunctBreak) → is_linked_after v (ends_in_linker vs) ≡ ends_in_linker (v ∷ vs)
unfolding ends_in_linker
is_linked_after-step Linker vs = refl
is_linked_after-step Extend vs = refl
is_linked_after-step _ vs = refl

pub Remembers-nil : (m : Memory) → m.after_linker ≡ false → m.after_pictograph ≡ false → m.after_joiner ≡ false → m.half_flag ≡ false → Remembers m []
unfolding ends_in_linker ends_in_pictograph ends_in_half_flag
Remembers-nil m l p j f = record { class = tt; linker = l; pictograph = p; joiner = j; flag = f }

module _ (memory : Memory) (before : List ℕ) (c : ℕ) (m : Remembers memory before) where
  pub linker-then : is_linked_after (indic_conjunct_break c) memory.after_linker ≡ ends_in_linker (map indic_conjunct_break (c ∷ before))
  linker-then = ap (is_linked_after (indic_conjunct_break c)) m.linker ∙ is_linked_after-step (indic_conjunct_break c) (map indic_conjunct_break before)

  pub pictograph-then : (is_extended_pictographic c || (is_extend (grapheme_cluster_break c) && memory.after_pictograph)) ≡ ends_in_pictograph (c ∷ before)
  unfolding ends_in_pictograph
  pictograph-then = ap (λ b. is_extended_pictographic c || (is_extend (grapheme_cluster_break c) && b)) m.pictograph

  pub joiner-then : (is_zwj (grapheme_cluster_break c) && memory.after_pictograph) ≡ ends_in_emoji_joiner (c ∷ before)
  joiner-then = ap (λ b. is_zwj (grapheme_cluster_break c) && b) m.pictograph

  pub flag-then : (is_regional (grapheme_cluster_break c) && not memory.half_flag) ≡ ends_in_half_flag (c ∷ before)
  unfolding ends_in_half_flag
  flag-then = ap (λ b. is_regional (grapheme_cluster_break c) && not b) m.flag

pub joins_by_memory-rule : (memory : Memory) (last : ℕ) (before after : List ℕ) (c : ℕ) → Remembers memory (last ∷ before) → unwrap_or (break_by_pair true (grapheme_cluster_break last) (grapheme_cluster_break c)) (not (joins_by_memory memory c)) ≡ is_grapheme_break true (last ∷ before) (c ∷ after)
unfolding is_grapheme_break
joins_by_memory-rule memory last before after c m =
    ap (λ j. unwrap_or (break_by_pair true (grapheme_cluster_break last) (grapheme_cluster_break c)) (not j))
    (ap₂ ◌||◌ (ap₂ ◌||◌ (ap (λ b. b && is_consonant (indic_conjunct_break c)) m.linker) (ap (λ b. b && is_extended_pictographic c) m.joiner)) (ap (λ b. b && is_regional (grapheme_cluster_break c)) m.flag))

pub decided : (memory : Memory) (before after : List ℕ) (c rule : ℕ) (joins : Bool) → Remembers memory before → 0 < length before
    → ((a b : GraphemeClusterBreak) → memory.class ≡ grapheme_cluster_break_number a → grapheme_cluster_break_number (grapheme_cluster_break c) ≡ grapheme_cluster_break_number b → rule ≡ rule_number (break_by_pair true a b))
    → joins ≡ joins_by_memory memory c → ((rule == 1) || ((rule == 2) && not joins)) ≡ is_grapheme_break true before (c ∷ after)
decided memory [] after c rule joins m some between looks_back = absurd (omega arith)
decided memory (last ∷ before) after c rule joins m some between looks_back =
    ap₂ (λ r j. (r == 1) || ((r == 2) && not j)) (between (grapheme_cluster_break last) (grapheme_cluster_break c) m.class refl) looks_back
    ∙ by_rule (break_by_pair true (grapheme_cluster_break last) (grapheme_cluster_break c)) (joins_by_memory memory c)
    ∙ joins_by_memory-rule memory last before after c m

pub rule-last : (c : ℕ) (before : List ℕ) → is_grapheme_break true (c ∷ before) [] ≡ true
unfolding is_grapheme_break
rule-last c before = refl

-- ---- two texts of which one memory is true

memory_then : Memory → ℕ → Memory
memory_then m c =
    record {
      class = grapheme_cluster_break_number (grapheme_cluster_break c);
      after_linker = is_linked_after (indic_conjunct_break c) m.after_linker;
      after_pictograph = is_extended_pictographic c || (is_extend (grapheme_cluster_break c) && m.after_pictograph);
      after_joiner = is_zwj (grapheme_cluster_break c) && m.after_pictograph;
      half_flag = is_regional (grapheme_cluster_break c) && not m.half_flag;
    }

remembers_then : (m : Memory) (before : List ℕ) (c : ℕ) → Remembers m before → Remembers (memory_then m c) (c ∷ before)
unfolding memory_then
remembers_then m before c r =
    record { class = refl; linker = linker-then m before c r; pictograph = pictograph-then m before c r; joiner = joiner-then m before c r; flag = flag-then m before c r }

pub rule_by_memory : (m : Memory) (x y : List ℕ) (c : ℕ) (after : List ℕ) → Remembers m x → Remembers m y → 0 < length x → 0 < length y → is_grapheme_break true x (c ∷ after) ≡ is_grapheme_break true y (c ∷ after)
rule_by_memory m [] y c after p q some_x some_y = absurd (omega arith)
rule_by_memory m (a ∷ x) [] c after p q some_x some_y = absurd (omega arith)
rule_by_memory m (a ∷ x) (b ∷ y) c after p q some_x some_y =
    let same = grapheme_cluster_break_number_injective (grapheme_cluster_break a) (grapheme_cluster_break b) (sym p.class ∙ q.class) in
    sym (joins_by_memory-rule m a x after c p)
    ∙ ap (λ k. unwrap_or (break_by_pair true k (grapheme_cluster_break c)) (not (joins_by_memory m c))) same
    ∙ joins_by_memory-rule m b y after c q

pub memories_cut_alike : MemoriesCutAlike
memories_cut_alike m x y [] p q = cut-nil (is_grapheme_break true) x [] ∙ sym (cut-nil (is_grapheme_break true) y [])
memories_cut_alike m x y (c ∷ cs) p q =
    let next = memory_then m c in
    let px = remembers_then m x c p in
    let qy = remembers_then m y c q in
    cut-cons (is_grapheme_break true) x c cs []
    ∙ ap₂ (λ b ps. put_first b (c ∷ []) ps) (at_place next (c ∷ x) (c ∷ y) (cs ++ []) px qy (omega arith) (omega arith)) (memories_cut_alike next (c ∷ x) (c ∷ y) cs px qy)
    ∙ sym (cut-cons (is_grapheme_break true) y c cs [])
  where
    at_place : (n : Memory) (a b r : List ℕ) → Remembers n a → Remembers n b → 0 < length a → 0 < length b → is_grapheme_break true a r ≡ is_grapheme_break true b r
    at_place n (a ∷ front) (b ∷ back) [] p q h k = rule-last a front ∙ sym (rule-last b back)
    at_place n [] b [] p q h k = absurd (omega arith)
    at_place n (a ∷ front) [] [] p q h k = absurd (omega arith)
    at_place n a b (d ∷ r) p q h k = rule_by_memory n a b d r p q h k
