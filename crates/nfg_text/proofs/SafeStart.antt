-- Before a code point that starts safely, NFC and graphemes may be taken in two parts.
use Rattle.std.proofs.Common.{◌≡◌, ◌≢◌, ◌⊎◌, ℕ, ◌≤◌, Bool, true, false, not, ◌&&◌, ◌||◌, ◌==◌, List, [], ◌∷◌, ◌++◌, map, reverse, Option, Some, None, unwrap_or, refl, sym, ap, ap₂, subst, ◌∙◌, arith, inl, inr, append_assoc, append-nil, eqb-true, eq-eqb, ne_eqb}
use Rattle.std.specs.List.{list_all}
use Rattle.std.proofs.lemmas.Bool.{cases_Bool, and_parts, and_from, eqb-false}
use Rattle.ucd_breaks.specs.GraphemeClusterBreak.{grapheme_cluster_break as class}
use Rattle.ucd_derived.specs.IndicConjunctBreak.{indic_conjunct_break as conjunct}
use Rattle.ucd_emoji.specs.Binary.{is_extended_pictographic as pictograph}
use Rattle.ucd_emoji.proofs.Computing.{ucd_emoji}
use Rattle.ucd_normal.proofs.Computing.{ucd_normal}
use Rattle.ucd_normal.specs.Binary.{is_full_composition_exclusion}
use Rattle.ucd_normal.specs.CanonicalCombiningClass.{canonical_combining_class as ccc}
use Rattle.unicode_normalization.specs.Compose.{primary_composite, joined, compose_after}
use Rattle.unicode_normalization.specs.Decompose.{decompose}
use Rattle.unicode_normalization.specs.Forms.{Nfd, Nfc, nfc}
use Rattle.unicode_normalization.specs.Hangul.{is_syllable}
use Rattle.unicode_normalization.specs.Order.{is_reorderable, sink}
use Rattle.unicode_normalization.specs.QuickCheck.{QuickCheck, Yes, No, quick_check}
use Rattle.unicode_normalization.proofs.Computing.{unicode_normalization}
use Rattle.unicode_normalization.proofs.ComposeLemmas.{compose_after-cases, compose_after-nil, compose_after-joined}
use Rattle.unicode_normalization.proofs.DecomposeLemmas.{decompose-final, decompose-primary_composite, IsFull-decompose, primary_composite-some, is_syllable-IsLv, is_syllable-IsLvt, IsCompositeOf-IsTableComposite}
use Rattle.unicode_normalization.proofs.FormsLemmas.{normalize-boundary, normalize-passes}
use Rattle.unicode_normalization.proofs.OrderLemmas.{canonical_order-cons, is_ordered-one, not_reorderable_rising, not_reorderable_starter, sink-nil, sink-stays}
use Rattle.unicode_normalization.proofs.TableFacts.{is_final}
use Rattle.unicode_segmentation.specs.Grapheme.{break_by_pair, ends_in_linker, ends_in_pictograph, ends_in_half_flag, joins_conjunct, joins_emoji, joins_flag, is_consonant, is_zwj, is_regional, is_grapheme_break}
use Rattle.nfg_text.specs.Facts.{BeginsWith}
use Rattle.nfg_text.specs.Graphemes.{is_yes, clusters, starts_safely}
use Rattle.nfg_text.specs.Laws.{NfcAtSafeStart, SafeStartsStay, ClustersAtSafeStart, GraphemesAtSafeStart, SafeStartsDecide, BrokenWhereParted, IsAtBreak}
use Rattle.nfg_text.specs.Text.{text_of}
use Rattle.nfg_text.proofs.Alike.{Alike, leading, alike-refl, alike-sym, alike-trans, alike_leading, rule-alike}
use Rattle.nfg_text.proofs.AtBreak.{clusters_where_broken, onto-one, break_from_end, reads_one_ahead}
use Rattle.nfg_text.proofs.Closure.{first_part}
use Rattle.nfg_text.proofs.Composing.{nfc-from}
use Rattle.nfg_text.proofs.Equivalence.{clusters_spell_text}
use Rattle.nfg_text.proofs.HangulFacts.{class_of_syllable, class_of_leading, leading_bounds}
use Rattle.nfg_text.proofs.KeptFacts.{composites_keep_breaks, arrows_begin, decompose-struck_arrow}
use Rattle.nfg_text.proofs.Parts.{ends_at_pieces}
use Rattle.nfg_text.proofs.StarterFacts.{starters_start_with_starters}

-- ---- what a code point that starts safely is

pub record SafeParts (c : ℕ) : Type 0 where
  pub starter : ccc c ≡ 0
  pub answer : quick_check Nfc c ≡ Yes

yes_from : (v : QuickCheck) → is_yes v ≡ true → v ≡ Yes
yes_from Yes h = refl
yes_from _ h = cc

pub safe_parts : (c : ℕ) → starts_safely c ≡ true → SafeParts c
safe_parts c safe =
    let parts = and_parts (ccc c == 0) (is_yes (quick_check Nfc c)) safe in
    record { starter = eqb-true (ccc c) 0 parts.0; answer = yes_from (quick_check Nfc c) parts.1 }

pub nfc_at_safe_start : NfcAtSafeStart
nfc_at_safe_start x c y safe = let parts = safe_parts c safe in normalize-boundary Nfc x c y parts.starter parts.answer

pub safe_starts_stay : SafeStartsStay
safe_starts_stay c safe =
    normalize-passes Nfc (c ∷ []) (and_from _ _ (ap is_yes (safe_parts c safe).answer) refl) (is_ordered-one c)

-- ---- the first code point that the NFC begins with

-- q is `start`, or was composed from it
abbrev ComposedFrom : ℕ → ℕ → Type 0
ComposedFrom start q = BeginsWith start q × ((q ≡ start) ⊎ ((a : ℕ) × (b : ℕ) × (primary_composite a b ≡ Some q)))

abbrev FirstComposed : ℕ → List ℕ → Type 0
FirstComposed start t = (q : ℕ) × (rest : List ℕ) × (t ≡ q ∷ rest) × ComposedFrom start q

first_composed : (start s : ℕ) (marks cs : List ℕ) → ComposedFrom start s → FirstComposed start (compose_after s marks cs)
first_composed start s marks [] from = (s, marks, compose_after-nil s marks, from)
first_composed start s marks (c ∷ cs) from =
    compose_after-cases s marks c cs (FirstComposed start)
    (λ q _ composed.
    let begins : BeginsWith start q = (from.0.0 ++ decompose Nfd c, decompose-primary_composite Nfd s c q composed ∙ ap (λ l. l ++ decompose Nfd c) from.0.1) in
    first_composed start q marks cs (begins, inr (s, c, composed)))
    (λ _ _. (s, marks ++ compose_after c [] cs, refl, from))
    (λ _ _. first_composed start s (marks ++ c ∷ []) cs from)

syllable_alike : (q start : ℕ) → is_syllable q ≡ true → BeginsWith start q → Alike q start
syllable_alike q start syllable begins =
    let bounds = leading_bounds q start syllable begins in
    alike_leading q start (class_of_syllable q syllable) (class_of_leading start bounds.0 bounds.1)

composed_alike : (start q : ℕ) → ComposedFrom start q → (q == 0x21AE) ≡ false → Alike q start
composed_alike start q from other =
    elim from.1 [
      | inl same ↦ alike-refl q start same
      | inr made ↦
          elim (primary_composite-some made.0 made.1 q made.2) [
            | inl (inl lv) ↦ syllable_alike q start (is_syllable-IsLv made.0 made.1 q lv) from.0
            | inl (inr lvt) ↦ syllable_alike q start (is_syllable-IsLvt made.0 made.1 q lvt) from.0
            | inr composed ↦
                let table = IsCompositeOf-IsTableComposite made.0 made.1 q composed in
                let kept = composites_keep_breaks q start composed.allowed table.both_other from.0 in
                record { side = ap leading kept.class; joint = kept.conjunct; picture = kept.pictograph other }
          ]
    ]

-- the first code point of the full decomposition of a safe start, and what NFC begins with
record Head (c : ℕ) (y : List ℕ) : Type 0 where
  start : ℕ
  begins : BeginsWith start c
  starter : ccc start ≤ 0
  of_c : ComposedFrom start c
  first : FirstComposed start (nfc (c ∷ y))

not_no : (v : QuickCheck) → v ≡ Yes → v ≢ No
not_no v yes_v no_v = let clash = sym yes_v ∙ no_v in cc

head_of : (c : ℕ) (y : List ℕ) → starts_safely c ≡ true → Head c y
head_of c y safe =
    let parts = safe_parts c safe in
    let part = first_part c in
    let start = part.0 in
    let begins : BeginsWith start c = (part.1, part.2) in
    let class_zero = starters_start_with_starters c start parts.starter (not_no _ parts.answer) begins in
    let low : ccc start ≤ 0 = omega arith in
    let all = subst (λ l. list_all (is_final Nfd) l ≡ true) part.2 (IsFull-decompose Nfd c).final in
    let whole = decompose-final Nfd start (and_parts (is_final Nfd start) (list_all (is_final Nfd) part.1) all).0 in
    let itself : ComposedFrom start start = (([], whole), inl refl) in
    let first_of = λ (rest : List ℕ). subst (FirstComposed start) (sym (nfc-from [] c rest start part.1 part.2 low)) (first_composed start start [] _ itself) in
    let one = first_of [] in
    record { start = start; begins = begins; starter = low; of_c = stays one.0 one.1 start (sym (safe_starts_stay c safe) ∙ one.2) one.3; first = first_of y }
  where
    stays : (q : ℕ) (rest : List ℕ) (start : ℕ) → c ∷ [] ≡ q ∷ rest → ComposedFrom start q → ComposedFrom start c
    stays q rest start e from = let same : q ≡ c = cc in subst (ComposedFrom start) same from

-- ---- U+2194, which is a pictograph, and U+21AE, which is none and begins with U+2194

struck_is_no_picture : pictograph 0x21AE ≡ false
unfolding ucd_emoji
struck_is_no_picture = refl

struck_is_allowed : is_full_composition_exclusion 0x21AE ≡ false
unfolding ucd_normal
struck_is_allowed = refl

overlay_is_lowest : ccc 0x338 ≡ 1
unfolding ucd_normal
overlay_is_lowest = refl

arrow-decomposed : decompose Nfd 0x2194 ≡ 0x2194 ∷ []
unfolding unicode_normalization
arrow-decomposed = refl

arrow-joined : joined 0x2194 [] 0x338 ≡ Some 0x21AE
unfolding unicode_normalization
arrow-joined = refl

arrow_is_starter : ccc 0x2194 ≡ 0
unfolding ucd_normal
arrow_is_starter = refl

without_emoji : (pair : Option Bool) (a e f : Bool) → unwrap_or pair (not ((a || e) || f)) ≡ true → unwrap_or pair (not ((a || false) || f)) ≡ true
without_emoji (Some b) a e f h = h
without_emoji None true e f h = h
without_emoji None false true f h = cc
without_emoji None false false f h = h

and_last : (a b : Bool) → b ≡ false → (a && b) ≡ false
and_last true b h = h
and_last false b h = refl

-- a boundary before U+2194 is one before U+21AE
break_before_struck : (before xs ys : List ℕ) → is_grapheme_break true before (0x2194 ∷ xs) ≡ true → is_grapheme_break true before (0x21AE ∷ ys) ≡ true
unfolding is_grapheme_break
break_before_struck [] xs ys h = refl
break_before_struck (b ∷ before) xs ys h =
    let kept = composites_keep_breaks 0x21AE 0x2194 struck_is_allowed refl (0x338 ∷ [], decompose-struck_arrow) in
    let by_conjunct = ap (λ v. ends_in_linker (map conjunct (b ∷ before)) && is_consonant v) kept.conjunct in
    let by_picture = and_last (is_zwj (class b) && ends_in_pictograph before) (pictograph 0x21AE) struck_is_no_picture in
    let by_flag = ap (λ v. ends_in_half_flag (b ∷ before) && is_regional v) kept.class in
    ap₂ unwrap_or (ap (break_by_pair true (class b)) kept.class) (ap not (ap₂ ◌||◌ (ap₂ ◌||◌ by_conjunct by_picture) by_flag))
    ∙ without_emoji (break_by_pair true (class b) (class 0x2194)) (joins_conjunct (b ∷ before) 0x2194) (joins_emoji (b ∷ before) 0x2194) (joins_flag (b ∷ before) 0x2194) h

-- the lowest class that moves goes before every mark
sink-overlay : (cs : List ℕ) → sink 0x338 cs ≡ 0x338 ∷ cs
sink-overlay [] = sink-nil 0x338
sink-overlay (d ∷ ds) = sink-stays 0x338 d ds (stays (ccc d) refl)
  where
    stays : (n : ℕ) → ccc d ≡ n → is_reorderable 0x338 d ≡ false
    stays n e =
        elim (cases_Bool (n == 0)) [
          | inl none ↦ let none_n = eqb-true n 0 none in not_reorderable_starter 0x338 d (omega arith)
          | inr some ↦ let some_n = eqb-false n 0 some in let low = overlay_is_lowest in not_reorderable_rising 0x338 d (omega arith)
        ]

-- U+21AE stays composed: U+0338 stands right behind U+2194, whatever follows
nfc-struck : (y : List ℕ) → (marks : List ℕ) × (nfc (0x21AE ∷ y) ≡ compose_after 0x21AE [] marks)
nfc-struck y =
    let low : ccc 0x2194 ≤ 0 = let e = arrow_is_starter in omega arith in
    let ordered = canonical_order-cons 0x338 _ ∙ sink-overlay _ in (
      _,
      nfc-from [] 0x21AE y 0x2194 (0x338 ∷ []) decompose-struck_arrow low
          ∙ ap (compose_after 0x2194 []) ordered
          ∙ compose_after-joined 0x2194 [] 0x338 0x21AE _ arrow-joined,
    )

-- the decomposition of q begins with that of r
abbrev Extends : ℕ → ℕ → Type 0
Extends r q = (more : List ℕ) × (decompose Nfd q ≡ decompose Nfd r ++ more)

first_extends : (r s : ℕ) (marks cs : List ℕ) → Extends r s → (q : ℕ) × (rest : List ℕ) × (compose_after s marks cs ≡ q ∷ rest) × Extends r q
first_extends r s marks [] more = (s, marks, compose_after-nil s marks, more)
first_extends r s marks (c ∷ cs) more =
    compose_after-cases s marks c cs (λ t. (q : ℕ) × (rest : List ℕ) × (t ≡ q ∷ rest) × Extends r q)
    (λ q _ composed.
    let longer = decompose-primary_composite Nfd s c q composed ∙ ap (λ l. l ++ decompose Nfd c) more.1 ∙ append_assoc (decompose Nfd r) more.0 (decompose Nfd c) in
    first_extends r q marks cs (more.0 ++ decompose Nfd c, longer))
    (λ _ _. (s, marks ++ compose_after c [] cs, refl, more))
    (λ _ _. first_extends r s (marks ++ c ∷ []) cs more)

-- so the NFC of a text that begins with U+21AE does not begin with U+2194
struck_stays : (y : List ℕ) (q : ℕ) (rest : List ℕ) → nfc (0x21AE ∷ y) ≡ q ∷ rest → q ≢ 0x2194
struck_stays y q rest form arrow =
    let struck = nfc-struck y in
    let first = first_extends 0x21AE 0x21AE [] struck.0 ([], sym (append-nil (decompose Nfd 0x21AE))) in
    let both = sym form ∙ struck.1 ∙ first.2 in
    let same : q ≡ first.0 = cc in
    let spelled : 0x2194 ∷ [] ≡ (0x2194 ∷ 0x338 ∷ []) ++ first.3.0 =
    sym arrow-decomposed ∙ ap (decompose Nfd) (sym arrow ∙ same) ∙ first.3.1 ∙ ap (λ l. l ++ first.3.0) decompose-struck_arrow in
    cc

-- ---- what NFC begins with, as the rules read it

abbrev Follows : ℕ → ℕ → Type 0
Follows c q = (before xs ys : List ℕ) → is_grapheme_break true before (c ∷ xs) ≡ true → is_grapheme_break true before (q ∷ ys) ≡ true

follows_alike : (c q : ℕ) → Alike c q → Follows c q
follows_alike c q alike before xs ys h = sym (rule-alike c q before xs ys alike) ∙ h

-- where a boundary comes before a safe start, one comes before what it is composed to, and the other way but at U+2194
record Leads (c : ℕ) (y : List ℕ) : Type 0 where
  first : ℕ
  rest : List ℕ
  form : nfc (c ∷ y) ≡ first ∷ rest
  there : Follows c first
  back : (c == 0x2194) ≡ false → Follows first c

begins_arrow : (start q : ℕ) → BeginsWith start q → q ≡ 0x21AE → start ≡ 0x2194
begins_arrow start q begins same = let spelled = sym begins.1 ∙ ap (decompose Nfd) same ∙ decompose-struck_arrow in cc

leads : (c : ℕ) (y : List ℕ) → starts_safely c ≡ true → Leads c y
leads c y safe =
    let head = head_of c y safe in
    let q = head.first.0 in
    elim (cases_Bool (head.start == 0x2194)) [
      | inl arrow ↦
          let same = eqb-true head.start 0x2194 arrow in
          by_arrow q head.first.1 head.first.2 (arrows_begin c (subst (λ s. BeginsWith s c) same head.begins)) (arrows_begin q (subst (λ s. BeginsWith s q) same head.first.3.0))
      | inr other ↦
          let apart = λ (x : ℕ) (begins : BeginsWith head.start x). ne_eqb x 0x21AE (λ e. eqb-false head.start 0x2194 other (begins_arrow head.start x begins e)) in
          let alike = alike-trans c head.start q (composed_alike head.start c head.of_c (apart c head.begins)) (alike-sym q head.start (composed_alike head.start q head.first.3 (apart q head.first.3.0))) in
          record { first = q; rest = head.first.1; form = head.first.2; there = follows_alike c q alike; back = λ _. follows_alike q c (alike-sym c q alike) }
    ]
  where
    itself : (q : ℕ) (rest : List ℕ) → nfc (c ∷ y) ≡ q ∷ rest → c ≡ q → Leads c y
    itself q rest form same =
        record { first = q; rest = rest; form = form; there = follows_alike c q (alike-refl c q same); back = λ _. follows_alike q c (alike-refl q c (sym same)) }

    by_arrow : (q : ℕ) (rest : List ℕ) → nfc (c ∷ y) ≡ q ∷ rest → (c ≡ 0x2194) ⊎ (c ≡ 0x21AE) → (q ≡ 0x2194) ⊎ (q ≡ 0x21AE) → Leads c y
    by_arrow q rest form (inl plain_c) (inl plain_q) = itself q rest form (plain_c ∙ sym plain_q)
    by_arrow q rest form (inr struck_c) (inr struck_q) = itself q rest form (struck_c ∙ sym struck_q)
    by_arrow q rest form (inr struck_c) (inl plain_q) =
        absurd (struck_stays y q rest (ap (λ x. nfc (x ∷ y)) (sym struck_c) ∙ form) plain_q)
    by_arrow q rest form (inl plain_c) (inr struck_q) =
        record {
          first = q;
          rest = rest;
          form = form;
          there = λ before xs ys h.
              subst (λ x. is_grapheme_break true before (x ∷ ys) ≡ true) (sym struck_q)
              (break_before_struck before xs ys (subst (λ x. is_grapheme_break true before (x ∷ xs) ≡ true) plain_c h));
          back = λ other. let clash = sym (eq-eqb c 0x2194 plain_c) ∙ other in cc;
        }

-- ---- the laws

pub clusters_at_safe_start : ClustersAtSafeStart
clusters_at_safe_start before c y safe broken =
    let lead = leads c y safe in
    ap (λ l. clusters (before ++ l)) lead.form
    ∙ clusters_where_broken before lead.first lead.rest (lead.there (reverse before) [] lead.rest broken)
    ∙ ap (λ l. clusters before ++ clusters l) (sym lead.form)

pub graphemes_at_safe_start : GraphemesAtSafeStart
graphemes_at_safe_start x c y safe broken = ap clusters (nfc_at_safe_start x c y safe) ∙ clusters_at_safe_start (nfc x) c y safe broken

break_from_parts : (t : List ℕ) (q : ℕ) (rest : List ℕ) → clusters (t ++ q ∷ rest) ≡ clusters t ++ clusters (q ∷ rest) → is_grapheme_break true (reverse t) (q ∷ rest) ≡ true
unfolding is_grapheme_break
break_from_parts [] q rest e = refl
break_from_parts (x ∷ xs) q rest e =
    let ends = (ends_at_pieces ((x ∷ xs) ++ q ∷ rest) (clusters (x ∷ xs)) (clusters (q ∷ rest)) e).1 in
    let at = subst (λ l. IsAtBreak (x ∷ xs) l) (clusters_spell_text (q ∷ rest)) (subst (λ l. IsAtBreak l (text_of (clusters (q ∷ rest)))) (clusters_spell_text (x ∷ xs)) ends) in
    elim at [
      | inl none ↦ absurd (omega arith)
      | inr listed ↦ ap (λ l. is_grapheme_break true l (q ∷ rest)) (sym (onto-one x xs)) ∙ break_from_end x xs (q ∷ rest) listed
    ]

pub broken_where_parted : BrokenWhereParted
broken_where_parted x c y parted = reads_one_ahead (reverse x) c [] y ∙ break_from_parts x c y parted

pub safe_starts_decide : SafeStartsDecide
safe_starts_decide x c y safe other parted =
    let lead = leads c y safe in
    let joined_form : nfc (x ++ c ∷ y) ≡ nfc x ++ lead.first ∷ lead.rest = nfc_at_safe_start x c y safe ∙ ap (λ l. nfc x ++ l) lead.form in
    let e = ap clusters (sym joined_form) ∙ parted ∙ ap (λ l. clusters (nfc x) ++ clusters l) lead.form in
    lead.back other (reverse (nfc x)) lead.rest [] (break_from_parts (nfc x) lead.first lead.rest e)
