-- Between two plain code points a text is settled.
use Rattle.std.proofs.Common.{◌≡◌, ℕ, Bool, true, false, not, ◌&&◌, ◌||◌, List, [], ◌∷◌, ◌++◌, reverse, unwrap_or, refl, sym, ap, ap₂, ◌∙◌, append_assoc}
use Rattle.std.specs.List.{list_all}
use Rattle.std.proofs.lemmas.Bool.{and_parts}
use Rattle.std.proofs.lemmas.List.{reverse-append}
use Rattle.ucd_breaks.specs.GraphemeClusterBreak.{grapheme_cluster_break}
use Rattle.ucd_breaks.specs.declared.GraphemeClusterBreak.{GraphemeClusterBreak}
use Rattle.ucd_breaks.specs.declared.GraphemeClusterBreak.TheVariants.{Other, Lv, Lvt, Lf}
use Rattle.unicode_normalization.specs.Forms.{nfc}
use Rattle.unicode_segmentation.specs.Grapheme.{break_by_pair, ends_in_pictograph, is_zwj, is_regional, is_grapheme_break}
use Rattle.nfg_text.specs.Graphemes.{clusters, graphemes_of}
use Rattle.nfg_text.specs.Laws.{BreaksBefore, GraphemesAtPlain, PlainRunsAreSingles, PlainPairsBreak, PlainBreaksBeforeLineFeed}
use Rattle.nfg_text.specs.Plain.{is_plain, stands_apart}
use Rattle.nfg_text.proofs.AsciiFacts.{class_of_line_feed}
use Rattle.nfg_text.proofs.Cuts.{cut-cons, cut-nil, put_first, put_first-nil}
use Rattle.nfg_text.proofs.PlainFacts.{plain_stands_apart}
use Rattle.nfg_text.proofs.SafeStart.{nfc_at_safe_start, safe_starts_stay, graphemes_at_safe_start}

no_pair_rule : (v w : GraphemeClusterBreak) (otherwise : Bool) → stands_apart v ≡ true → stands_apart w ≡ true → otherwise ≡ true → unwrap_or (break_by_pair true v w) otherwise ≡ true
no_pair_rule Other Other otherwise p q h = h
no_pair_rule Other Lv otherwise p q h = h
no_pair_rule Other Lvt otherwise p q h = h
no_pair_rule Lv Other otherwise p q h = h
no_pair_rule Lv Lv otherwise p q h = h
no_pair_rule Lv Lvt otherwise p q h = h
no_pair_rule Lvt Other otherwise p q h = h
no_pair_rule Lvt Lv otherwise p q h = h
no_pair_rule Lvt Lvt otherwise p q h = h
no_pair_rule Other _ otherwise p q h = cc
no_pair_rule Lv _ otherwise p q h = cc
no_pair_rule Lvt _ otherwise p q h = cc
no_pair_rule _ w otherwise p q h = cc

no_flag : (v : GraphemeClusterBreak) → stands_apart v ≡ true → is_regional v ≡ false
no_flag Other h = refl
no_flag Lv h = refl
no_flag Lvt h = refl
no_flag _ h = cc

and_last : (a b : Bool) → b ≡ false → (a && b) ≡ false
and_last true b h = h
and_last false b h = refl

pub plain_pairs_break : PlainPairsBreak
unfolding is_grapheme_break
plain_pairs_break a b before after plain_a plain_b =
    let left = plain_stands_apart a plain_a in
    let right = plain_stands_apart b plain_b in
    let emoji = and_last (is_zwj (grapheme_cluster_break a) && ends_in_pictograph before) _ right.no_pictograph in
    no_pair_rule (grapheme_cluster_break a) (grapheme_cluster_break b) _ left.class right.class
    (ap not (ap₂ ◌||◌ (ap₂ ◌||◌ (and_last _ _ right.no_consonant) emoji) (and_last _ _ (no_flag (grapheme_cluster_break b) right.class))))

line_feed_apart : (v w : GraphemeClusterBreak) (otherwise : Bool) → stands_apart v ≡ true → w ≡ Lf → unwrap_or (break_by_pair true v w) otherwise ≡ true
line_feed_apart Other Lf otherwise p e = refl
line_feed_apart Lv Lf otherwise p e = refl
line_feed_apart Lvt Lf otherwise p e = refl
line_feed_apart _ w otherwise p e = cc

pub plain_breaks_before_line_feed : PlainBreaksBeforeLineFeed
unfolding is_grapheme_break
plain_breaks_before_line_feed a before after plain =
    line_feed_apart (grapheme_cluster_break a) (grapheme_cluster_break 0xA) _ (plain_stands_apart a plain).class class_of_line_feed

nfc-push : (x : List ℕ) (a : ℕ) → is_plain a ≡ true → nfc (x ++ a ∷ []) ≡ nfc x ++ a ∷ []
nfc-push x a plain =
    let safe = (plain_stands_apart a plain).safe in nfc_at_safe_start x a [] safe ∙ ap (λ l. nfc x ++ l) (safe_starts_stay a safe)

pub graphemes_at_plain : GraphemesAtPlain
graphemes_at_plain x a b y plain_a plain_b =
    let back = ap reverse (nfc-push x a plain_a) ∙ reverse-append (nfc x) (a ∷ []) in
    let broken : BreaksBefore (nfc (x ++ a ∷ [])) b =
    ap (λ before. is_grapheme_break true before (b ∷ [])) back ∙ plain_pairs_break a b (reverse (nfc x)) [] plain_a plain_b in
    ap graphemes_of (sym (append_assoc x (a ∷ []) (b ∷ y))) ∙ graphemes_at_safe_start (x ++ a ∷ []) b y (plain_stands_apart b plain_b).safe broken

clusters-one : (a : ℕ) → clusters (a ∷ []) ≡ (a ∷ []) ∷ []
clusters-one a =
    let rule = is_grapheme_break true in
    cut-cons rule [] a [] [] ∙ ap (put_first _ (a ∷ [])) (cut-nil rule (a ∷ []) []) ∙ put_first-nil _ (a ∷ [])

-- a plain code point before another is a cluster of its own
graphemes-plain : (a b : ℕ) (y : List ℕ) → is_plain a ≡ true → is_plain b ≡ true → graphemes_of (a ∷ b ∷ y) ≡ (a ∷ []) ∷ graphemes_of (b ∷ y)
graphemes-plain a b y plain_a plain_b =
    let one : graphemes_of (a ∷ []) ≡ (a ∷ []) ∷ [] = ap clusters (safe_starts_stay a (plain_stands_apart a plain_a).safe) ∙ clusters-one a in
    graphemes_at_plain [] a b y plain_a plain_b ∙ ap (λ l. l ++ graphemes_of (b ∷ y)) one

pub plain_runs_are_singles : PlainRunsAreSingles
plain_runs_are_singles [] last y all plain_last = refl
plain_runs_are_singles (a ∷ []) last y all plain_last =
    graphemes-plain a last y (and_parts (is_plain a) (list_all is_plain []) all).0 plain_last
plain_runs_are_singles (a ∷ b ∷ run) last y all plain_last =
    let first = and_parts (is_plain a) (list_all is_plain (b ∷ run)) all in
    let second = and_parts (is_plain b) (list_all is_plain run) first.1 in
    graphemes-plain a b (run ++ last ∷ y) first.0 second.0 ∙ ap (λ l. (a ∷ []) ∷ l) (plain_runs_are_singles (b ∷ run) last y first.1 plain_last)
