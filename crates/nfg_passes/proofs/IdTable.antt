-- The table holds the id of each code point.
use Rattle.std.proofs.Common.{◌≡◌, ℕ, ◌+◌, ◌*◌, ◌<◌, ◌≤◌, true, ◌==◌, [], refl, sym, ap, ◌∙◌, arith, inl, inr}
use Rattle.std.proofs.lemmas.Bool.{cases_lt}
use Rattle.std.specs.List.{position_or_len}
use Rattle.ucd_breaks.specs.GraphemeClusterBreak.{grapheme_cluster_break, grapheme_cluster_break_number}
use Rattle.ucd_breaks.proofs.GraphemeClusterBreakLemmas.{grapheme_cluster_break_stepped}
use Rattle.ucd_derived.specs.IndicConjunctBreak.{indic_conjunct_break, indic_conjunct_break_number}
use Rattle.ucd_derived.proofs.IndicConjunctBreakLemmas.{indic_conjunct_break_stepped}
use Rattle.ucd_emoji.specs.Binary.{is_extended_pictographic}
use Rattle.ucd_emoji.proofs.BinaryLemmas.{is_extended_pictographic_stepped}
use Rattle.ucd_normal.specs.CanonicalCombiningClass.{canonical_combining_class}
use Rattle.ucd_normal.specs.QuickCheck.{quick_check, quick_check_number}
use Rattle.ucd_normal.specs.declared.forms.Form.TheVariants.{Nfc}
use Rattle.ucd_normal.proofs.CanonicalCombiningClassLemmas.{canonical_combining_class_stepped}
use Rattle.ucd_normal.proofs.QuickCheckLemmas.{quick_check_stepped}
use Rattle.ucd_table.specs.Steps.{step_value}
use Rattle.ucd_table.specs.Trie.{IsTrie, trie_value}
use Rattle.ucd_table.proofs.Computing.{tables}
use Rattle.ucd_table.proofs.Facts.{Stepped-beyond}
use Rattle.ucd_table.proofs.Stepped.{Stepped, map_stepped, zip_stepped, runs_of}
use Rattle.ucd_table.proofs.StepsLemmas.{skip, step_value-nil, step_value-skip}
use Rattle.ucd_table.proofs.TrieCheck.{trie_ok, trie_ok-IsTrie, trie_ok-trie_value, trie_value-Stepped}
use Rattle.nfg_text.specs.Properties.{bit}
use Rattle.nfg_passes.specs.Attributes.{attributes, attributes_in_order}
use Rattle.nfg_passes.specs.Ids.{id_number}
use Rattle.nfg_passes.specs.declared.id_blocks.TheConstants.{WORDS}
use Rattle.nfg_passes.specs.declared.id_table.TheConstants.{INDEX, TAIL}

abbrev of_class : ℕ → ℕ
of_class c = grapheme_cluster_break_number (grapheme_cluster_break c) + 16 * indic_conjunct_break_number (indic_conjunct_break c)

abbrev of_rules : ℕ → ℕ
of_rules c = of_class c + 64 * bit (is_extended_pictographic c)

abbrev of_marks : ℕ → ℕ
of_marks c = of_rules c + 128 * canonical_combining_class c

unfoldable pub rules_stepped : Stepped of_rules
unfolding grapheme_cluster_break_stepped indic_conjunct_break_stepped is_extended_pictographic_stepped
rules_stepped =
    let pairs = zip_stepped (λ v w. grapheme_cluster_break_number v + 16 * indic_conjunct_break_number w) grapheme_cluster_break indic_conjunct_break grapheme_cluster_break_stepped indic_conjunct_break_stepped in
    zip_stepped (λ n p. n + 64 * bit p) of_class is_extended_pictographic pairs is_extended_pictographic_stepped

unfoldable pub attributes_stepped : Stepped attributes
unfolding attributes rules_stepped canonical_combining_class_stepped quick_check_stepped
attributes_stepped =
    let marks = zip_stepped (λ n k. n + 128 * k) of_rules canonical_combining_class rules_stepped canonical_combining_class_stepped in
    zip_stepped (λ n v. n + 32768 * quick_check_number v) of_marks (quick_check Nfc) marks (quick_check_stepped Nfc)

-- the place of these attributes
abbrev pub place_of : ℕ → ℕ
place_of a = position_or_len (λ x. x == a) attributes_in_order

unfoldable pub ids_stepped : Stepped id_number
unfolding id_number attributes_stepped
ids_stepped = map_stepped place_of attributes attributes_stepped

table_ok : trie_ok 8 8 88 INDEX WORDS TAIL (runs_of id_number ids_stepped) ≡ true
unfolding tables ids_stepped attributes_stepped attributes_in_order rules_stepped grapheme_cluster_break_stepped indic_conjunct_break_stepped is_extended_pictographic_stepped canonical_combining_class_stepped quick_check_stepped
table_ok = refl

pub table_is_trie : IsTrie 8 8 INDEX WORDS
table_is_trie = trie_ok-IsTrie 8 8 88 INDEX WORDS TAIL _ table_ok

-- ---- numbers that are no code points

none_left : skip (runs_of id_number ids_stepped) 0x11_0000 ≡ []
unfolding tables ids_stepped attributes_stepped attributes_in_order rules_stepped grapheme_cluster_break_stepped indic_conjunct_break_stepped is_extended_pictographic_stepped canonical_combining_class_stepped quick_check_stepped
none_left = refl

table_beyond : (c : ℕ) → 0x11_0000 ≤ c → trie_value 8 8 INDEX WORDS TAIL c ≡ 0
table_beyond c past =
    let runs = runs_of id_number ids_stepped in
    trie_ok-trie_value 8 8 88 INDEX WORDS TAIL runs table_ok c ∙ sym (step_value-skip 0 runs 0x11_0000 c past)
    ∙ ap (λ ss. step_value 0 ss c) none_left ∙ step_value-nil 0 c

id_beyond : (c : ℕ) → 0x10_FFFF < c → id_number c ≡ 0
unfolding tables ids_stepped attributes_stepped attributes_in_order rules_stepped grapheme_cluster_break_stepped indic_conjunct_break_stepped is_extended_pictographic_stepped canonical_combining_class_stepped quick_check_stepped
id_beyond c past = Stepped-beyond id_number ids_stepped refl c past

pub table_gives : (c : ℕ) → trie_value 8 8 INDEX WORDS TAIL c ≡ id_number c
table_gives c =
    elim (cases_lt c 0x11_0000) [
      | inl code ↦ trie_value-Stepped 8 8 88 INDEX WORDS TAIL id_number ids_stepped table_ok c code
      | inr past ↦ table_beyond c past ∙ sym (id_beyond c (omega (arith, past)))
    ]
