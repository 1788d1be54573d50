-- The facts and laws of `specs/Facts` and `specs/Laws`, each under the name of its definition: what proofs of other crates cite.
pub use Rattle.nfg_text.proofs.Arrows.{not_all_safe_starts_decide}
pub use Rattle.nfg_text.proofs.AsciiFacts.{ascii_stands_alone, ascii_pairs_break, ascii_composites_are_ordinary}
pub use Rattle.nfg_text.proofs.AtBreak.{clusters_at_break, clusters_where_broken}
pub use Rattle.nfg_text.proofs.AtStable.{graphemes_at_stable, clusters_at_line_feed, nfc_at_line_feed}
pub use Rattle.nfg_text.proofs.BreakFacts.{conjunct_extenders_extend, linkers_are_no_controls, not_all_linkers_extend, pictographs_are_no_controls, consonants_are_no_controls, marks_extend}
pub use Rattle.nfg_text.proofs.Closure.{nfc_at_break, nfd_of_parts}
pub use Rattle.nfg_text.proofs.ControlFacts.{controls_stand_alone}
pub use Rattle.nfg_text.proofs.Equivalence.{clusters_spell_text, graphemes_spell_nfc, graphemes_decide_equivalence, clusters_of_utf8}
pub use Rattle.nfg_text.proofs.KeptFacts.{composites_keep_breaks}
pub use Rattle.nfg_text.proofs.Memories.{memories_cut_alike}
pub use Rattle.nfg_text.proofs.NotEmpty.{nfc-nil, nfc_is_some}
pub use Rattle.nfg_text.proofs.Parts.{graphemes_are_in_nfg, clusters_of_parts, parts_are_in_nfg}
pub use Rattle.nfg_text.proofs.PlainFacts.{plain_stands_apart, line_feed_is_not_plain}
pub use Rattle.nfg_text.proofs.PlainRuns.{plain_pairs_break, plain_breaks_before_line_feed, graphemes_at_plain, plain_runs_are_singles}
pub use Rattle.nfg_text.proofs.PlainTable.{printable_ascii_is_plain, latin_are_plain, punctuation_are_plain, radicals_are_plain, hiragana_are_plain, katakana_are_plain, ideographs_are_plain, syllables_are_plain, full_width_are_plain}
pub use Rattle.nfg_text.proofs.SafeStart.{nfc_at_safe_start, safe_starts_stay, clusters_at_safe_start, graphemes_at_safe_start, safe_starts_decide, broken_where_parted}
pub use Rattle.nfg_text.proofs.ScalarFacts.{nfc_of_text, parts_of_text}
pub use Rattle.nfg_text.proofs.StableLen.{stable_len_is_greatest, graphemes_at_stable_len}
pub use Rattle.nfg_text.proofs.StarterFacts.{starters_start_with_starters, composites_start_with_starters}
