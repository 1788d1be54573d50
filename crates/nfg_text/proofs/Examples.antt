-- The definitions, computed at texts that are written out.
use Rattle.std.proofs.Common.{◌≡◌, true, false, [], ◌∷◌, Some, None, refl}
use Rattle.std.specs.declared.cmp.Ordering.TheVariants.{Less, Greater}
use Rattle.unicode_normalization.proofs.Computing.{unicode_normalization}
use Rattle.unicode_segmentation.proofs.Computing.{unicode_segmentation}
use Rattle.nfg_text.specs.Graphemes.{clusters, graphemes_of, cluster_ends, starts_safely, stable_len}
use Rattle.nfg_text.specs.Operations.{concatenation, repetition, part_of, first_place, last_place, text_order}
use Rattle.nfg_text.specs.Plain.{is_plain, is_ordinary}
use Rattle.nfg_text.specs.Splice.{splice}
use Rattle.nfg_text.specs.Text.{text_of, IsText}

-- ---- texts

scalar_values_are_text : IsText (0x65 ∷ 0x10FFFF ∷ [])
scalar_values_are_text = refl

texts_are_joined_in_order : text_of ((0x65 ∷ 0x301 ∷ []) ∷ [] ∷ (0x71 ∷ []) ∷ []) ≡ 0x65 ∷ 0x301 ∷ 0x71 ∷ []
texts_are_joined_in_order = refl

-- ---- graphemes

an_accent_composes : graphemes_of (0x65 ∷ 0x301 ∷ []) ≡ (0xE9 ∷ []) ∷ []
unfolding unicode_normalization unicode_segmentation
an_accent_composes = refl

jamo_compose : graphemes_of (0x1100 ∷ 0x1161 ∷ 0x11A8 ∷ []) ≡ (0xAC01 ∷ []) ∷ []
unfolding unicode_normalization unicode_segmentation
jamo_compose = refl

an_exclusion_decomposes : graphemes_of (0x958 ∷ []) ≡ (0x915 ∷ 0x93C ∷ []) ∷ []
unfolding unicode_normalization unicode_segmentation
an_exclusion_decomposes = refl

marks_are_ordered : graphemes_of (0x71 ∷ 0x307 ∷ 0x323 ∷ []) ≡ (0x71 ∷ 0x323 ∷ 0x307 ∷ []) ∷ []
unfolding unicode_normalization unicode_segmentation
marks_are_ordered = refl

a_family_is_one_cluster : graphemes_of (0x1F468 ∷ 0x200D ∷ 0x1F469 ∷ 0x200D ∷ 0x1F467 ∷ []) ≡ (0x1F468 ∷ 0x200D ∷ 0x1F469 ∷ 0x200D ∷ 0x1F467 ∷ []) ∷ []
unfolding unicode_normalization unicode_segmentation
a_family_is_one_cluster = refl

a_conjunct_is_one_cluster : graphemes_of (0x915 ∷ 0x94D ∷ 0x937 ∷ 0x93F ∷ []) ≡ (0x915 ∷ 0x94D ∷ 0x937 ∷ 0x93F ∷ []) ∷ []
unfolding unicode_normalization unicode_segmentation
a_conjunct_is_one_cluster = refl

-- in Unicode 18 no consonant is asked for before the linker
a_linker_joins_alone : clusters (0x94D ∷ 0x924 ∷ []) ≡ (0x94D ∷ 0x924 ∷ []) ∷ []
unfolding unicode_segmentation
a_linker_joins_alone = refl

a_line_feed_stands_alone : graphemes_of (0xA ∷ 0x301 ∷ []) ≡ (0xA ∷ []) ∷ (0x301 ∷ []) ∷ []
unfolding unicode_normalization unicode_segmentation
a_line_feed_stands_alone = refl

an_arrow_joins : graphemes_of (0x1F600 ∷ 0x200D ∷ 0x2194 ∷ []) ≡ (0x1F600 ∷ 0x200D ∷ 0x2194 ∷ []) ∷ []
unfolding unicode_normalization unicode_segmentation
an_arrow_joins = refl

a_struck_arrow_does_not : graphemes_of (0x1F600 ∷ 0x200D ∷ 0x2194 ∷ 0x338 ∷ []) ≡ (0x1F600 ∷ 0x200D ∷ []) ∷ (0x21AE ∷ []) ∷ []
unfolding unicode_normalization unicode_segmentation
a_struck_arrow_does_not = refl

line_ends_hold_together : cluster_ends (0xD ∷ 0xA ∷ 0x71 ∷ []) ≡ 2 ∷ 3 ∷ []
unfolding unicode_segmentation
line_ends_hold_together = refl

-- ---- safe starts and plain code points

a_letter_starts_safely : starts_safely 0x61 ≡ true
unfolding unicode_normalization
a_letter_starts_safely = refl

-- class 0, but it composes with what comes before
a_vowel_does_not : starts_safely 0x1161 ≡ false
unfolding unicode_normalization
a_vowel_does_not = refl

-- class 0 and no second of a composition, but its decomposition begins with one
a_hidden_second_does_not : starts_safely 0x16D68 ≡ false
unfolding unicode_normalization
a_hidden_second_does_not = refl

a_syllable_is_plain : is_plain 0xAC01 ≡ true
unfolding is_plain is_ordinary unicode_normalization unicode_segmentation
a_syllable_is_plain = refl

-- so is a dash
a_dash_is_plain : is_plain 0x2014 ≡ true
unfolding is_plain is_ordinary unicode_normalization unicode_segmentation
a_dash_is_plain = refl

a_mark_is_not_plain : is_plain 0x301 ≡ false
unfolding is_plain is_ordinary unicode_normalization unicode_segmentation
a_mark_is_not_plain = refl

-- ---- stable places

a_last_letter_is_not_stable : stable_len (0x61 ∷ 0x62 ∷ 0x63 ∷ []) ≡ 2
a_last_letter_is_not_stable = refl

a_line_feed_is_stable : stable_len (0x61 ∷ 0xD ∷ 0xA ∷ []) ≡ 3
a_line_feed_is_stable = refl

a_carriage_return_may_go_on : stable_len (0x61 ∷ 0xD ∷ []) ≡ 1
a_carriage_return_may_go_on = refl

nothing_is_stable_in_marks : stable_len (0xE9 ∷ 0x301 ∷ []) ≡ 0
nothing_is_stable_in_marks = refl

-- ---- operations

a_seam_composes : concatenation ((0x61 ∷ []) ∷ (0x65 ∷ []) ∷ []) ((0x301 ∷ []) ∷ (0x71 ∷ []) ∷ []) ≡ (0x61 ∷ []) ∷ (0xE9 ∷ []) ∷ (0x71 ∷ []) ∷ []
unfolding unicode_normalization unicode_segmentation
a_seam_composes = refl

flags_pair_anew : repetition ((0x1F1E6 ∷ []) ∷ []) 3 ≡ (0x1F1E6 ∷ 0x1F1E6 ∷ []) ∷ (0x1F1E6 ∷ []) ∷ []
unfolding unicode_normalization unicode_segmentation
flags_pair_anew = refl

a_part_ends_with_the_list : part_of ((0x61 ∷ []) ∷ (0x62 ∷ []) ∷ (0x63 ∷ []) ∷ []) 1 5 ≡ (0x62 ∷ []) ∷ (0x63 ∷ []) ∷ []
a_part_ends_with_the_list = refl

the_first_place_from_one : first_place ((0x61 ∷ []) ∷ (0x62 ∷ []) ∷ (0x61 ∷ []) ∷ []) ((0x61 ∷ []) ∷ []) 1 ≡ Some 2
the_first_place_from_one = refl

the_last_place_up_to_one : last_place ((0x61 ∷ []) ∷ (0x62 ∷ []) ∷ (0x61 ∷ []) ∷ []) ((0x61 ∷ []) ∷ []) 1 ≡ Some 0
the_last_place_up_to_one = refl

nothing_stands_at_the_end : first_place ((0x61 ∷ []) ∷ []) [] 1 ≡ Some 1
nothing_stands_at_the_end = refl

nothing_stands_past_the_end : first_place ((0x61 ∷ []) ∷ []) [] 2 ≡ None
nothing_stands_past_the_end = refl

a_front_comes_first : text_order ((0x61 ∷ []) ∷ []) ((0x61 ∷ []) ∷ (0x62 ∷ []) ∷ []) ≡ Less
a_front_comes_first = refl

graphemes_order_by_code_points : text_order ((0x61 ∷ 0x323 ∷ []) ∷ []) ((0x61 ∷ []) ∷ (0x62 ∷ []) ∷ []) ≡ Greater
graphemes_order_by_code_points = refl

-- ---- splices

a_splice_makes_the_seam_anew : splice ((0x61 ∷ []) ∷ (0x65 ∷ []) ∷ []) ((0x301 ∷ []) ∷ (0x71 ∷ []) ∷ []) ≡ record { front = 1; middle = (0xE9 ∷ []) ∷ []; back = 1 }
unfolding unicode_normalization unicode_segmentation splice
a_splice_makes_the_seam_anew = refl

a_splice_keeps_both_sides : splice ((0x61 ∷ []) ∷ []) ((0x62 ∷ []) ∷ []) ≡ record { front = 1; middle = []; back = 1 }
unfolding unicode_normalization unicode_segmentation splice
a_splice_keeps_both_sides = refl

-- where the sides overlap, the front is kept
a_splice_keeps_the_front_first : splice ((0x1F1E6 ∷ 0x1F1E6 ∷ []) ∷ []) ((0x1F1E6 ∷ 0x1F1E6 ∷ []) ∷ []) ≡ record { front = 1; middle = []; back = 1 }
unfolding unicode_normalization unicode_segmentation splice
a_splice_keeps_the_front_first = refl
