-- What the passes read of a code point, in one number, and the numbers that occur (this project's own).
use Rattle.std.specs.Prelude.{ℕ, ◌+◌, ◌*◌, List, [], ◌∷◌}
use Rattle.ucd_breaks.specs.GraphemeClusterBreak.{grapheme_cluster_break, grapheme_cluster_break_number}
use Rattle.ucd_derived.specs.IndicConjunctBreak.{indic_conjunct_break, indic_conjunct_break_number}
use Rattle.ucd_emoji.specs.Binary.{is_extended_pictographic}
use Rattle.ucd_normal.specs.CanonicalCombiningClass.{canonical_combining_class}
use Rattle.ucd_normal.specs.QuickCheck.{quick_check, quick_check_number}
use Rattle.unicode_normalization.specs.Forms.{Nfc}
use Rattle.nfg_text.specs.Properties.{bit}

-- the break class, the conjunct value, whether it is a pictograph, the combining class, and the NFC quick check
unfoldable pub attributes : ℕ → ℕ
attributes c =
    grapheme_cluster_break_number (grapheme_cluster_break c)
    + 16 * indic_conjunct_break_number (indic_conjunct_break c)
    + 64 * bit (is_extended_pictographic c)
    + 128 * canonical_combining_class c
    + 32768 * quick_check_number (quick_check Nfc c)

-- The attributes that a code point of Unicode 18 may have: 18 of safe starts, 53 of marks whose quick check is Yes, by
-- rising combining class, 13 of those whose answer is Maybe, and 4 of No.
unfoldable pub attributes_in_order : List ℕ
attributes_in_order =
    0x0003C ∷ 0x00030 ∷ 0x00031 ∷ 0x00012 ∷ 0x00032 ∷ 0x00033 ∷ 0x00034 ∷ 0x00035 ∷ 0x00036 ∷ 0x00037 ∷ 0x00038
    ∷ 0x00039 ∷ 0x0003A ∷ 0x0003B ∷ 0x0000C ∷ 0x0002C ∷ 0x0007C ∷ 0x0001D ∷ 0x00092 ∷ 0x00312 ∷ 0x00392 ∷ 0x00492
    ∷ 0x004A2 ∷ 0x00512 ∷ 0x00592 ∷ 0x00612 ∷ 0x00692 ∷ 0x00712 ∷ 0x00792 ∷ 0x00812 ∷ 0x00892 ∷ 0x00912 ∷ 0x00992
    ∷ 0x00A12 ∷ 0x00A92 ∷ 0x00B12 ∷ 0x00B92 ∷ 0x00C12 ∷ 0x00C92 ∷ 0x00D12 ∷ 0x00D92 ∷ 0x00E12 ∷ 0x00E92 ∷ 0x00F12
    ∷ 0x00F92 ∷ 0x01012 ∷ 0x01092 ∷ 0x01112 ∷ 0x01192 ∷ 0x01212 ∷ 0x02A12 ∷ 0x03392 ∷ 0x03592 ∷ 0x03B12 ∷ 0x03D12
    ∷ 0x04092 ∷ 0x04112 ∷ 0x04212 ∷ 0x06512 ∷ 0x06B12 ∷ 0x06C12 ∷ 0x06D12 ∷ 0x06E12 ∷ 0x06F12 ∷ 0x07012 ∷ 0x07112
    ∷ 0x07212 ∷ 0x07312 ∷ 0x07412 ∷ 0x07492 ∷ 0x07512 ∷ 0x10012 ∷ 0x1003A ∷ 0x1003B ∷ 0x10092 ∷ 0x10392 ∷ 0x10412
    ∷ 0x10492 ∷ 0x12D92 ∷ 0x16512 ∷ 0x16C12 ∷ 0x16E12 ∷ 0x17312 ∷ 0x17812 ∷ 0x08012 ∷ 0x0800C ∷ 0x0803C ∷ 0x0F312 ∷ []
