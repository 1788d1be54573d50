-- The laws of clusters and normal forms.
use Rattle.std.specs.Prelude.{◌≡◌, ◌↔◌, ◌⊎◌, ℕ, true, false, ◌==◌, List, [], ◌∷◌, ◌++◌, length, map, reverse, take, drop, encode_utf8_all}
use Rattle.std.specs.List.{Contains}
use Rattle.unicode_normalization.specs.Forms.{nfc, nfd}
use Rattle.unicode_segmentation.specs.Grapheme.{graphemes, is_grapheme_break}
use Rattle.unicode_segmentation.specs.Segments.{cut}
use Rattle.nfg_text.specs.Breaks.{Remembers}
use Rattle.nfg_text.specs.Graphemes.{clusters, graphemes_of, cluster_ends, starts_safely, stable_len, IsInNfg, IsStableBetween, IsStableLen, AreEquivalent}
use Rattle.nfg_text.specs.Plain.{is_plain, singles, AllPlain}
use Rattle.nfg_text.specs.Text.{text_of, IsText}
use Rattle.nfg_text.specs.declared.breaks.Memory.{Memory}

-- x is empty, or ends at a cluster end of x ++ y
abbrev pub IsAtBreak : List ℕ → List ℕ → Type 0
IsAtBreak x y = (length x ≡ 0) ⊎ Contains (cluster_ends (x ++ y)) (length x)

-- at such a place the clusters are those of both parts
abbrev pub ClustersAtBreak : Type 0
ClustersAtBreak = (x y : List ℕ) → IsAtBreak x y → clusters (x ++ y) ≡ clusters x ++ clusters y

-- so they are where the rules put a boundary between the parts
abbrev pub ClustersWhereBroken : Type 0
ClustersWhereBroken =
    (x : List ℕ) (c : ℕ) (y : List ℕ) → is_grapheme_break true (reverse x) (c ∷ y) ≡ true
    → clusters (x ++ c ∷ y) ≡ clusters x ++ clusters (c ∷ y)

-- the rules put a boundary between the text and a next code point
abbrev pub BreaksBefore : List ℕ → ℕ → Type 0
BreaksBefore t c = is_grapheme_break true (reverse t) (c ∷ []) ≡ true

-- and they do so wherever the clusters of a text are those of two parts
abbrev pub BrokenWhereParted : Type 0
BrokenWhereParted =
    (x : List ℕ) (c : ℕ) (y : List ℕ) → clusters (x ++ c ∷ y) ≡ clusters x ++ clusters (c ∷ y) → BreaksBefore x c

-- where a cluster of a text in NFC ends, both parts are in NFC
abbrev pub NfcAtBreak : Type 0
NfcAtBreak = (x y : List ℕ) → IsAtBreak x y → nfc (x ++ y) ≡ x ++ y → (nfc x ≡ x) × (nfc y ≡ y)

-- and the NFD of the text is those of both parts, joined
abbrev pub NfdOfParts : Type 0
NfdOfParts = (x y : List ℕ) → IsAtBreak x y → nfc (x ++ y) ≡ x ++ y → nfd (x ++ y) ≡ nfd x ++ nfd y

-- two texts have the same graphemes exactly where they are canonically equivalent
abbrev pub GraphemesDecideEquivalence : Type 0
GraphemesDecideEquivalence = (t u : List ℕ) → (graphemes_of t ≡ graphemes_of u) ↔ AreEquivalent t u

-- the graphemes of a text, joined, are its NFC
abbrev pub GraphemesSpellNfc : Type 0
GraphemesSpellNfc = (t : List ℕ) → text_of (graphemes_of t) ≡ nfc t

-- the clusters of a text, joined, are the text
abbrev pub ClustersSpellText : Type 0
ClustersSpellText = (t : List ℕ) → text_of (clusters t) ≡ t

-- the graphemes before a stable place stay, whatever follows
abbrev pub GraphemesAtStable : Type 0
GraphemesAtStable =
    (x y u : List ℕ) → IsStableBetween x y → graphemes_of (x ++ (y ++ u)) ≡ graphemes_of x ++ graphemes_of (y ++ u)

-- a cluster ends after every line feed
abbrev pub ClustersAtLineFeed : Type 0
ClustersAtLineFeed = (x y : List ℕ) → clusters ((x ++ 0xA ∷ []) ++ y) ≡ clusters (x ++ 0xA ∷ []) ++ clusters y

-- and nothing composes with one
abbrev pub NfcAtLineFeed : Type 0
NfcAtLineFeed = (x y : List ℕ) → nfc (x ++ 0xA ∷ y) ≡ nfc x ++ 0xA ∷ nfc y

-- `stable_len` gives the greatest stable place
abbrev pub StableLenIsGreatest : Type 0
StableLenIsGreatest = (t : List ℕ) → IsStableLen t (stable_len t)

-- so the graphemes of that much of a text stay, whatever follows
abbrev pub GraphemesAtStableLen : Type 0
GraphemesAtStableLen =
    (t u : List ℕ) → graphemes_of (t ++ u)
    ≡ graphemes_of (take (stable_len t) t) ++ graphemes_of (drop (stable_len t) t ++ u)

-- the first clusters of a text are the clusters of what they spell, and so are the last
abbrev pub ClustersOfParts : Type 0
ClustersOfParts =
    (t : List ℕ) (a b : List (List ℕ)) → clusters t ≡ a ++ b
    → (clusters (text_of a) ≡ a) × (clusters (text_of b) ≡ b)

-- the graphemes of a text are a list of graphemes
abbrev pub GraphemesAreInNfg : Type 0
GraphemesAreInNfg = (t : List ℕ) → IsInNfg (graphemes_of t)

-- both parts of a list of graphemes are lists of graphemes
abbrev pub PartsAreInNfg : Type 0
PartsAreInNfg = (a b : List (List ℕ)) → IsInNfg (a ++ b) → IsInNfg a × IsInNfg b

-- NFC may be taken in two parts before a code point that starts safely
abbrev pub NfcAtSafeStart : Type 0
NfcAtSafeStart =
    (x : List ℕ) (c : ℕ) (y : List ℕ) → starts_safely c ≡ true → nfc (x ++ c ∷ y) ≡ nfc x ++ nfc (c ∷ y)

-- such a code point is its own NFC
abbrev pub SafeStartsStay : Type 0
SafeStartsStay = (c : ℕ) → starts_safely c ≡ true → nfc (c ∷ []) ≡ c ∷ []

-- What follows may compose with a safe start. Still, a cluster ends before it where one would before it alone.
abbrev pub ClustersAtSafeStart : Type 0
ClustersAtSafeStart =
    (before : List ℕ) (c : ℕ) (y : List ℕ) → starts_safely c ≡ true → BreaksBefore before c
    → clusters (before ++ nfc (c ∷ y)) ≡ clusters before ++ clusters (nfc (c ∷ y))

-- so graphemes may be taken in two parts there
abbrev pub GraphemesAtSafeStart : Type 0
GraphemesAtSafeStart =
    (x : List ℕ) (c : ℕ) (y : List ℕ) → starts_safely c ≡ true → BreaksBefore (nfc x) c
    → graphemes_of (x ++ c ∷ y) ≡ graphemes_of x ++ graphemes_of (c ∷ y)

-- and nowhere else, U+2194 aside: what follows it may compose it to U+21AE, which is no pictograph
abbrev pub SafeStartsDecide : Type 0
SafeStartsDecide =
    (x : List ℕ) (c : ℕ) (y : List ℕ) → starts_safely c ≡ true → (c == 0x2194) ≡ false
    → graphemes_of (x ++ c ∷ y) ≡ graphemes_of x ++ graphemes_of (c ∷ y) → BreaksBefore (nfc x) c

-- without the exception that is false: U+1F600 U+200D and U+2194 U+0338
abbrev pub AllSafeStartsDecide : Type 0
AllSafeStartsDecide =
    (x : List ℕ) (c : ℕ) (y : List ℕ) → starts_safely c ≡ true
    → graphemes_of (x ++ c ∷ y) ≡ graphemes_of x ++ graphemes_of (c ∷ y) → BreaksBefore (nfc x) c

-- after two texts of which one memory is true, the same text is cut alike
abbrev pub MemoriesCutAlike : Type 0
MemoriesCutAlike =
    (memory : Memory) (before other t : List ℕ) → Remembers memory before → Remembers memory other
    → cut (is_grapheme_break true) before t [] ≡ cut (is_grapheme_break true) other t []

-- the clusters, each in UTF-8, are those that the rules give of the text in UTF-8
abbrev pub ClustersOfUtf8 : Type 0
ClustersOfUtf8 = (t : List ℕ) → IsText t → graphemes true (encode_utf8_all t) ≡ map encode_utf8_all (clusters t)

-- the text is settled between two plain code points, whatever comes before and after
abbrev pub GraphemesAtPlain : Type 0
GraphemesAtPlain =
    (x : List ℕ) (a b : ℕ) (y : List ℕ) → is_plain a ≡ true → is_plain b ≡ true
    → graphemes_of (x ++ a ∷ b ∷ y) ≡ graphemes_of (x ++ a ∷ []) ++ graphemes_of (b ∷ y)

-- of plain code points in a row, each but the last is a cluster of its own
abbrev pub PlainRunsAreSingles : Type 0
PlainRunsAreSingles =
    (run : List ℕ) (last : ℕ) (y : List ℕ) → AllPlain run → is_plain last ≡ true
    → graphemes_of (run ++ last ∷ y) ≡ singles run ++ graphemes_of (last ∷ y)

-- the rules put a boundary between two plain code points, whatever comes before and after
abbrev pub PlainPairsBreak : Type 0
PlainPairsBreak =
    (a b : ℕ) (before after : List ℕ) → is_plain a ≡ true → is_plain b ≡ true
    → is_grapheme_break true (a ∷ before) (b ∷ after) ≡ true

-- and between a plain code point and a line feed
abbrev pub PlainBreaksBeforeLineFeed : Type 0
PlainBreaksBeforeLineFeed =
    (a : ℕ) (before after : List ℕ) → is_plain a ≡ true
    → is_grapheme_break true (a ∷ before) (0xA ∷ after) ≡ true

-- the NFC of a text is a text
abbrev pub NfcOfText : Type 0
NfcOfText = (t : List ℕ) → IsText t → IsText (nfc t)

-- what is joined of texts is a text, and parts of a text are texts
abbrev pub PartsOfText : Type 0
PartsOfText = (x y : List ℕ) → IsText (x ++ y) ↔ (IsText x × IsText y)
