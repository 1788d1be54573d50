-- Where the clusters of a text begin, as a mark for each of its code points (this project's own).
use Rattle.std.specs.Prelude.{◌≡◌, ℕ, suc, true, List, [], ◌∷◌, ◌==◌, if◌then◌else◌}
use Rattle.unicode_segmentation.specs.Grapheme.{is_grapheme_break}
use Rattle.nfg_text.specs.Graphemes.{cluster_ends}
use Rattle.nfg_text.specs.Properties.{bit}

-- 1 for each code point before which the rules put a boundary, and 0 for the others; `before` is given from its end
unfoldable pub marks_after : List ℕ → List ℕ → List ℕ
marks_after before [] = []
marks_after before (c ∷ rest) = bit (is_grapheme_break true before (c ∷ rest)) ∷ marks_after (c ∷ before) rest

-- those of a whole text
abbrev pub marks_of : List ℕ → List ℕ
marks_of t = marks_after [] t

-- the offsets at which clusters end: those of the marks, the first of which is at offset `at`, and the end of the text
unfoldable pub ends_from_marks : ℕ → List ℕ → List ℕ
ends_from_marks at [] = at ∷ []
ends_from_marks at (mark ∷ marks) =
    let rest = ends_from_marks (suc at) marks in if mark == 1 then at ∷ rest else rest

-- the same of a whole text: no cluster ends before its first code point
abbrev pub ends_of_marks : List ℕ → List ℕ
ends_of_marks [] = []
ends_of_marks (first ∷ marks) = ends_from_marks 1 marks

-- the marks of a text tell where its clusters end
abbrev pub MarksTellEnds : Type 0
MarksTellEnds = (t : List ℕ) → ends_of_marks (marks_of t) ≡ cluster_ends t
