-- Clusters of a text by its marks.
use Rattle.std.proofs.Common.{◌≡◌, ℕ, zero, suc, ◌+◌, ◌-◌, ◌<◌, ◌≤◌, Bool, true, false, ◌&&◌, ◌==◌, List, [], ◌∷◌, ◌++◌, length, take, drop, get_or, reverse, refl, sym, ap, ap₂, subst, ◌∙◌, arith, append_assoc, append-nil}
use Rattle.std.proofs.lemmas.Bool.{and_parts}
use Rattle.std.proofs.lemmas.List.{take_more, drop_more, take_all, length-drop, reverse-append}
use Rattle.std.specs.List.{slice_range}
use Rattle.nfg_text.specs.Grapheme.{is_grapheme_break}
use Rattle.nfg_text.specs.Plain.{singles}
use Rattle.nfg_text.specs.Properties.{bit}
use Rattle.nfg_text.proofs.AtBreak.{reads_one_ahead}
use Rattle.nfg_text.proofs.LookBack.{rule_forgets}
use Rattle.nfg_passes.specs.Marks.{marks_after, marks_of}
use Rattle.nfg_segment.specs.Given.{Given, with_cluster, with_clusters}
use Rattle.nfg_segment.specs.Held.{is_some, ends_before, closed, next, next_all, closed_all}
use Rattle.nfg_segment.proofs.Keeping.{left_open-ends, left_open-stays, closed-ends, closed-stays}
use Rattle.nfg_segment.proofs.Machine.{next_all-more, closed_all-more, with_clusters-append}
use Rattle.nfg_segment.proofs.PlainLines.{singles-append}
use Rattle.nfg_segment.proofs.Reaching.{slice_none, slice_more, slice_length, some-right}

-- the rules say the same after either text, whatever comes between
abbrev SameAfter : List ℕ → List ℕ → Type 0
SameAfter before near =
    (zs : List ℕ) (c : ℕ) (xs ys : List ℕ) → is_grapheme_break true (zs ++ before) (c ∷ xs) ≡ is_grapheme_break true (zs ++ near) (c ∷ ys)

same-joined : (before near : List ℕ) (x : ℕ) → SameAfter before near → SameAfter (x ∷ before) (x ∷ near)
same-joined before near x same zs c xs ys =
    ap (λ l. is_grapheme_break true l (c ∷ xs)) (sym (append_assoc zs (x ∷ []) before)) ∙ same (zs ++ x ∷ []) c xs ys
    ∙ ap (λ l. is_grapheme_break true l (c ∷ ys)) (append_assoc zs (x ∷ []) near)

-- behind a boundary nothing before it counts
same-parted : (before : List ℕ) (x : ℕ) (xs : List ℕ) → is_grapheme_break true before (x ∷ xs) ≡ true → SameAfter (x ∷ before) (x ∷ [])
same-parted [] x xs broken zs c us ys = reads_one_ahead (zs ++ x ∷ []) c us ys
same-parted (b ∷ bs) x xs broken zs c us ys = rule_forgets b bs x xs broken zs (c ∷ us) ∙ reads_one_ahead (zs ++ x ∷ []) c us ys

-- ---- the mark of a place

mark-at : (before t : List ℕ) (i : ℕ) → i < length t → get_or (marks_after before t) i 0 ≡ bit (is_grapheme_break true (reverse (take i t) ++ before) (drop i t))
unfolding marks_after
mark-at before [] i within = absurd (omega (arith, within))
mark-at before (c ∷ t) zero within = refl
mark-at before (c ∷ t) (suc i) within =
    mark-at (c ∷ before) t i (omega (arith, within))
    ∙ ap (λ l. bit (is_grapheme_break true l (drop i t))) (sym (append_assoc (reverse (take i t)) (c ∷ []) before) ∙ ap (λ l. l ++ before) (sym (reverse-append (c ∷ []) (take i t))))

bit-is : (b : Bool) → (bit b == 1) ≡ b
bit-is true = refl
bit-is false = refl

-- the text up to `at` has its last cluster from `start` on
pub record IsMarkedTo (t : List ℕ) (start at : ℕ) : Type 0 where
  pub low : start < at
  pub high : at ≤ length t
  pub last : next_all [] (take at t) ≡ slice_range t start at
  pub same : SameAfter (reverse (take at t)) (reverse (slice_range t start at))

pub marked-first : (t : List ℕ) → 0 < length t → IsMarkedTo t 0 1
marked-first [] some = absurd (omega (arith, some))
marked-first (c ∷ t) some =
    record { low = omega arith; high = omega arith; last = refl; same = λ zs d xs ys. reads_one_ahead (zs ++ c ∷ []) d xs ys }

pub closed-first : (t : List ℕ) → closed_all [] (take 1 t) ≡ []
closed-first [] = refl
closed-first (c ∷ t) = refl

some-slice : (t : List ℕ) (start at : ℕ) → IsMarkedTo t start at → is_some (slice_range t start at) ≡ true
some-slice t start at m =
    some-right [] (slice_range t start at) (omega (arith, slice_length t start at (omega (arith, m.low)) m.high, m.low))

-- a mark tells whether the last cluster ends there
pub mark-tells : (t marks : List ℕ) (start at : ℕ) → marks ≡ marks_of t → IsMarkedTo t start at → at < length t
    → (get_or marks at 0 == 1) ≡ ends_before (slice_range t start at) (get_or t at 0)
mark-tells t marks start at of_text m within =
    let x = get_or t at 0 in
    let rest = drop (at + 1) t in
    let near = reverse (slice_range t start at) in
    let here =
    ap (λ l. get_or l at 0) of_text ∙ mark-at [] t at within
    ∙ ap₂ (λ b l. bit (is_grapheme_break true b l)) (append-nil (reverse (take at t))) (drop_more t at 0 within)
    ∙ ap bit (m.same [] x rest []) in
    ap (λ n. n == 1) here ∙ bit-is (is_grapheme_break true near (x ∷ []))
    ∙ sym (ap (λ b. b && is_grapheme_break true near (x ∷ [])) (some-slice t start at m))

-- ---- one code point more

pub reverse-more : (t : List ℕ) (at : ℕ) → at < length t → reverse (take (at + 1) t) ≡ get_or t at 0 ∷ reverse (take at t)
reverse-more t at within = ap reverse (take_more t at 0 within) ∙ reverse-append (take at t) (get_or t at 0 ∷ [])

slice_one : (t : List ℕ) (at : ℕ) → at < length t → slice_range t at (at + 1) ≡ get_or t at 0 ∷ []
slice_one t at within = slice_more t at at (omega arith) within ∙ ap (λ l. l ++ get_or t at 0 ∷ []) (slice_none t at)

open-more : (t : List ℕ) (start at : ℕ) → IsMarkedTo t start at → at < length t → next_all [] (take (at + 1) t) ≡ next (slice_range t start at) (get_or t at 0)
open-more t start at m within = sym (next_all-more [] t at (get_or t at 0) 0 within refl) ∙ ap (λ k. next k (get_or t at 0)) m.last

marked-parted : (t : List ℕ) (start at : ℕ) → IsMarkedTo t start at → at < length t → ends_before (slice_range t start at) (get_or t at 0) ≡ true → IsMarkedTo t at (at + 1)
marked-parted t start at m within ends =
    let x = get_or t at 0 in
    let k = slice_range t start at in
    let broken : is_grapheme_break true (reverse (take at t)) (x ∷ []) ≡ true = m.same [] x [] [] ∙ (and_parts (is_some k) (is_grapheme_break true (reverse k) (x ∷ [])) ends).1 in
    record {
      low = omega arith;
      high = omega (arith, within);
      last = open-more t start at m within ∙ ap (λ l. l ++ x ∷ []) (left_open-ends k x ends) ∙ sym (slice_one t at within);
      same = subst (λ l. SameAfter (reverse (take (at + 1) t)) (reverse l)) (sym (slice_one t at within))
          (subst (λ l. SameAfter l (x ∷ [])) (sym (reverse-more t at within)) (same-parted (reverse (take at t)) x [] broken));
    }

marked-joined : (t : List ℕ) (start at : ℕ) → IsMarkedTo t start at → at < length t → ends_before (slice_range t start at) (get_or t at 0) ≡ false → IsMarkedTo t start (at + 1)
marked-joined t start at m within stays =
    let x = get_or t at 0 in
    let k = slice_range t start at in
    let more = slice_more t start at (omega (arith, m.low)) within in
    record {
      low = omega (arith, m.low);
      high = omega (arith, within);
      last = open-more t start at m within ∙ ap (λ l. l ++ x ∷ []) (left_open-stays k x stays) ∙ sym more;
      same = subst (λ l. SameAfter (reverse (take (at + 1) t)) l) (sym (ap reverse more ∙ reverse-append k (x ∷ [])))
          (subst (λ l. SameAfter l (x ∷ reverse k)) (sym (reverse-more t at within)) (same-joined (reverse (take at t)) (reverse k) x m.same));
    }

-- what was given out to a place, but for a row of clusters of one code point, and the last cluster there
pub record IsCutTo (t : List ℕ) (first out : Given) (row start at : ℕ) : Type 0 where
  pub low : row ≤ start
  pub marked : IsMarkedTo t start at
  pub given : with_clusters out (singles (slice_range t row start)) ≡ with_clusters first (closed_all [] (take at t))

pub cut-first : (t : List ℕ) (first : Given) → 0 < length t → IsCutTo t first first 0 0 1
cut-first t first some =
    record {
      low = omega arith;
      marked = marked-first t some;
      given = ap (λ l. with_clusters first (singles l)) (slice_none t 0) ∙ ap (with_clusters first) (sym (closed-first t));
    }

pub cut-more : (t : List ℕ) (first out last : Given) (row start at row_on start_on : ℕ) (parted : Bool) → IsCutTo t first out row start at → at < length t
    → parted ≡ ends_before (slice_range t start at) (get_or t at 0) → row_on ≤ start_on
    → (parted ≡ true → start_on ≡ at)
    → (parted ≡ true → with_clusters last (singles (slice_range t row_on at)) ≡ with_cluster (with_clusters out (singles (slice_range t row start))) (slice_range t start at))
    → (parted ≡ false → (row_on ≡ row) × (start_on ≡ start) × (last ≡ out)) → IsCutTo t first last row_on start_on (at + 1)
cut-more t first out last row start at row_on start_on true so_far within is low apart row_is together =
    let x = get_or t at 0 in
    let k = slice_range t start at in
    let here = apart refl in
    record {
      low = low;
      marked = subst (λ n. IsMarkedTo t n (at + 1)) (sym here) (marked-parted t start at so_far.marked within (sym is));
      given = ap (λ n. with_clusters last (singles (slice_range t row_on n))) here
          ∙ closed_all-more first (with_clusters out (singles (slice_range t row start))) _ [] t at x 0 within refl so_far.given
          (row_is refl ∙ ap (with_clusters (with_clusters out (singles (slice_range t row start)))) (sym (closed-ends k x (sym is)))
          ∙ ap (λ l. with_clusters (with_clusters out (singles (slice_range t row start))) (closed l x)) (sym so_far.marked.last));
    }
cut-more t first out last row start at row_on start_on false so_far within is low apart row_is together =
    let x = get_or t at 0 in
    let k = slice_range t start at in
    let same = together refl in
    record {
      low = low;
      marked = subst (λ n. IsMarkedTo t n (at + 1)) (sym same.1) (marked-joined t start at so_far.marked within (sym is));
      given = ap₂ (λ n m. with_clusters last (singles (slice_range t n m))) same.0 same.1 ∙ ap (λ o. with_clusters o (singles (slice_range t row start))) same.2
          ∙ closed_all-more first (with_clusters out (singles (slice_range t row start))) _ [] t at x 0 within refl so_far.given
          (ap (with_clusters (with_clusters out (singles (slice_range t row start)))) (sym (closed-stays k x (sym is)))
          ∙ ap (λ l. with_clusters (with_clusters out (singles (slice_range t row start))) (closed l x)) (sym so_far.marked.last));
    }

-- one more in a row
pub row-more : (t : List ℕ) (out : Given) (row start at : ℕ) → row ≤ start → start + 1 ≡ at → at ≤ length t
    → with_clusters out (singles (slice_range t row at)) ≡ with_cluster (with_clusters out (singles (slice_range t row start))) (slice_range t start at)
row-more t out row start at low one high =
    let inside : start < length t = omega (arith, one, high) in
    let c = get_or t start 0 in
    ap (λ n. with_clusters out (singles (slice_range t row n))) (sym one)
    ∙ ap (λ l. with_clusters out (singles l)) (slice_more t row start low inside)
    ∙ ap (with_clusters out) (singles-append (slice_range t row start) (c ∷ []))
    ∙ with_clusters-append out (singles (slice_range t row start)) ((c ∷ []) ∷ [])
    ∙ ap (with_cluster (with_clusters out (singles (slice_range t row start)))) (sym (slice_one t start inside) ∙ ap (slice_range t start) one)

pub row-none : (t : List ℕ) (out before : Given) (at : ℕ) (k : List ℕ) → out ≡ with_cluster before k → with_clusters out (singles (slice_range t at at)) ≡ with_cluster before k
row-none t out before at k is = ap (λ l. with_clusters out (singles l)) (slice_none t at) ∙ is

-- ---- all code points

pub cut-last : (t : List ℕ) (start at : ℕ) → IsMarkedTo t start at → length t ≤ at → next_all [] t ≡ drop start t
cut-last t start at m past =
    ap (next_all []) (sym (take_all at t past)) ∙ m.last ∙ take_all (at - start) (drop start t) (omega (arith, length-drop start t, past, m.low, m.high))

pub cut-given : (t : List ℕ) (first out : Given) (at : ℕ) → length t ≤ at → out ≡ with_clusters first (closed_all [] (take at t)) → out ≡ with_clusters first (closed_all [] t)
cut-given t first out at past given = given ∙ ap (λ l. with_clusters first (closed_all [] l)) (take_all at t past)
