-- The bytes of clusters, written in parts.
use Rattle.std.proofs.Common.{◌≡◌, ℕ, ◌+◌, ◌-◌, ◌<◌, ◌≤◌, Bool, true, false, cond, not, leb, ◌&&◌, List, [], ◌∷◌, ◌++◌, length, take, drop, slice_range, Option, Some, None, Result, Ok, Err, OnOk, IfErr, ℤ, refl, sym, ap, ◌∙◌, subst, append_assoc, append-nil, length-append, length-drop, leb-false, arith}
use Rattle.std.proofs.lemmas.Bool.{and_parts, and_from, lt-ltb, le-ltb}
use Rattle.std.proofs.lemmas.List.{take_at, take-append-drop, take-take, length-take-le}
use Rattle.std.proofs.lemmas.List.Concat.{flat_map-append}
use Rattle.std.proofs.lemmas.List.Folds.{list_all-append}
use Rattle.std.proofs.lemmas.Iterator.Adapters.{position_from-zero}
use Rattle.std.proofs.Math.Seq.{take-append_seam}
use Rattle.std.specs.List.{flat_map, list_all, position_from, concat}
use Rattle.std.specs.declared.alloc.AllocError.{AllocError}
use Rattle.nfg_text.specs.Text.{IsText, text_of}
use Rattle.nfg_decode.specs.declared.encoding.Encoding.{Encoding}
use Rattle.nfg_decode.specs.declared.encoding.Encoding.TheVariants.{Utf8, Utf16, Utf16Le, Utf16Be, Latin1}
use Rattle.nfg_decode.specs.Encoding.{encode, encode_code, has_code, text_start}
use Rattle.nfg_encode.specs.Refusal.{first_lacked}
use Rattle.nfg_syn.specs.Known.{Texts, IsKnowledge}
use Rattle.nfg_syn.specs.Represents.{Represents}
use Rattle.nfg_syn.specs.RepresentsLaws.{Represents-take, Represents-drop}
use Rattle.nfg_work.specs.declared.stop.Stop.{Stop}
use Rattle.nfg_work.specs.declared.stop.Stop.TheVariants.{Refused, RowFull, NoPortion, OutOfMemory}
use Rattle.nfg_work.specs.Evaluation.{first_lacking, is_lacking, output_limit}
use Rattle.nfg_strand.specs.Value.{Rope}
use Rattle.nfg_work.specs.Holding.{AreSpelled, Prints, Puts, Writes, IsRefusalOf, IsRefusedAt, without_mark}
use Rattle.nfg_work.proofs.Joined.{mapped-more, take-whole}
use Rattle.nfg_work.proofs.Lacking.{none-more, spelled_text}

-- ---- which clusters are encodable

none-all : {X : Type 0} (q : X → Bool) (i : ℕ) (xs : List X) → position_from (λ x. not (q x)) i xs ≡ None → list_all q xs ≡ true
none-all q i [] e = refl
none-all q i (x ∷ xs) e = by (q x) refl e (none-all q (i + 1) xs)
  where
    by : (b : Bool) → q x ≡ b → cond (not b) (Some i) (position_from (λ y. not (q y)) (i + 1) xs) ≡ None
        → (position_from (λ y. not (q y)) (i + 1) xs ≡ None → list_all q xs ≡ true) → list_all q (x ∷ xs) ≡ true
    by true is none rest = and_from (q x) (list_all q xs) is (rest none)
    by false is none rest = cc

all-none : {X : Type 0} (q : X → Bool) (i : ℕ) (xs : List X) → list_all q xs ≡ true → position_from (λ x. not (q x)) i xs ≡ None
all-none q i [] all = refl
all-none q i (x ∷ xs) all = let both = and_parts (q x) (list_all q xs) all in rw both.0 (all-none q (i + 1) xs both.1)

all-joined : (q : ℕ → Bool) (cs : List (List ℕ)) → list_all q (text_of cs) ≡ list_all (list_all q) cs
all-joined q [] = refl
all-joined q (c ∷ cs) = list_all-append q c (concat cs) ∙ ap (λ b. list_all q c && b) (all-joined q cs)

-- clusters of whose text no code point is lacking
pub lacked_none : (e : Encoding) (cs : List (List ℕ)) → first_lacked e (text_of cs) ≡ None → first_lacking e cs ≡ None
lacked_none e cs none =
    position_from-zero (is_lacking e) cs
    ∙ all-none (list_all (has_code e)) 0 cs
    (sym (all-joined (has_code e) cs) ∙ none-all (has_code e) 0 (text_of cs) (sym (position_from-zero (λ c. not (has_code e c)) (text_of cs)) ∙ none))

all_encodable : (e : Encoding) (cs : List (List ℕ)) → first_lacking e cs ≡ None → list_all (list_all (has_code e)) cs ≡ true
all_encodable e cs none = none-all (list_all (has_code e)) 0 cs (sym (position_from-zero (is_lacking e) cs) ∙ none)

all_pass : (q : ℕ → Bool) (c : List ℕ) → ((x : ℕ) → q x ≡ true) → list_all q c ≡ true
all_pass q [] passes = refl
all_pass q (x ∷ c) passes = and_from (q x) (list_all q c) (passes x) (all_pass q c passes)

none_lacking : (e : Encoding) (cs : List (List ℕ)) → ((c : ℕ) → has_code e c ≡ true) → first_lacking e cs ≡ None
none_lacking e cs passes =
    position_from-zero (is_lacking e) cs ∙ all-none (list_all (has_code e)) 0 cs (sym (all-joined (has_code e) cs) ∙ all_pass (has_code e) (text_of cs) passes)

-- only Latin-1 lacks any
pub only_latin1 : (e : Encoding) (cs : List (List ℕ)) → (e ≡ Latin1 → ⊥) → first_lacking e cs ≡ None
only_latin1 Utf8 cs other = none_lacking Utf8 cs (λ c. refl)
only_latin1 Utf16 cs other = none_lacking Utf16 cs (λ c. refl)
only_latin1 Utf16Le cs other = none_lacking Utf16Le cs (λ c. refl)
only_latin1 Utf16Be cs other = none_lacking Utf16Be cs (λ c. refl)
only_latin1 Latin1 cs other = absurd (other refl)

all_part : (q : List ℕ → Bool) (cs : List (List ℕ)) (at n : ℕ) → list_all q cs ≡ true → list_all q (take n (drop at cs)) ≡ true
all_part q cs at n all =
    let front = sym (list_all-append q (take at cs) (drop at cs)) ∙ ap (list_all q) (take-append-drop at cs) ∙ all in
    let rest = (and_parts (list_all q (take at cs)) (list_all q (drop at cs)) front).1 in
    let both = sym (list_all-append q (take n (drop at cs)) (drop n (drop at cs))) ∙ ap (list_all q) (take-append-drop n (drop at cs)) ∙ rest in
    (and_parts (list_all q (take n (drop at cs))) (list_all q (drop n (drop at cs))) both).0

-- the text of a part of encodable clusters
part_lacks_none : (e : Encoding) (cs : List (List ℕ)) (at n : ℕ) → first_lacking e cs ≡ None → first_lacked e (text_of (take n (drop at cs))) ≡ None
part_lacks_none e cs at n none =
    let part = take n (drop at cs) in
    position_from-zero (λ c. not (has_code e c)) (text_of part)
    ∙ all-none (has_code e) 0 (text_of part) (all-joined (has_code e) part ∙ all_part (list_all (has_code e)) cs at n (all_encodable e cs none))

-- ---- the bytes of clusters

abbrev bytes_of : Encoding → List (List ℕ) → List ℕ
bytes_of e cs = flat_map (flat_map (encode_code e)) cs

bytes_are : (g : ℕ → List ℕ) (cs : List (List ℕ)) → flat_map g (text_of cs) ≡ flat_map (flat_map g) cs
bytes_are g [] = refl
bytes_are g (c ∷ cs) = flat_map-append g c (concat cs) ∙ ap (λ v. flat_map g c ++ v) (bytes_are g cs)

unmarked_lacks : (e : Encoding) (text : List ℕ) → first_lacked (without_mark e) text ≡ first_lacked e text
unmarked_lacks Utf8 text = refl
unmarked_lacks Utf16 text = refl
unmarked_lacks Utf16Le text = refl
unmarked_lacks Utf16Be text = refl
unmarked_lacks Latin1 text = refl

unmarked_bytes : (e : Encoding) (text : List ℕ) → encode (without_mark e) text ≡ flat_map (encode_code e) text
unfolding encode
unmarked_bytes Utf8 text = refl
unmarked_bytes Utf16 text = refl
unmarked_bytes Utf16Le text = refl
unmarked_bytes Utf16Be text = refl
unmarked_bytes Latin1 text = refl

pub start_is : (e : Encoding) (old new : List ℕ) → new ≡ old ++ encode e [] → new ≡ old ++ text_start e
unfolding encode
start_is e old new is = is ∙ ap (λ v. old ++ v) (append-nil (text_start e))

whole_is : (e : Encoding) (old : List ℕ) (cs : List (List ℕ)) → (old ++ text_start e) ++ bytes_of e cs ≡ old ++ encode e (text_of cs)
unfolding encode
whole_is e old cs = append_assoc old (text_start e) (bytes_of e cs) ∙ ap (λ v. old ++ (text_start e ++ v)) (sym (bytes_are (encode_code e) cs))

range_is : (cs : List (List ℕ)) (at n : ℕ) → slice_range cs at (at + n) ≡ take n (drop at cs)
range_is cs at n = let exact : at + n - at ≡ n = omega arith in ap (λ k. take k (drop at cs)) exact

-- ---- a text that was encoded

none-of : (o : Option ℕ) → ((k : ℕ) → o ≡ Some k → ⊥) → o ≡ None
none-of None never = refl
none-of (Some k) never = absurd (never k refl)

pub wrote : (e : Encoding) (text old new : List ℕ) (n : ℕ) → n ≡ length new → ((k : ℕ) → first_lacked e text ≡ Some k → ⊥) → new ≡ old ++ encode e text
    → Writes e text old new (Ok (leb n output_limit))
wrote e text old new n n_is never is = by (leb n output_limit) refl
  where
    by : (b : Bool) → leb n output_limit ≡ b → Writes e text old new (Ok b)
    by true fits = (none-of (first_lacked e text) never, is)
    by false over =
        let much = leb-false n output_limit over in
        let long : n ≡ length (old ++ encode e text) = n_is ∙ ap length is in
        (ap (take (length old)) is ∙ take-append_seam old (encode e text), λ none. omega (arith, much, long))

pub wrote_none : (e : Encoding) (text old new : List ℕ) (k : ℕ) → first_lacked e text ≡ Some k → new ≡ old → Writes e text old new (Ok false)
wrote_none e text old new k some same = (ap (take (length old)) same ∙ take-whole old (length old) (omega arith), λ none. cc)

pub ok_error : {T E : Type 0} (x : T) (y : E) → Ok x ≡ Err y → ⊥
ok_error x y e = cc

-- one part more is written
pub record IsWritten (e : Encoding) (clusters : List (List ℕ)) (end : ℕ) (start new : List ℕ) : Type 0 where
  pub had : first_lacking e (take end clusters) ≡ None
  pub bytes : new ≡ start ++ bytes_of e (take end clusters)

pub written-more : (e : Encoding) (clusters : List (List ℕ)) (at n : ℕ) (start old new : List ℕ) (b : Bool) → b ≡ true → at ≤ length clusters
    → first_lacking e (take at clusters) ≡ None → old ≡ start ++ bytes_of e (take at clusters)
    → Writes (without_mark e) (text_of (slice_range clusters at (at + n))) old new (Ok b) → IsWritten e clusters (at + n) start new
written-more e clusters at n start old new false fails inside before old_is w = cc
written-more e clusters at n start old new true holds inside before old_is w =
    let part = take n (drop at clusters) in
    let none : first_lacked e (text_of part) ≡ None =
    sym (unmarked_lacks e (text_of part)) ∙ ap (λ v. first_lacked (without_mark e) (text_of v)) (sym (range_is clusters at n)) ∙ w.0 in
    let added : new ≡ old ++ bytes_of e part =
    w.1 ∙ ap (λ v. old ++ encode (without_mark e) (text_of v)) (range_is clusters at n)
    ∙ ap (λ v. old ++ v) (unmarked_bytes e (text_of part) ∙ bytes_are (encode_code e) part) in
    record {
      had = none-more e clusters at n before inside (lacked_none e part none);
      bytes = mapped-more (flat_map (encode_code e)) clusters at n start old new old_is added;
    }

front_length : (f : List ℕ → List ℕ) (cs : List (List ℕ)) (k : ℕ) → length (flat_map f (take k cs)) ≤ length (flat_map f cs)
front_length f cs k =
    let long = ap (λ v. length (flat_map f v)) (sym (take-append-drop k cs)) ∙ ap length (flat_map-append f (take k cs) (drop k cs))
    ∙ length-append (flat_map f (take k cs)) (flat_map f (drop k cs)) in
    omega (arith, long)

-- a part that is not written, where no code point is lacking, is past the limit
written-over : (e : Encoding) (clusters : List (List ℕ)) (at n : ℕ) (old out : List ℕ) → out ≡ (old ++ text_start e) ++ bytes_of e (take at clusters)
    → first_lacking e clusters ≡ None
    → (first_lacked (without_mark e) (text_of (slice_range clusters at (at + n))) ≡ None
    → output_limit < length (out ++ encode (without_mark e) (text_of (slice_range clusters at (at + n)))))
    → output_limit < length (old ++ encode e (text_of clusters))
written-over e clusters at n old out out_is none over =
    let part = take n (drop at clusters) in
    let start = old ++ text_start e in
    let lacks : first_lacked (without_mark e) (text_of (slice_range clusters at (at + n))) ≡ None =
    ap (λ v. first_lacked (without_mark e) (text_of v)) (range_is clusters at n) ∙ unmarked_lacks e (text_of part) ∙ part_lacks_none e clusters at n none in
    let much = over lacks in
    let added : out ++ encode (without_mark e) (text_of (slice_range clusters at (at + n))) ≡ out ++ bytes_of e part =
    ap (λ v. out ++ encode (without_mark e) (text_of v)) (range_is clusters at n)
    ∙ ap (λ v. out ++ v) (unmarked_bytes e (text_of part) ∙ bytes_are (encode_code e) part) in
    let front = ap length (added ∙ mapped-more (flat_map (encode_code e)) clusters at n start out (out ++ bytes_of e part) out_is refl)
    ∙ length-append start (bytes_of e (take (at + n) clusters)) in
    let whole = ap length (sym (whole_is e old clusters)) ∙ length-append start (bytes_of e clusters) in
    let fewer = front_length (flat_map (encode_code e)) clusters (at + n) in
    omega (arith, much, front, whole, fewer)

-- the output is cut back, and the string refused
pub written-refused : (e : Encoding) (clusters : List (List ℕ)) (at n had : ℕ) (old out new cut : List ℕ) (b : Bool) (stop : Stop) → b ≡ false → had ≡ length old
    → out ≡ (old ++ text_start e) ++ bytes_of e (take at clusters)
    → Writes (without_mark e) (text_of (slice_range clusters at (at + n))) out new (Ok b) → cut ≡ take had new
    → IsRefusalOf (first_lacking e clusters) stop → Puts (first_lacking e clusters) old cut (Err stop) (encode e (text_of clusters))
written-refused e clusters at n had old out new cut true stop fails had_is out_is w cut_is refusal = cc
written-refused e clusters at n had old out new cut false stop is had_is out_is w cut_is refusal = by (first_lacking e clusters) refl refusal
  where
    parts : out ≡ old ++ (text_start e ++ bytes_of e (take at clusters))
    parts = out_is ∙ append_assoc old (text_start e) (bytes_of e (take at clusters))

    same : cut ≡ old
    same =
        let long = ap length parts ∙ length-append old (text_start e ++ bytes_of e (take at clusters)) in
        cut_is ∙ ap (λ k. take k new) had_is ∙ sym (take-take (length old) (length out) new (omega (arith, long))) ∙ ap (take (length old)) (w.0 ∙ parts)
        ∙ take-append_seam old (text_start e ++ bytes_of e (take at clusters))

    by : (f : Option ℕ) → first_lacking e clusters ≡ f → IsRefusalOf f stop → Puts f old cut (Err stop) (encode e (text_of clusters))
    by (Some k) found stop_is = rw stop_is (refl, same)
    by None none stop_is = rw stop_is (refl, lt-ltb output_limit _ (written-over e clusters at n old out out_is none w.1), same)

-- all is written, and the limit is looked at
pub written-all : (e : Encoding) (clusters : List (List ℕ)) (at had : ℕ) (old out new : List ℕ) (result : Result (Unit {0}) Stop) → length clusters ≤ at → had ≡ length old
    → first_lacking e (take at clusters) ≡ None → out ≡ (old ++ text_start e) ++ bytes_of e (take at clusters)
    → OnOk result ((length out ≤ output_limit) × (new ≡ out)) → IfErr result (λ stop. IsRefusedAt had out new stop)
    → Puts (first_lacking e clusters) old new result (encode e (text_of clusters))
written-all e clusters at had old out new result all had_is before out_is ok refused =
    let Q : Option ℕ → Type 0 = λ f. Puts f old new result (encode e (text_of clusters)) in
    let none : first_lacking e clusters ≡ None = ap (first_lacking e) (sym (take-whole clusters at all)) ∙ before in
    let whole : out ≡ old ++ encode e (text_of clusters) = out_is ∙ ap (λ v. (old ++ text_start e) ++ bytes_of e v) (take-whole clusters at all) ∙ whole_is e old clusters in
    subst Q (sym none) (by result whole ok refused)
  where
    by : (r : Result (Unit {0}) Stop) → out ≡ old ++ encode e (text_of clusters) → OnOk r ((length out ≤ output_limit) × (new ≡ out))
        → IfErr r (λ stop. IsRefusedAt had out new stop) → Prints old new r (encode e (text_of clusters))
    by (Ok done) whole fine none_refused = (let long = ap length whole in le-ltb output_limit _ (omega (arith, long, fine.0)), fine.1 ∙ whole)
    by (Err (Refused cause)) whole fine is =
        let cause_is = is.cause in
        let over = is.over in
        let long = ap length whole in (
          cc,
          lt-ltb output_limit _ (omega (arith, over, long)),
          is.front ∙ (λ i. take (had_is i) (whole i)) ∙ take-append_seam old (encode e (text_of clusters)),
        )
    by (Err RowFull) whole fine is = let cause_is = is.cause in cc
    by (Err NoPortion) whole fine is = let cause_is = is.cause in cc
    by (Err OutOfMemory) whole fine is = tt

-- ---- what is copied of a string

-- what is copied into the front of the numbers stands for that part of the clusters
pub range_represents : (known now : Texts) (gs numbers copied : List ℤ) (clusters : List (List ℕ)) (at count : ℕ) → now ≡ known → count ≤ length numbers
    → at + count ≤ length gs → copied ≡ slice_range gs at (at + length (take count numbers)) → Represents known gs clusters
    → Represents now (take count (copied ++ drop count numbers)) (take count (drop at clusters))
range_represents known now gs numbers copied clusters at count same room inside copied_is are =
    let exact : at + count - at ≡ count = omega arith in
    let range : copied ≡ take count (drop at gs) =
    copied_is ∙ ap (λ n. slice_range gs at (at + n)) (length-take-le count numbers room) ∙ ap (λ k. take k (drop at gs)) exact in
    let behind = length-drop at gs in
    let long : length copied ≡ count = ap length range ∙ length-take-le count (drop at gs) (omega (arith, behind, inside)) in
    let part : take count (copied ++ drop count numbers) ≡ take count (drop at gs) = take_at copied (drop count numbers) count long ∙ range in
    rw (same, part) (Represents-take known count (drop at gs) (drop at clusters) (Represents-drop known at gs clusters are))

-- the text of a part is one
pub part_text : (size : ℕ) (known places : Texts) (gs : List ℤ) (clusters : List (List ℕ)) (start end : ℕ) → IsKnowledge size known places → Represents known gs clusters
    → IsText (text_of (slice_range clusters start end))
part_text size known places gs clusters start end knows are =
    spelled_text size known places (slice_range gs start end) (slice_range clusters start end) knows
    (Represents-take known (end - start) (drop start gs) (drop start clusters) (Represents-drop known start gs clusters are))

pub represents_kept : (known now : Texts) (gs : List ℤ) (clusters : List (List ℕ)) → now ≡ known → Represents known gs clusters
    → Represents now gs clusters
represents_kept known now gs clusters same are = let Q : Texts → Type 0 = λ v. Represents v gs clusters in subst Q (sym same) are

-- a string whose numbers are known stays one while what is known stays
pub known_kept : (known now : Texts) (string : Rope) → now ≡ known → AreSpelled known string → AreSpelled now string
known_kept known now string same are = (are.0, represents_kept known now string.graphemes are.0 same are.1)

-- what is written of a part, by what was known
pub written_here : (e part : Encoding) (known now : Texts) (gs : List ℤ) (clusters : List (List ℕ)) (start end : ℕ) (old new : List ℕ) (result : Result Bool AllocError)
    → part ≡ without_mark e → now ≡ known
    → ((cs : List (List ℕ)) → Represents now gs cs → Writes part (text_of (slice_range cs start end)) old new result)
    → Represents known gs clusters → Writes (without_mark e) (text_of (slice_range clusters start end)) old new result
written_here e part known now gs clusters start end old new result part_is same written are =
    let P : Encoding → Type 0 = λ v. Writes v (text_of (slice_range clusters start end)) old new result in
    let Q : Texts → Type 0 = λ v. Represents v gs clusters in
    subst P part_is (written clusters (subst Q (sym same) are))
