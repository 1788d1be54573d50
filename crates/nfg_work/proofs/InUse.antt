-- The clusters in use have numbers, while strings are made.
use Rattle.std.proofs.Common.{◌≡◌, ◌≢◌, ℕ, zero, suc, ◌<◌, ◌≤◌, Bool, true, false, ◌||◌, ◌⊎◌, inl, inr, nat_lt, List, [], ◌∷◌, ◌++◌, length, filter, bytes_eq, Option, Some, None, ℤ, pos, negsuc, refl, sym, ap, ◌∙◌, arith}
use Rattle.std.proofs.lemmas.Bool.{lt-ltb, le-ltb, ltb-true, false_from_ne_true, and_parts, and_from}
use Rattle.std.proofs.lemmas.List.Folds.{list_any-append}
use Rattle.std.proofs.lemmas.Slice.Eq.{bytes_eq-Decides}
use Rattle.std.specs.Set.{is_member, distinct_count}
use mathlib.Core.Logic.{dite}
use native.Mathlib.Decide.{ℕ_discrete}
use Rattle.nfg_syn.specs.Known.{Texts, IsKnowledge, IsWithin, MapsBesides, crlf}
use Rattle.nfg_syn.specs.KnownLaws.{same_text}
use Rattle.nfg_syn.specs.Represents.{Represents, spelling}
use Rattle.nfg_syn.specs.RepresentsLaws.{spelling-one}
use Rattle.nfg_syn.specs.Learned.{HasLearned, several, is_several}
use Rattle.nfg_work.specs.Evaluation.{takes_place}
use Rattle.nfg_work.specs.Holding.{AreNumbered, Grows}
use Rattle.nfg_work.proofs.Members.{bytes_eq-true, or-left, or-right, is_member-at, is_member-front, is_member-back, is_member-kept, distinct_count-within}
use Rattle.nfg_work.proofs.Narrow.{other_than_crlf}

-- a text of the table takes a place
pub takes_place-other : (t : List ℕ) → 2 ≤ length t → t ≢ crlf → takes_place t ≡ true
takes_place-other t several other =
    let long : nat_lt 1 (length t) ≡ true = lt-ltb 1 (length t) several in
    let apart : bytes_eq t crlf ≡ false = false_from_ne_true (bytes_eq t crlf) (λ holds. other ((bytes_eq-Decides t crlf).0 holds)) in
    rw (long, apart) refl

-- a text with another number than -1 takes one
takes_place-known : (size : ℕ) (known places : Texts) → IsKnowledge size known places → (k : ℕ) (t : List ℕ) → known (suc k) ≡ Some t → takes_place t ≡ true
takes_place-known size known places knows k t e = takes_place-other t (knows.numbers (suc k) t e).1.several (other_than_crlf size known places knows k t e)

takes_place-several : (t : List ℕ) → takes_place t ≡ true → 1 < length t
takes_place-several t holds = ltb-true 1 (length t) (and_parts (nat_lt 1 (length t)) _ holds).0

learned_head : (old next : Texts) (n : ℤ) (x : List ℕ) (texts : List (List ℕ)) (k : ℕ) (t : List ℕ) → MapsBesides old n x next → next k ≡ Some t
    → (old k ≡ Some t) ⊎ (is_member bytes_eq (x ∷ texts) t ≡ true)
learned_head old next (pos c) x texts k t never e = absurd never
learned_head old next (negsuc m) x texts k t besides e = dite (ℕ_discrete k m)
    (λ same. inr (is_member-at (x ∷ texts) t 0 (sym besides.0 ∙ ap next (sym same) ∙ e)))
    (λ differ. inl (sym (besides.1 k differ) ∙ e))

learned_tail : (old : Texts) (x : List ℕ) (texts : List (List ℕ)) (k : ℕ) (t : List ℕ) (next : Texts) (n : ℤ) → MapsBesides old n x next
    → (next k ≡ Some t) ⊎ (is_member bytes_eq texts t ≡ true) → (old k ≡ Some t) ⊎ (is_member bytes_eq (x ∷ texts) t ≡ true)
learned_tail old x texts k t next n besides (inl here) = learned_head old next n x texts k t besides here
learned_tail old x texts k t next n besides (inr there) = inr (or-right (bytes_eq t x) (is_member bytes_eq texts t) there)

-- what is known now was known before, or has been learned
pub learned_back : (texts : List (List ℕ)) (old new : Texts) → HasLearned old texts new → (k : ℕ) (t : List ℕ) → new k ≡ Some t
    → (old k ≡ Some t) ⊎ (is_member bytes_eq texts t ≡ true)
learned_back [] old new same k t e = inl (sym (same k) ∙ e)
learned_back (x ∷ texts) old new learned k t e =
    learned_tail old x texts k t learned.1 learned.0 learned.2 (learned_back texts learned.1 new learned.4 k t e)

-- a cluster that needs a number and takes a place
pub kept_place : (clusters : List (List ℕ)) (t : List ℕ) → is_member bytes_eq (several clusters) t ≡ true → takes_place t ≡ true
    → is_member bytes_eq (filter takes_place clusters) t ≡ true
kept_place clusters t holds place =
    let among = (and_parts (is_member bytes_eq clusters t) (is_several t) (sym (is_member-kept is_several clusters t) ∙ holds)).0 in
    is_member-kept takes_place clusters t ∙ and_from (is_member bytes_eq clusters t) (takes_place t) among place

-- the clusters of a value that was learned are in use besides
pub Grows-learned : (size : ℕ) (old new places : Texts) (used clusters : List (List ℕ)) → IsKnowledge size new places → HasLearned old (several clusters) new
    → Grows old new used (used ++ filter takes_place clusters)
Grows-learned size old new places used clusters knows learned = record {
  used = λ t holds. is_member-front used (filter takes_place clusters) t holds;
  known = λ k t e. by k t e (learned_back (several clusters) old new learned (suc k) t e);
}
  where
    by : (k : ℕ) (t : List ℕ) → new (suc k) ≡ Some t → (old (suc k) ≡ Some t) ⊎ (is_member bytes_eq (several clusters) t ≡ true)
        → (old (suc k) ≡ Some t) ⊎ (is_member bytes_eq (used ++ filter takes_place clusters) t ≡ true)
    by k t e (inl before) = inl before
    by k t e (inr among) = inr (is_member-back used (filter takes_place clusters) t (kept_place clusters t among (takes_place-known size new places knows k t e)))

spelled_number : (known : Texts) (n : ℤ) (t : List ℕ) → known 0 ≡ Some crlf → spelling known n ≡ Some t → takes_place t ≡ true → (k : ℕ) × (known (suc k) ≡ Some t)
spelled_number known (pos c) t first e place =
    let one = ap length (spelling-one known c t e).1 in let more = takes_place-several t place in absurd (omega arith)
spelled_number known (negsuc zero) t first e place =
    let line_end : t ≡ crlf = same_text t crlf (sym e ∙ first) in let none : takes_place crlf ≡ true = rw line_end at place in cc
spelled_number known (negsuc (suc k)) t first e place = (k, e)

-- clusters that numbers stand for, and that take a place, have numbers
spelled_numbers : (known : Texts) (numbers : List ℤ) (clusters : List (List ℕ)) → known 0 ≡ Some crlf → Represents known numbers clusters
    → (t : List ℕ) → is_member bytes_eq clusters t ≡ true → takes_place t ≡ true → (k : ℕ) × (known (suc k) ≡ Some t)
spelled_numbers known [] [] first are t holds place = cc
spelled_numbers known [] (c ∷ clusters) first are t holds place = absurd are
spelled_numbers known (n ∷ numbers) [] first are t holds place = absurd are
spelled_numbers known (n ∷ numbers) (c ∷ clusters) first are t holds place =
    by (bytes_eq t c) refl (λ more. spelled_numbers known numbers clusters first are.1 t more place) holds
  where
    by : (same : Bool) → bytes_eq t c ≡ same → (is_member bytes_eq clusters t ≡ true → (k : ℕ) × (known (suc k) ≡ Some t))
        → (same || is_member bytes_eq clusters t) ≡ true → (k : ℕ) × (known (suc k) ≡ Some t)
    by true s further more = spelled_number known n t first (are.0 ∙ ap Some (sym ((bytes_eq-Decides t c).0 s))) place
    by false s further more = further more

-- more knowledge takes no number away
pub AreNumbered-grows : (old new : Texts) (used : List (List ℕ)) → IsWithin old new → AreNumbered old used → AreNumbered new used
AreNumbered-grows old new used within are t holds = let number = are t holds in (number.0, within (suc number.0) t number.1)

-- once a string is made, the clusters in use with its clusters have numbers
pub AreNumbered-made : (old new : Texts) (used clusters : List (List ℕ)) (numbers : List ℤ) → new 0 ≡ Some crlf → IsWithin old new
    → AreNumbered old used → Represents new numbers clusters → AreNumbered new (used ++ filter takes_place clusters)
AreNumbered-made old new used clusters numbers first within in_use are t holds =
    by (is_member bytes_eq used t) refl (sym (list_any-append (bytes_eq t) used (filter takes_place clusters)) ∙ holds)
  where
    by : (before : Bool) → is_member bytes_eq used t ≡ before → (before || is_member bytes_eq (filter takes_place clusters) t) ≡ true → (k : ℕ) × (new (suc k) ≡ Some t)
    by true e more = AreNumbered-grows old new used within in_use t e
    by false e more =
        let both = and_parts (is_member bytes_eq clusters t) (takes_place t) (sym (is_member-kept takes_place clusters t) ∙ more) in
        spelled_numbers new numbers clusters first are t both.0 both.1

-- the text of a place, where it holds one, before others
abbrev text_before : Option (List ℕ) → List (List ℕ) → List (List ℕ)
text_before None texts = texts
text_before (Some t) texts = t ∷ texts

-- the texts at the first places
abbrev texts_before : Texts → ℕ → List (List ℕ)
texts_before places zero = []
texts_before places (suc n) = text_before (places n) (texts_before places n)

text_before-length : (o : Option (List ℕ)) (texts : List (List ℕ)) → length (text_before o texts) ≤ suc (length texts)
text_before-length None texts = omega arith
text_before-length (Some t) texts = omega arith

texts_before-length : (places : Texts) (n : ℕ) → length (texts_before places n) ≤ n
texts_before-length places zero = omega arith
texts_before-length places (suc n) =
    let few = texts_before-length places n in let one = text_before-length (places n) (texts_before places n) in omega (arith, few, one)

text_before-here : (o : Option (List ℕ)) (texts : List (List ℕ)) (t : List ℕ) → o ≡ Some t → is_member bytes_eq (text_before o texts) t ≡ true
text_before-here None texts t e = cc
text_before-here (Some u) texts t e = or-left (bytes_eq t u) (is_member bytes_eq texts t) (bytes_eq-true t u (sym (same_text u t e)))

text_before-there : (o : Option (List ℕ)) (texts : List (List ℕ)) (t : List ℕ) → is_member bytes_eq texts t ≡ true → is_member bytes_eq (text_before o texts) t ≡ true
text_before-there None texts t e = e
text_before-there (Some u) texts t e = or-right (bytes_eq t u) (is_member bytes_eq texts t) e

texts_before-at : (places : Texts) (n k : ℕ) (t : List ℕ) → k < n → places k ≡ Some t → is_member bytes_eq (texts_before places n) t ≡ true
texts_before-at places zero k t within e = absurd (omega (arith, within))
texts_before-at places (suc n) k t within e = dite (ℕ_discrete k n)
    (λ same. text_before-here (places n) (texts_before places n) t (ap places (sym same) ∙ e))
    (λ differ. text_before-there (places n) (texts_before places n) t (texts_before-at places n k t (omega (arith, within, differ)) e))

-- clusters that have numbers are no more than the places
pub numbered_fit : (size : ℕ) (known places : Texts) (used : List (List ℕ)) → IsKnowledge size known places → AreNumbered known used
    → nat_lt size (distinct_count bytes_eq used) ≡ false
numbered_fit size known places used knows are =
    let few = distinct_count-within used (texts_before places size) (λ t holds.
    let number = are t holds in
    let at = knows.tied number.0 t number.1 in
    texts_before-at places size number.0 t (knows.rows number.0 t at).0 at) in
    le-ltb size (distinct_count bytes_eq used) (omega (arith, few, texts_before-length places size))
