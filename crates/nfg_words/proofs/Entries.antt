-- What lists of pairs say of an index.
use Rattle.std.proofs.Common.{◌≡◌, ◌≢◌, ℕ, ◌<◌, ◌≤◌, ◌==◌, nat_lt, Bool, true, false, List, [], ◌∷◌, ◌++◌, Option, Some, None, ◌⊎◌, inl, inr, ⊎_elim, if◌then◌else◌, refl, sym, ap, ◌∙◌, subst, arith}
use Rattle.std.proofs.Math.Decide.{dec_lt}
use Rattle.std.proofs.lemmas.Bool.Decides.{eqb_tells, nat_tests}
use mathlib.Core.Logic.{dite}
use Rattle.nfg_words.specs.Reading.{IsKnownBy, text_named-more}
use Rattle.nfg_words.specs.View.{entry, Says, IsIn, IsAmong, places_of}
use Rattle.nfg_words.specs.Rule.{IsJustified}
use Rattle.nfg_words.specs.Steps.{below, from, without}
use Rattle.nfg_words.specs.declared.view.View.{View}
use Rattle.nfg_words.specs.SoundLaws.{none_is_not_some, same_word}

pub entry-cons : (index word : ℕ) (pairs : List (ℕ × ℕ)) (k : ℕ)
    → ((index ≡ k) × (entry ((index, word) ∷ pairs) k ≡ Some word)) ⊎ ((index ≢ k) × (entry ((index, word) ∷ pairs) k ≡ entry pairs k))
entry-cons index word pairs k = ⊎_elim
    (λ here. inl (here.1, ap (λ b. if b then Some word else entry pairs k) here.0))
    (λ past. inr (past.1, ap (λ b. if b then Some word else entry pairs k) past.0))
    (eqb_tells index k)

-- what a longer list says is the new pair, or was said before
pub says-cons : (index word : ℕ) (pairs : List (ℕ × ℕ)) (k found : ℕ) → Says ((index, word) ∷ pairs) k found
    → ((index ≡ k) × (word ≡ found)) ⊎ Says pairs k found
says-cons index word pairs k found says = ⊎_elim
    (λ here. inl (here.0, same_word word found (sym here.1 ∙ says)))
    (λ past. inr (sym past.1 ∙ says))
    (entry-cons index word pairs k)

-- a pair that agrees with what was said changes nothing of it
pub cons_keeps : (index word : ℕ) (pairs : List (ℕ × ℕ)) → ((found : ℕ) → Says pairs index found → found ≡ word)
    → IsKnownBy (entry pairs) (entry ((index, word) ∷ pairs))
cons_keeps index word pairs agrees k found says = ⊎_elim
    (λ here. here.1 ∙ ap Some (sym (agrees found (subst (λ (i : ℕ). Says pairs i found) (sym here.0) says))))
    (λ past. past.1 ∙ says)
    (entry-cons index word pairs k)

pub says-first : (index word : ℕ) (pairs : List (ℕ × ℕ)) → Says ((index, word) ∷ pairs) index word
says-first index word pairs = ⊎_elim (λ here. here.1) (λ past. absurd (past.0 refl)) (entry-cons index word pairs index)

pub entry-append : (pairs others : List (ℕ × ℕ)) (k : ℕ)
    → ((word : ℕ) × (entry pairs k ≡ Some word) × (entry (pairs ++ others) k ≡ Some word))
    ⊎ ((entry pairs k ≡ None) × (entry (pairs ++ others) k ≡ entry others k))
entry-append [] others k = inr (refl, refl)
entry-append (pair ∷ pairs) others k = ⊎_elim
    (λ here. inl (pair.1, ap (λ b. if b then Some pair.1 else entry pairs k) here.0, ap (λ b. if b then Some pair.1 else entry (pairs ++ others) k) here.0))
    (λ past. let mine : entry (pair ∷ pairs) k ≡ entry pairs k = ap (λ b. if b then Some pair.1 else entry pairs k) past.0 in
    let both : entry (pair ∷ (pairs ++ others)) k ≡ entry (pairs ++ others) k = ap (λ b. if b then Some pair.1 else entry (pairs ++ others) k) past.0 in
    ⊎_elim
    (λ found. inl (found.0, mine ∙ found.1, both ∙ found.2))
    (λ unknown. inr (mine ∙ unknown.0, both ∙ unknown.1))
    (entry-append pairs others k))
    (eqb_tells pair.0 k)

pub says-append : (pairs others : List (ℕ × ℕ)) (k found : ℕ) → Says (pairs ++ others) k found → Says pairs k found ⊎ Says others k found
says-append pairs others k found says = ⊎_elim
    (λ left. inl (left.1 ∙ (sym left.2 ∙ says)))
    (λ right. inr (sym right.1 ∙ says))
    (entry-append pairs others k)

pub append_keeps_left : (pairs others : List (ℕ × ℕ)) → IsKnownBy (entry pairs) (entry (pairs ++ others))
append_keeps_left pairs others k found says = ⊎_elim
    (λ left. left.2 ∙ (sym left.1 ∙ says))
    (λ right. absurd (none_is_not_some found (sym right.0 ∙ says)))
    (entry-append pairs others k)

pub append_keeps_right : (pairs others : List (ℕ × ℕ)) → ((k one other : ℕ) → Says pairs k one → Says others k other → one ≡ other)
    → IsKnownBy (entry others) (entry (pairs ++ others))
append_keeps_right pairs others agree k found says = ⊎_elim
    (λ left. left.2 ∙ ap Some (agree k left.0 found left.1 says))
    (λ right. right.1 ∙ says)
    (entry-append pairs others k)

pub among-append : (numbers others : List ℕ) (k : ℕ) → IsAmong (numbers ++ others) k → IsAmong numbers k ⊎ IsAmong others k
among-append [] others k among = inr among
among-append (first ∷ rest) others k among = ⊎_elim
    (λ here. inl (inl here))
    (λ later. ⊎_elim (λ left. inl (inr left)) (λ right. inr right) (among-append rest others k later))
    among

lt_tells : (a b : ℕ) → ((nat_lt a b ≡ true) × (a < b)) ⊎ ((nat_lt a b ≡ false) × (b ≤ a))
lt_tells a b = dite (dec_lt a b)
    (λ less. inl (grind (arith, nat_tests), less))
    (λ more. inr (grind (arith, nat_tests), omega arith))

-- the pairs below a bound say the same of an index below it, and nothing of another
pub entry-below : (bound : ℕ) (pairs : List (ℕ × ℕ)) (k : ℕ)
    → ((k < bound) × (entry (below bound pairs) k ≡ entry pairs k)) ⊎ ((bound ≤ k) × (entry (below bound pairs) k ≡ None))
entry-below bound [] k = dite (dec_lt k bound) (λ less. inl (less, refl)) (λ more. inr (omega arith, refl))
entry-below bound (pair ∷ pairs) k =
    let rest = entry-below bound pairs k in
    let choose : Bool → List (ℕ × ℕ) = λ b. if b then pair ∷ below bound pairs else below bound pairs in
    let pick : Bool → Option ℕ → Option ℕ = λ b other. if b then Some pair.1 else other in
    ⊎_elim
    (λ stays. let now : entry (below bound (pair ∷ pairs)) k ≡ pick (pair.0 == k) (entry (below bound pairs) k) = ap (λ b. entry (choose b) k) stays.0 in ⊎_elim
    (λ here. inl (subst (λ m. m < bound) here.1 stays.1, now ∙ (ap (λ b. pick b (entry (below bound pairs) k)) here.0 ∙ sym (ap (λ b. pick b (entry pairs k)) here.0))))
    (λ past. let skips : pick (pair.0 == k) (entry pairs k) ≡ entry pairs k = ap (λ b. pick b (entry pairs k)) past.0 in
    let now_rest : entry (below bound (pair ∷ pairs)) k ≡ entry (below bound pairs) k = now ∙ ap (λ b. pick b (entry (below bound pairs) k)) past.0 in ⊎_elim
    (λ low. inl (low.0, now_rest ∙ (low.1 ∙ sym skips)))
    (λ high. inr (high.0, now_rest ∙ high.1))
    rest)
    (eqb_tells pair.0 k))
    (λ goes. let now : entry (below bound (pair ∷ pairs)) k ≡ entry (below bound pairs) k = ap (λ b. entry (choose b) k) goes.0 in ⊎_elim
    (λ low. let skips : pick (pair.0 == k) (entry pairs k) ≡ entry pairs k = ⊎_elim
    (λ here. let same : pair.0 ≡ k = here.1 in let high : bound ≤ pair.0 = goes.1 in let under = low.0 in absurd (omega arith))
    (λ past. ap (λ b. pick b (entry pairs k)) past.0)
    (eqb_tells pair.0 k) in
    inl (low.0, now ∙ (low.1 ∙ sym skips)))
    (λ high. inr (high.0, now ∙ high.1))
    rest)
    (lt_tells pair.0 bound)

pub in-append : (pairs others : List (ℕ × ℕ)) (k found : ℕ) → IsIn (pairs ++ others) k found → IsIn pairs k found ⊎ IsIn others k found
in-append [] others k found is = inr is
in-append (pair ∷ pairs) others k found is = ⊎_elim
    (λ here. inl (inl here))
    (λ later. ⊎_elim (λ left. inl (inr left)) (λ right. inr right) (in-append pairs others k found later))
    is

-- the pairs below a bound are pairs
pub in-below : (bound : ℕ) (pairs : List (ℕ × ℕ)) (k found : ℕ) → IsIn (below bound pairs) k found → (k < bound) × IsIn pairs k found
in-below bound [] k found is = absurd is
in-below bound (pair ∷ pairs) k found is =
    let choose : Bool → List (ℕ × ℕ) = λ b. if b then pair ∷ below bound pairs else below bound pairs in ⊎_elim
    (λ stays. ⊎_elim
    (λ (here : (pair.0 ≡ k) × (pair.1 ≡ found)). (subst (λ m. m < bound) here.0 stays.1, inl here))
    (λ (later : IsIn (below bound pairs) k found). let rest = in-below bound pairs k found later in (rest.0, inr rest.1))
    (subst (λ b. IsIn (choose b) k found) stays.0 is))
    (λ goes. let rest = in-below bound pairs k found (subst (λ b. IsIn (choose b) k found) goes.0 is) in (rest.0, inr rest.1))
    (lt_tells pair.0 bound)

-- and so are the others
pub in-from : (bound : ℕ) (pairs : List (ℕ × ℕ)) (k found : ℕ) → IsIn (from bound pairs) k found → (bound ≤ k) × IsIn pairs k found
in-from bound [] k found is = absurd is
in-from bound (pair ∷ pairs) k found is =
    let choose : Bool → List (ℕ × ℕ) = λ b. if b then from bound pairs else pair ∷ from bound pairs in ⊎_elim
    (λ goes. let rest = in-from bound pairs k found (subst (λ b. IsIn (choose b) k found) goes.0 is) in (rest.0, inr rest.1))
    (λ stays. ⊎_elim
    (λ (here : (pair.0 ≡ k) × (pair.1 ≡ found)). (subst (λ m. bound ≤ m) here.0 stays.1, inl here))
    (λ (later : IsIn (from bound pairs) k found). let rest = in-from bound pairs k found later in (rest.0, inr rest.1))
    (subst (λ b. IsIn (choose b) k found) stays.0 is))
    (lt_tells pair.0 bound)

-- and those of other indexes
pub in-without : (index : ℕ) (pairs : List (ℕ × ℕ)) (k found : ℕ) → IsIn (without index pairs) k found → (k ≢ index) × IsIn pairs k found
in-without index [] k found is = absurd is
in-without index (pair ∷ pairs) k found is =
    let choose : Bool → List (ℕ × ℕ) = λ b. if b then without index pairs else pair ∷ without index pairs in ⊎_elim
    (λ goes. let rest = in-without index pairs k found (subst (λ b. IsIn (choose b) k found) goes.0 is) in (rest.0, inr rest.1))
    (λ stays. ⊎_elim
    (λ (here : (pair.0 ≡ k) × (pair.1 ≡ found)). ((λ same. stays.1 (here.0 ∙ same)), inl here))
    (λ (later : IsIn (without index pairs) k found). let rest = in-without index pairs k found later in (rest.0, inr rest.1))
    (subst (λ b. IsIn (choose b) k found) stays.0 is))
    (eqb_tells pair.0 index)

-- what is said of another index is said without those of this one
pub says-without : (index : ℕ) (pairs : List (ℕ × ℕ)) (k found : ℕ) → k ≢ index → Says pairs k found → Says (without index pairs) k found
says-without index [] k found differ says = says
says-without index (pair ∷ pairs) k found differ says =
    let choose : Bool → List (ℕ × ℕ) = λ b. if b then without index pairs else pair ∷ without index pairs in
    let pick : Bool → Option ℕ → Option ℕ = λ b other. if b then Some pair.1 else other in ⊎_elim
    (λ goes. ap (λ b. entry (choose b) k) goes.0 ∙ says-without index pairs k found differ (⊎_elim
    (λ here. absurd (differ (sym here.1 ∙ goes.1)))
    (λ past. sym (ap (λ b. pick b (entry pairs k)) past.0) ∙ says)
    (eqb_tells pair.0 k)))
    (λ stays. ap (λ b. entry (choose b) k) stays.0 ∙ ⊎_elim
    (λ here. ap (λ b. pick b (entry (without index pairs) k)) here.0 ∙ (sym (ap (λ b. pick b (entry pairs k)) here.0) ∙ says))
    (λ past. ap (λ b. pick b (entry (without index pairs) k)) past.0
    ∙ says-without index pairs k found differ (sym (ap (λ b. pick b (entry pairs k)) past.0) ∙ says))
    (eqb_tells pair.0 k))
    (eqb_tells pair.0 index)

-- a view that records more has read the same texts, and justifies the same numbers
module _ (n : ℕ) (less more : View) (codes : IsKnownBy (entry less.codes) (entry more.codes)) (buckets : IsKnownBy (entry less.buckets) (entry more.buckets)) where
  pub places_more : (place : ℕ) (text : List ℕ) → places_of less place ≡ Some text → places_of more place ≡ Some text
  places_more place text read = text_named-more (entry less.codes) (entry more.codes) (entry less.buckets place) (entry more.buckets place) text codes (λ word. buckets place word) read

  pub justified_more : (place : ℕ) → IsJustified n less place → IsJustified n more place
  justified_more place is = (
    is.0,
    places_more place is.0 is.1,
    is.2,
    is.3,
    is.4,
    λ earlier before.
        let other = is.5 earlier before in (other.0, places_more _ other.0 other.1, other.2),
  )
