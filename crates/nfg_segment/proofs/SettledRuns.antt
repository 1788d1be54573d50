-- Fronts of a text that are settled.
use Rattle.std.proofs.Common.{◌≡◌, ℕ, zero, suc, ◌+◌, ◌<◌, ◌≤◌, Bool, true, false, not, cond, List, [], ◌∷◌, ◌++◌, length, map, take, get_or, refl, sym, ap, ◌∙◌, arith, append-nil, lt-ltb, zero-le}
use Rattle.std.proofs.lemmas.List.{take-map, take-take, length-take-le, take-append-le, take_all, length-map}
use Rattle.std.specs.List.{position_or_len}
use Rattle.nfg_text.specs.Forms.{nfc}
use Rattle.nfg_text.specs.Graphemes.{starts_safely}
use Rattle.nfg_passes.specs.Ids.{id_number}
use Rattle.nfg_passes.specs.Unsettled.{is_unsettled, first_unsettled, IsSettledText}
use Rattle.nfg_passes.proofs.Proved.{ids_tell, settled_texts_stay_behind}
use lib.Lanes.{zip2}

-- the first unsettled place, the first id judged as after `before`
abbrev first_after : ℕ → List ℕ → ℕ
first_after before ids = position_or_len (λ unsettled. unsettled) (zip2 is_unsettled (before ∷ ids) ids)

front-settled : (before : ℕ) (ids : List ℕ) (n : ℕ) → n ≤ first_after before ids → first_after before (take n ids) ≡ n
front-settled before ids zero h = refl
front-settled before [] (suc n) h = absurd (omega (arith, h))
front-settled before (id ∷ ids) (suc n) h =
    step (is_unsettled before id) (first_after id ids) (first_after id (take n ids)) n h (front-settled id ids n)
  where
    step : (u : Bool) (m k n : ℕ) → suc n ≤ cond (not u) (1 + m) 0 → (n ≤ m → k ≡ n) → cond (not u) (1 + k) 0 ≡ suc n
    step true m k n h rest = absurd (omega (arith, h))
    step false m k n h rest = let e = rest (omega (arith, h)) in omega (arith, e)

-- the id of a code point tells that it starts safely
pub safe-id : (c : ℕ) → id_number c < 18 → starts_safely c ≡ true
safe-id c low = sym (ids_tell c).safe ∙ lt-ltb (id_number c) 18 low

first_after-le : (before : ℕ) (ids : List ℕ) → first_after before ids ≤ length ids
first_after-le before [] = zero-le
first_after-le before (id ∷ ids) = step (is_unsettled before id) (first_after id ids) (length ids) (first_after-le id ids)
  where
    step : (u : Bool) (m n : ℕ) → m ≤ n → cond (not u) (1 + m) 0 ≤ suc n
    step true m n h = zero-le
    step false m n h = omega (arith, h)

-- a front up to the first unsettled place
pub settled-front : (t : List ℕ) (end n : ℕ) → end ≤ length t → n ≤ end → n ≤ first_unsettled (map id_number (take end t)) → IsSettledText (take n t)
settled-front t end n within low h =
    ap first_unsettled (ap (map id_number) (sym (take-take n end t low)) ∙ sym (take-map id_number n (take end t)))
    ∙ front-settled 0 (map id_number (take end t)) n h ∙ sym (length-take-le n t (omega (arith, within, low)))

-- a part of it
pub settled-part : (t : List ℕ) (front n : ℕ) → front ≤ length t → n ≤ front → IsSettledText (take front t) → IsSettledText (take n t)
settled-part t front n within low settled =
    settled-front t front n within low (omega (arith, settled, low, length-take-le front t within))

-- ids of a part
pub ids-part : (t ids : List ℕ) (front n : ℕ) → n ≤ front → take front ids ≡ map id_number (take front t) → take n ids ≡ map id_number (take n t)
ids-part t ids front n low e =
    sym (take-take n front ids low) ∙ ap (take n) e ∙ take-map id_number n (take front t) ∙ ap (map id_number) (take-take n front t low)

ids-at : (t : List ℕ) (n r : ℕ) → r < length (map id_number (take n t)) → get_or (map id_number (take n t)) r 0 ≡ id_number (get_or t r 0)
ids-at t zero r h = absurd (omega (arith, h))
ids-at [] (suc n) r h = absurd (omega (arith, h))
ids-at (c ∷ cs) (suc n) zero h = refl
ids-at (c ∷ cs) (suc n) (suc r) h = ids-at cs n r (omega (arith, h))

-- ---- what was read of a text

pub read-whole : (t into rest : List ℕ) (end first : ℕ) → into ≡ map id_number (take end t) → first ≡ first_unsettled (take end (into ++ rest)) → end ≤ length t → first ≡ first_unsettled into
read-whole t into rest end first e is within =
    let long = ap length e ∙ length-map (take end t) id_number ∙ length-take-le end t within in
    is ∙ ap first_unsettled (take-append-le end into rest (omega (arith, long)) ∙ take_all end into (omega (arith, long)))

pub read-within : (t into : List ℕ) (end first : ℕ) → into ≡ map id_number (take end t) → first ≡ first_unsettled into → end ≤ length t → first ≤ end
read-within t into end first e is within =
    let long = ap length e ∙ length-map (take end t) id_number ∙ length-take-le end t within in
    let most = first_after-le 0 into in
    omega (arith, is, long, most)

pub read-settled : (t into : List ℕ) (end first : ℕ) → into ≡ map id_number (take end t) → first ≡ first_unsettled into → end ≤ length t → IsSettledText (take first t)
read-settled t into end first e is within =
    settled-front t end first within (read-within t into end first e is within) (omega (arith, is ∙ ap first_unsettled e))

pub read-ids : (t into rest : List ℕ) (end first : ℕ) → into ≡ map id_number (take end t) → first ≡ first_unsettled into → end ≤ length t
    → take first (into ++ rest) ≡ map id_number (take first t)
read-ids t into rest end first e is within =
    let low = read-within t into end first e is within in
    let long = ap length e ∙ length-map (take end t) id_number ∙ length-take-le end t within in
    take-append-le first into rest (omega (arith, low, long)) ∙ ap (take first) e ∙ take-map id_number first (take end t)
    ∙ ap (map id_number) (take-take first end t low)

pub at_most : (r n : ℕ) → (0 < r → r < n) → r ≤ n
at_most zero n h = zero-le
at_most (suc r) n h = let low = h (omega arith) in omega (arith, low)

pub within-text : (r n len : ℕ) → 0 < len → n ≤ len → (0 < r → r < n) → r < len
within-text zero n len some most h = some
within-text (suc r) n len some most h = let low = h (omega arith) in omega (arith, low, most)

-- an id tells where the text starts safely
pub safe-place : (t ids : List ℕ) (front r : ℕ) → starts_safely (get_or t 0 0) ≡ true → ids ≡ map id_number (take front t) → (0 < r → r < length ids) → (0 < r → get_or ids r 0 < 18)
    → starts_safely (get_or t r 0) ≡ true
safe-place t ids front zero first e inside low = first
safe-place t ids front (suc r) first e inside low =
    let some : 0 < suc r = omega arith in
    let here = ap (λ l. get_or l (suc r) 0) e ∙ ids-at t front (suc r) (omega (arith, inside some, ap length e)) in
    safe-id (get_or t (suc r) 0) (omega (arith, low some, here))

-- its NFC is itself, whatever comes before
pub nfc-settled_run : (x run : List ℕ) → (0 < length run → starts_safely (get_or run 0 0) ≡ true) → IsSettledText run → nfc (x ++ run) ≡ nfc x ++ run
nfc-settled_run x [] first settled = ap nfc (append-nil x) ∙ sym (append-nil (nfc x))
nfc-settled_run x (c ∷ cs) first settled = settled_texts_stay_behind x c cs (first (omega arith)) settled

-- what comes before a place of a text
pub nfc-run : (x t : List ℕ) (n : ℕ) → n < length t → starts_safely (get_or t 0 0) ≡ true → IsSettledText (take n t) → nfc (x ++ take n t) ≡ nfc x ++ take n t
nfc-run x t zero within first settled = nfc-settled_run x [] (λ some. absurd (omega (arith, some))) settled
nfc-run x [] (suc n) within first settled = absurd (omega (arith, within))
nfc-run x (c ∷ cs) (suc n) within first settled = nfc-settled_run x (c ∷ take n cs) (λ some. first) settled
