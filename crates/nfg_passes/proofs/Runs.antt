-- A run of the automaton over a text gives the marks of the text, and the state after it.
use Rattle.std.proofs.Common.{◌≡◌, ℕ, ◌+◌, ◌*◌, ◌%◌, ◌<◌, List, [], ◌∷◌, ◌++◌, length, get_or, take, drop, map, replicate, reverse, slice_index, w8, refl, sym, ap, ap₂, subst, ◌∙◌, arith, append_assoc}
use Rattle.std.proofs.lemmas.List.{drop_more, reverse-append, ext_get_or}
use Rattle.std.proofs.lemmas.Nat.{mod_below}
use Rattle.std.proofs.lemmas.Simd.{swz_l, length-swz_l, get_or-swz_l_below, length-replicate, get_or-replicate}
use Rattle.nfg_passes.specs.Ids.{id_number}
use Rattle.nfg_passes.specs.Marks.{marks_after}
use Rattle.nfg_passes.specs.Rows.{HoldsState, next_in_rows, break_in_rows}
use Rattle.nfg_passes.specs.States.{automaton_state}
use Rattle.nfg_passes.specs.declared.rows.TheConstants.{ROWS}
use Rattle.nfg_passes.proofs.RowFacts.{entry_small}
use Rattle.nfg_passes.proofs.StateFacts.{next_gives, break_gives, state_below}

-- ---- one step

-- a table looked up by a vector with one number in all lanes
pub swz_l-replicate : (xs : List ℕ) (s : ℕ) → s < 16 → swz_l w8 16 xs 0 (replicate 16 s) ≡ replicate 16 (get_or xs s 0)
swz_l-replicate xs s small =
    let long = length-swz_l w8 16 xs 0 (replicate 16 s) ∙ length-replicate 16 s in
    ext_get_or 0 (swz_l w8 16 xs 0 (replicate 16 s)) (replicate 16 (get_or xs s 0)) (long ∙ sym (length-replicate 16 (get_or xs s 0))) (λ m inside.
    let lane : m < 16 = omega (arith, inside, long) in
    let here = get_or-replicate 16 m s 0 lane in
    get_or-swz_l_below w8 16 xs 0 (replicate 16 s) m (omega (arith, inside, long)) (subst (λ j. j < 16) (sym here) small)
    ∙ ap (λ k. get_or xs k 0) (omega (arith, here, lane)) ∙ sym (get_or-replicate 16 m (get_or xs s 0) 0 lane))

-- what the first lane of such a vector holds
pub first_lane : (lanes : List ℕ) (s x : ℕ) → lanes ≡ replicate 16 s → x ≡ get_or lanes 0 x → x ≡ s
first_lane lanes s x all is = is ∙ ap (λ l. get_or l 0 x) all

-- the vector of the next state, and the mark
pub holds_next : (lanes : List ℕ) (state id : ℕ) → state < 16 → lanes ≡ replicate 16 (slice_index ROWS (id % 128 * 32 + state))
    → HoldsState lanes (get_or lanes 0 0) × (get_or lanes 0 0 ≡ next_in_rows state id)
unfolding next_in_rows
holds_next lanes state id small all =
    let entry = slice_index ROWS (id % 128 * 32 + state) in
    let first : get_or lanes 0 0 ≡ entry = ap (λ l. get_or l 0 0) all in
    let below : entry < 16 = entry_small (id % 128 * 32 + state) (omega (arith, small, mod_below id 128 (omega arith))) in
    (record { small = omega (arith, first, below); all = all ∙ ap (replicate 16) (sym first) }, first)

pub mark_is : (lanes : List ℕ) (state id x : ℕ) → lanes ≡ replicate 16 (slice_index ROWS (id % 128 * 32 + 16 + state)) → x ≡ get_or lanes 0 x → x ≡ break_in_rows state id
unfolding break_in_rows
mark_is lanes state id x all is = first_lane lanes (slice_index ROWS (id % 128 * 32 + 16 + state)) x all is

-- ---- all steps

-- the marks that the rows give
abbrev pub marks_run : ℕ → List ℕ → List ℕ
marks_run state [] = []
marks_run state (id ∷ ids) = break_in_rows state id ∷ marks_run (next_in_rows state id) ids

-- the last state
abbrev pub last_state : ℕ → List ℕ → ℕ
last_state state [] = state
last_state state (id ∷ ids) = last_state (next_in_rows state id) ids

marks_by_run : (before t : List ℕ) → marks_run (automaton_state before) (map id_number t) ≡ marks_after before t
unfolding marks_after
marks_by_run before [] = refl
marks_by_run before (c ∷ t) =
    ap₂ (λ mark marks. mark ∷ marks) (break_gives before c t) (ap (λ s. marks_run s (map id_number t)) (next_gives before c) ∙ marks_by_run (c ∷ before) t)

last_by_run : (before t : List ℕ) → last_state (automaton_state before) (map id_number t) ≡ automaton_state (reverse t ++ before)
last_by_run before [] = refl
last_by_run before (c ∷ t) =
    let onto : reverse t ++ c ∷ before ≡ reverse (c ∷ t) ++ before =
    sym (append_assoc (reverse t) (c ∷ []) before) ∙ ap (λ l. l ++ before) (sym (reverse-append (c ∷ []) t)) in
    ap (λ s. last_state s (map id_number t)) (next_gives before c) ∙ last_by_run (c ∷ before) t ∙ ap automaton_state onto

started : (state : ℕ) (before : List ℕ) → state ≡ automaton_state before → state % 16 ≡ automaton_state before
started state before is = omega (arith, is, state_below before)

pub run_marks : (state : ℕ) (ids before t : List ℕ) → state ≡ automaton_state before → ids ≡ map id_number t → marks_run (state % 16) ids ≡ marks_after before t
run_marks state ids before t is of_text = ap₂ marks_run (started state before is) of_text ∙ marks_by_run before t

pub run_state : (state : ℕ) (ids before t : List ℕ) → state ≡ automaton_state before → ids ≡ map id_number t → last_state (state % 16) ids ≡ automaton_state (reverse t ++ before)
run_state state ids before t is of_text = ap₂ last_state (started state before is) of_text ∙ last_by_run before t

-- one more step of the loop
pub run_more : (ids into whole : List ℕ) (i state x next : ℕ) → i < length ids → x ≡ break_in_rows state (get_or ids i 0) → next ≡ next_in_rows state (get_or ids i 0)
    → take i into ++ marks_run state (drop i ids) ≡ whole → take i into ++ x ∷ marks_run next (drop (i + 1) ids) ≡ whole
run_more ids into whole i state x next inside marked moved so_far =
    ap₂ (λ m n. take i into ++ m ∷ marks_run n (drop (i + 1) ids)) marked moved
    ∙ ap (λ l. take i into ++ marks_run state l) (sym (drop_more ids i 0 inside)) ∙ so_far

pub last_more : (ids : List ℕ) (i state next whole : ℕ) → i < length ids → next ≡ next_in_rows state (get_or ids i 0) → last_state state (drop i ids) ≡ whole → last_state next (drop (i + 1) ids) ≡ whole
last_more ids i state next whole inside moved so_far =
    ap (λ n. last_state n (drop (i + 1) ids)) moved ∙ ap (last_state state) (sym (drop_more ids i 0 inside)) ∙ so_far
