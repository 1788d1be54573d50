-- Bytes from a bound on are those of the part there and those behind it.
use Rattle.std.proofs.Common.{◌≡◌, ℕ, suc, ◌+◌, ◌-◌, ◌<◌, ◌≤◌, List, [], ◌++◌, length, take, drop, get_or, slice_range, sym, ap, ◌∙◌, arith, append-nil}
use Rattle.std.proofs.Math.ListN.{drop_of_length-le}
use Rattle.std.proofs.lemmas.List.{take-append-drop, drop-drop}
use Rattle.nfg_work.specs.Parts.{AreBounds, part_at}

-- the bytes from a bound on
abbrev pub rest_from : (bytes bounds : List ℕ) → (k : ℕ) → List ℕ
rest_from bytes bounds k = drop (get_or bounds k 0) bytes

range_and_rest : (bytes : List ℕ) (start end : ℕ) → start ≤ end → slice_range bytes start end ++ drop end bytes ≡ drop start bytes
range_and_rest bytes start end low =
    let whole : start + (end - start) ≡ end = omega (arith, low) in
    let behind : drop end bytes ≡ drop (end - start) (drop start bytes) = ap (λ n. drop n bytes) (sym whole) ∙ sym (drop-drop (end - start) start bytes) in
    ap (λ back. slice_range bytes start end ++ back) behind ∙ take-append-drop (end - start) (drop start bytes)

-- a part and what is behind it
pub part_and_rest : (bytes bounds : List ℕ) (k next : ℕ) → AreBounds (length bytes) bounds → next ≡ k + 1 → next < length bounds
    → part_at bytes bounds k ++ rest_from bytes bounds next ≡ rest_from bytes bounds k
part_and_rest bytes bounds k next are is within =
    let follows : next ≡ suc k = omega (arith, is) in
    let up : get_or bounds k 0 ≤ get_or bounds (suc k) 0 = are.ascending k (omega (arith, is, within)) in
    ap (λ n. part_at bytes bounds k ++ rest_from bytes bounds n) follows
    ∙ range_and_rest bytes (get_or bounds k 0) (get_or bounds (suc k) 0) up

-- behind the last bound there is nothing
pub rest-last : (bytes bounds : List ℕ) (k : ℕ) → AreBounds (length bytes) bounds → k + 1 ≡ length bounds → rest_from bytes bounds k ≡ []
rest-last bytes bounds k are last =
    let end : get_or bounds k 0 ≡ length bytes = are.last k (omega (arith, last)) in
    drop_of_length-le bytes (omega (arith, end))

-- from the first bound on there are all
pub rest-first : (bytes bounds : List ℕ) → AreBounds (length bytes) bounds → rest_from bytes bounds 0 ≡ bytes
rest-first bytes bounds are = ap (λ n. drop n bytes) are.first

-- what stands before and behind the bytes from a bound on
pub around_rest : (bytes bounds : List ℕ) (k : ℕ) → bytes ≡ take (get_or bounds k 0) bytes ++ rest_from bytes bounds k ++ []
around_rest bytes bounds k =
    sym (append-nil (take (get_or bounds k 0) bytes ++ rest_from bytes bounds k) ∙ take-append-drop (get_or bounds k 0) bytes)
