-- What is printed, and what is over the limit.
use Rattle.std.proofs.Common.{◌≡◌, ℕ, zero, suc, ◌≤◌, true, nat_lt, List, [], ◌∷◌, ◌++◌, length, take, drop, Err, ℤ, refl, sym, ap, ◌∙◌, length-append, arith}
use Rattle.std.proofs.lemmas.Bool.{lt-ltb}
use Rattle.std.proofs.lemmas.List.{take_at}
use Rattle.std.specs.List.{flat_map}
use Rattle.std.proofs.Math.Seq.{take-append_seam}
use Rattle.nfg_syn.specs.Known.{Texts}
use Rattle.nfg_syn.specs.Represents.{Represents}
use Rattle.nfg_work.specs.declared.stop.Stop.{Stop}
use Rattle.nfg_work.specs.Printing.{shown, shown_cluster, line_of}
use Rattle.nfg_work.specs.Separated.{shown_with_space}
use Rattle.nfg_work.specs.Holding.{Prints, IsRefusedAt}
use Rattle.nfg_syn.specs.RepresentsLaws.{Represents-take, Represents-drop}
use Rattle.nfg_work.proofs.Joined.{join-closed}
use Rattle.nfg_work.proofs.Tables.{length-take_le}

-- what is read of a string from a place on stands for that part of the clusters
pub part_represents : (known now : Texts) (gs left numbers old : List ℤ) (clusters : List (List ℕ)) (at count : ℕ) → now ≡ known → left ≡ drop at gs
    → count ≤ length left → numbers ≡ take count left ++ drop count old → Represents known gs clusters
    → Represents now (take count numbers) (take count (drop at clusters))
part_represents known now gs left numbers old clusters at count same left_is few read are =
    let part : take count numbers ≡ take count (drop at gs) =
    ap (take count) read ∙ take_at (take count left) (drop count old) count (length-take_le count left few) ∙ ap (take count) left_is in
    rw (same, part) (Represents-take known count (drop at gs) (drop at clusters) (Represents-drop known at gs clusters are))

line_length : (clusters : List (List ℕ)) → length (flat_map shown_with_space clusters) ≤ length (line_of (shown clusters))
line_length [] = omega arith
line_length (c ∷ clusters) =
    let long = ap length (join-closed 32 shown_cluster c clusters) ∙ length-append (shown (c ∷ clusters)) (32 ∷ []) in
    let line = length-append (shown (c ∷ clusters)) (10 ∷ []) in
    omega (arith, long, line)

front_length : (clusters : List (List ℕ)) (k : ℕ) → length (flat_map shown_with_space (take k clusters)) ≤ length (flat_map shown_with_space clusters)
front_length clusters k = (by k clusters)
  where
    by : (k : ℕ) (clusters : List (List ℕ)) → length (flat_map shown_with_space (take k clusters)) ≤ length (flat_map shown_with_space clusters)
    by zero clusters = omega arith
    by (suc k) [] = omega arith
    by (suc k) (c ∷ clusters) =
        let first = length-append (shown_with_space c) (flat_map shown_with_space (take k clusters)) in
        let whole = length-append (shown_with_space c) (flat_map shown_with_space clusters) in
        let rest = by k clusters in omega (arith, first, whole, rest)

-- a front of the line that is too long
pub shown_over : (start out new : List ℕ) (had k : ℕ) (clusters : List (List ℕ)) (stop : Stop) → length start ≡ had
    → out ≡ start ++ flat_map shown_with_space (take k clusters) → IsRefusedAt had out new stop → Prints start new (Err stop) (line_of (shown clusters))
shown_over start out new had k clusters stop had_is out_is refused =
    let over = refused.over in
    let long = ap length out_is ∙ length-append start (flat_map shown_with_space (take k clusters)) in
    let line = length-append start (line_of (shown clusters)) in
    let much : nat_lt 268435456 (length (start ++ line_of (shown clusters))) ≡ true =
    lt-ltb 268435456 _ (omega (arith, over, long, line, line_length clusters, front_length clusters k)) in
    let same : new ≡ start = refused.front ∙ (λ i. take (sym had_is i) (out_is i)) ∙ take-append_seam start (flat_map shown_with_space (take k clusters)) in
    rw refused.cause (refl, much, same)
