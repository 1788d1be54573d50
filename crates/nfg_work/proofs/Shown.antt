-- Numbers that are code points, as they are shown.
use Rattle.std.proofs.Common.{◌≡◌, ℕ, ◌+◌, ◌-◌, ◌≤◌, List, [], ◌∷◌, ◌++◌, length, take, drop, slice_get, Some, true, ℤ, pos, sym, ap, ◌∙◌, length-take, length-drop, arith}
use Rattle.std.proofs.Math.Seq.{take-append-add}
use Rattle.std.specs.List.{flat_map}
use Rattle.std.specs.Fmt.{digits}
use Rattle.nfg_syn.specs.Known.{Texts}
use Rattle.nfg_syn.specs.Represents.{Represents, spelling}
use Rattle.nfg_syn.specs.RepresentsLaws.{spelling-one, Represents-drop}
use Rattle.nfg_work.specs.Separated.{shown_with_space}
use Rattle.nfg_work.proofs.Joined.{mapped-next, spelled_at, take-whole}

-- one code point more stands in the scratch
pub shown_more : (known : Texts) (ns : List ℤ) (clusters : List (List ℕ)) (i c at k : ℕ) (n : ℤ) (out bytes : List ℕ) → Represents known ns clusters → slice_get ns i ≡ Some n
    → n ≡ pos c → at ≤ length out → take at out ≡ flat_map shown_with_space (take i clusters) → take k bytes ≡ digits 16 true c ++ 32 ∷ []
    → take (at + k) (take at out ++ bytes) ≡ flat_map shown_with_space (take (i + 1) clusters)
shown_more known ns clusters i c at k n out bytes are there code room front more =
    let s = spelled_at known ns clusters i n are there in
    let one : s.cluster ≡ c ∷ [] = (spelling-one known c s.cluster (ap (spelling known) (sym code) ∙ s.spelled)).1 in
    let len : length (take at out) ≡ at = omega (arith, length-take at out) in
    mapped-next shown_with_space clusters i s.cluster [] (take at out) (take (at + k) (take at out ++ bytes)) s.at front
    (ap (λ m. take (m + k) (take at out ++ bytes)) (sym len) ∙ take-append-add (take at out) bytes k
    ∙ ap (λ v. take at out ++ v) (more ∙ ap shown_with_space (sym one)))

-- the rest of the numbers stands for the rest of the clusters
pub rest_represents : (known now : Texts) (ns : List ℤ) (clusters : List (List ℕ)) (at : ℕ) → now ≡ known → Represents known ns clusters
    → Represents now (take (length ns - at) (drop at ns)) (drop at clusters)
rest_represents known now ns clusters at same are =
    let behind = length-drop at ns in
    let whole : take (length ns - at) (drop at ns) ≡ drop at ns = take-whole (drop at ns) (length ns - at) (omega (arith, behind)) in
    rw (same, whole) (Represents-drop known at ns clusters are)
