-- Clusters of parts of bytes are clusters of parts of all bytes.
use Rattle.std.proofs.Common.{◌≡◌, ℕ, List, ◌++◌, refl, sym, ap, ◌∙◌, subst, append_assoc}
use Rattle.nfg_decode.specs.declared.encoding.Encoding.{Encoding}
use Rattle.nfg_decode.specs.declared.encoding.Encoding.TheVariants.{Utf8, Utf16, Utf16Le, Utf16Be, Latin1}
use Rattle.nfg_syn.specs.Known.{Texts}
use Rattle.nfg_work.specs.Reach.{MayBeRead, IsPartCluster}
use Rattle.nfg_work.specs.Parts.{IsOfParts, GrowsByParts}
use Rattle.nfg_work.proofs.Growth.{growth_as}

-- bytes may be read in their own encoding
pub may_itself : (e : Encoding) → MayBeRead e e
may_itself Utf8 = refl
may_itself Utf16 = tt
may_itself Utf16Le = refl
may_itself Utf16Be = refl
may_itself Latin1 = refl

-- what may be read in one encoding, of which a part may be read in another
may_through : (e r s : Encoding) → MayBeRead e r → MayBeRead r s → MayBeRead e s
may_through Utf16 Utf16 s first second = second
may_through Utf16 Utf16Le s first second = subst (MayBeRead Utf16) second first
may_through Utf16 Utf16Be s first second = subst (MayBeRead Utf16) second first
may_through Utf16 Utf8 s first second = subst (λ x. MayBeRead x s) (sym first) second
may_through Utf16 Latin1 s first second = subst (λ x. MayBeRead x s) (sym first) second
may_through Utf8 r s first second = subst (λ x. MayBeRead x s) (sym first) second
may_through Utf16Le r s first second = subst (λ x. MayBeRead x s) (sym first) second
may_through Utf16Be r s first second = subst (λ x. MayBeRead x s) (sym first) second
may_through Latin1 r s first second = subst (λ x. MayBeRead x s) (sym first) second

-- what stands in the middle of a middle
regrouped : (front a middle b back : List ℕ) → (front ++ ((a ++ middle) ++ b)) ++ back ≡ ((front ++ a) ++ middle) ++ (b ++ back)
regrouped front a middle b back =
    ap (λ r. r ++ back) (sym (append_assoc front (a ++ middle) b) ∙ ap (λ r. r ++ b) (sym (append_assoc front a middle)))
    ∙ append_assoc ((front ++ a) ++ middle) b back

-- a cluster of a part of a part
cluster_through : (e r : Encoding) (bytes front part back t : List ℕ) → bytes ≡ front ++ part ++ back → MayBeRead e r → IsPartCluster r part t
    → IsPartCluster e bytes t
cluster_through e r bytes front part back t here may of_part = record {
  front = front ++ of_part.front;
  middle = of_part.middle;
  back = of_part.back ++ back;
  encoding = of_part.encoding;
  text = of_part.text;
  parts = here ∙ ap (λ p. front ++ p ++ back) of_part.parts ∙ regrouped front of_part.front of_part.middle of_part.back back;
  may = may_through e r of_part.encoding may of_part.may;
  decoded = of_part.decoded;
  cluster = of_part.cluster;
}

-- what grows by parts of a part grows by parts of the whole
pub growth_through : (e r : Encoding) (bytes front part back : List ℕ) (old new : Texts) → bytes ≡ front ++ part ++ back → MayBeRead e r
    → GrowsByParts r part old new → GrowsByParts e bytes old new
growth_through e r bytes front part back old new here may grown =
    growth_as (IsOfParts r part) (IsOfParts e bytes) old new
    (λ t is. (is.0, cluster_through e r bytes front part back t here may is.1)) grown
