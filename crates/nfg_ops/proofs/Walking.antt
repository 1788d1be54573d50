-- One step of a walk over the code points of clusters.
use Rattle.std.proofs.Common.{◌≡◌, ℕ, zero, suc, ◌+◌, ◌<◌, ◌≤◌, ◌==◌, List, [], ◌∷◌, ◌++◌, length, drop, slice_get, Bool, true, false, Some, None, Option, get_or, inl, inr, ℤ, pos, negsuc, refl, sym, ap, subst, ◌∙◌, arith}
use Rattle.std.specs.Prelude.{MatchOption}
use Rattle.std.proofs.Math.ListN.{drop_of_length-le}
use Rattle.std.proofs.Math.Seq.{drop-append_seam}
use Rattle.std.proofs.lemmas.Bool.{cases_lt, eqb-true, eqb-false}
use Rattle.std.proofs.lemmas.Option.{slice_get_within, slice_get-get_or}
use Rattle.nfg_text.specs.Text.{text_of}
use Rattle.nfg_syn.specs.Known.{Texts, IsKnowledge}
use Rattle.nfg_syn.specs.Represents.{spelling, Represents}
use Rattle.nfg_syn.specs.RepresentsLaws.{spelling-one, Represents-length, Represents-at}
use Rattle.nfg_ops.specs.declared.walk.Position.{Position}
use Rattle.nfg_ops.specs.Walk.{text_from, IsInside, next_position, steps_left}

none_some : {A : Type 0} {x : A} → None ≡ Some x → ⊥
none_some e = cc

below_next : (m n : ℕ) → m < n → (m + 1 ≡ n → ⊥) → m + 1 < n
below_next m n below differ = omega (arith, below, differ)

-- the code point at an offset of the first of two lists is the first of what is left there
drop-code : (cluster rest : List ℕ) (offset code : ℕ) → slice_get cluster offset ≡ Some code → drop offset (cluster ++ rest) ≡ code ∷ drop (suc offset) (cluster ++ rest)
drop-code [] rest offset code e = cc
drop-code (c ∷ cluster) rest zero code e = let first : c ≡ code = cc in ap (λ x. x ∷ (cluster ++ rest)) first
drop-code (c ∷ cluster) rest (suc offset) code e = drop-code cluster rest offset code e

pub text-step : (list : List (List ℕ)) (place offset : ℕ) (cluster : List ℕ) (code : ℕ) → slice_get list place ≡ Some cluster → slice_get cluster offset ≡ Some code
    → drop offset (text_of (drop place list)) ≡ code ∷ drop (offset + 1) (text_of (drop place list))
text-step [] place offset cluster code e f = cc
text-step (c ∷ list) zero offset cluster code e f =
    let first : c ≡ cluster = cc in
    let more : suc offset ≡ offset + 1 = omega arith in
    drop-code c (text_of list) offset code (ap (λ t. slice_get t offset) first ∙ f) ∙ ap (λ n. code ∷ drop n (c ++ text_of list)) more
text-step (c ∷ list) (suc place) offset cluster code e f = text-step list place offset cluster code e f

-- after the last code point of a cluster comes the next cluster
pub text-end : (list : List (List ℕ)) (place : ℕ) (cluster : List ℕ) → slice_get list place ≡ Some cluster
    → drop (length cluster) (text_of (drop place list)) ≡ drop 0 (text_of (drop (place + 1) list))
text-end [] place cluster e = cc
text-end (c ∷ list) zero cluster e =
    let first : cluster ≡ c = cc in
    ap (λ t. drop (length t) (c ++ text_of list)) first ∙ drop-append_seam c (text_of list)
text-end (c ∷ list) (suc place) cluster e =
    let on : suc place + 1 ≡ suc (place + 1) = omega arith in
    text-end list place cluster e ∙ ap (λ n. text_of (drop n (c ∷ list))) (sym on)

-- nothing comes after the last cluster
pub text-past : (list : List (List ℕ)) (place offset : ℕ) → length list ≤ place → drop offset (text_of (drop place list)) ≡ []
text-past list place offset past = ap (λ cs. drop offset (text_of cs)) (drop_of_length-le list past) ∙ drop_of_length-le [] (omega arith)

-- a cluster that a number spells has 1 to 1,024 code points
pub spelled-length : (size : ℕ) (known places : Texts) → IsKnowledge size known places → (n : ℤ) (cluster : List ℕ) → spelling known n ≡ Some cluster
    → (0 < length cluster) × (length cluster ≤ 1024)
spelled-length size known places knows (pos c) cluster e = let one = ap length (spelling-one known c cluster e).1 in (omega (arith, one), omega (arith, one))
spelled-length size known places knows (negsuc m) cluster e =
    let internable = (knows.numbers m cluster e).1 in
    (omega (arith, internable.several), internable.within_limit)

module _ (size : ℕ) (known places : Texts) (knows : IsKnowledge size known places) (numbers : List ℤ) (list : List (List ℕ)) (represents : Represents known numbers list) where
  -- each cluster has 1 to 1,024 code points
  pub cluster-length : (place : ℕ) (cluster : List ℕ) → slice_get list place ≡ Some cluster → (0 < length cluster) × (length cluster ≤ 1024)
  cluster-length place cluster e =
      let long = Represents-length known numbers list represents in
      let within = slice_get_within list place cluster e in
      let here = slice_get-get_or numbers place (pos 0) (omega (arith, long, within)) in
      spelled-length size known places knows (get_or numbers place (pos 0)) cluster
      (Represents-at known numbers list represents place (get_or numbers place (pos 0)) cluster here e)

  -- the cluster at a position before the end
  pub cluster-at : (at : Position) → IsInside list at → at.place < length numbers
      → (cluster : List ℕ) × (slice_get list at.place ≡ Some cluster) × (at.offset < length cluster)
  cluster-at at inside within =
      let long = Represents-length known numbers list represents in
      by (slice_get list at.place) refl inside
    where
      by : (found : Option (List ℕ)) → slice_get list at.place ≡ found
          → MatchOption found ((at.place ≡ length list) × (at.offset ≡ 0)) (λ cluster. at.offset < length cluster)
          → (cluster : List ℕ) × (slice_get list at.place ≡ Some cluster) × (at.offset < length cluster)
      by None e is = let long = Represents-length known numbers list represents in absurd (omega (arith, is.0, long, within))
      by (Some cluster) e is = (cluster, e, is)

  pub inside-place : (at : Position) → IsInside list at → at.place ≤ length numbers
  inside-place at inside = by (slice_get list at.place) refl inside
    where
      by : (found : Option (List ℕ)) → slice_get list at.place ≡ found
          → MatchOption found ((at.place ≡ length list) × (at.offset ≡ 0)) (λ cluster. at.offset < length cluster) → at.place ≤ length numbers
      by None e is = let long = Represents-length known numbers list represents in omega (arith, is.0, long)
      by (Some cluster) e is = let long = Represents-length known numbers list represents in omega (arith, slice_get_within list at.place cluster e, long)

  -- the start of each cluster, and the end, are positions
  pub inside-start : (place : ℕ) → place ≤ length numbers → IsInside list (record { place = place; offset = 0 })
  inside-start place high = by (slice_get list place) refl
    where
      by : (found : Option (List ℕ)) → slice_get list place ≡ found
          → MatchOption found ((place ≡ length list) × ◌≡◌ {A = ℕ} 0 0) (λ cluster. 0 < length cluster)
      by None e = let long = Represents-length known numbers list represents in (
        elim (cases_lt place (length list)) [
          | inl below ↦ absurd (none_some (sym e ∙ slice_get-get_or list place [] below))
          | inr past ↦ omega (arith, long, high, past)
        ],
        refl,
      )
      by (Some cluster) e = (cluster-length place cluster e).0

  -- so is the position after one that is no end
  pub inside-next : (at : Position) (cluster : List ℕ) (is_last : Bool) → slice_get list at.place ≡ Some cluster → at.offset < length cluster
      → is_last ≡ (at.offset + 1 == length cluster) → IsInside list (next_position at is_last)
  inside-next at cluster true e within last =
      let long = Represents-length known numbers list represents in
      inside-start (at.place + 1) (omega (arith, slice_get_within list at.place cluster e, long))
  inside-next at cluster false e within last =
      let differ = eqb-false (at.offset + 1) (length cluster) (sym last) in
      let below = below_next at.offset (length cluster) within differ in
      subst (λ found. MatchOption found ((at.place ≡ length list) × (at.offset + 1 ≡ 0)) (λ c. at.offset + 1 < length c)) (sym e) below

-- a step takes one code point
pub text-next : (list : List (List ℕ)) (at : Position) (cluster : List ℕ) (code : ℕ) (is_last : Bool) → slice_get list at.place ≡ Some cluster
    → slice_get cluster at.offset ≡ Some code → is_last ≡ (at.offset + 1 == length cluster)
    → text_from list at ≡ code ∷ text_from list (next_position at is_last)
text-next list at cluster code true e f last =
    let end = eqb-true (at.offset + 1) (length cluster) (sym last) in
    text-step list at.place at.offset cluster code e f
    ∙ ap (λ n. code ∷ drop n (text_of (drop at.place list))) end
    ∙ ap (λ t. code ∷ t) (text-end list at.place cluster e)
text-next list at cluster code false e f last = text-step list at.place at.offset cluster code e f

-- and comes nearer to the end
pub steps-fewer : (len : ℕ) (at : Position) (is_last : Bool) → at.place < len → at.offset < 1024 → steps_left len (next_position at is_last) < steps_left len at
steps-fewer len at true inside few = omega (arith, inside, few)
steps-fewer len at false inside few = omega (arith, inside, few)
