-- Numbers for clusters, one after another.
use Rattle.std.proofs.Common.{◌≡◌, ℕ, List, [], ◌∷◌, ◌++◌, None, Result, Ok, Err, IfOk, IfErr, ℤ, sym, ap, subst, pos, negsuc, ◌≤ℤ◌, true, ◌∙◌, append-nil, arith, length, map}
use Rattle.std.proofs.lemmas.Bool.{and_parts}
use lib.Utf8.{scalar}
use Rattle.nfg_stream.specs.Collected.{kept_as, AreCounted}
use Rattle.nfg_strand.specs.Pieces.{flat_piece}
use Rattle.nfg_strand.specs.Value.{Rope}
use Rattle.nfg_syn.specs.Known.{Texts, IsSame, IsWithin}
use Rattle.nfg_syn.specs.Represents.{Represents}
use Rattle.nfg_syn.specs.RepresentsLaws.{Represents-grows, Represents-push, spelling-scalar}
use Rattle.nfg_syn.specs.Seen.{Seen}
use Rattle.nfg_stream.specs.declared.error.LoadError.{LoadError}
use Rattle.nfg_stream.specs.declared.error.LoadError.TheVariants.{Malformed, ClusterLong, RowFull, NoPortion, OutOfMemory}
use Rattle.nfg_syn.specs.Learned.{HasLearned, several, first_long, StopsAt, StopsSomewhere}
use Rattle.nfg_stream.specs.Load.{HasMade}
use Rattle.nfg_stream.specs.Numbering.{AreNumbered, AreClusters, HasNumber, IsCluster, IsRefused}
use Rattle.nfg_stream.specs.Numbers.{ArePlain}
use Rattle.nfg_syn.specs.LearnedLaws.{HasLearned-same, HasLearned-several, IsSame-refl}

pub Numbered-none : (known : Texts) (numbers : List ℤ) → numbers ≡ [] → AreNumbered [] known known numbers
Numbered-none known numbers none = record {
  represents = subst (λ ns. Represents known ns []) (sym none) tt;
  learned = IsSame-refl known;
}

-- one cluster more
pub Numbered-push : (front : List (List ℕ)) (cluster : List ℕ) (old : Texts) (mid new : Seen) (before after : List ℤ) (n : ℤ)
    → IsWithin mid.known new.known → AreNumbered front old mid.known before → after ≡ before ++ n ∷ [] → HasNumber cluster mid new (Ok n)
    → AreNumbered (front ++ cluster ∷ []) old new.known after
Numbered-push front cluster old mid new before after n within so_far pushed number = record {
  represents =
      subst (λ ns. Represents new.known ns (front ++ cluster ∷ [])) (sym pushed)
      (Represents-push new.known before front n cluster (Represents-grows mid.known new.known within before front so_far.represents) number.0);
  learned = HasLearned-several old mid.known new.known front (cluster ∷ []) so_far.learned number.1;
}

stops_at : (clusters front : List (List ℕ)) (cluster : List ℕ) (rest : List (List ℕ)) (old mid new : Texts) (Reason : List ℕ → Type 0)
    → clusters ≡ front ++ cluster ∷ rest → first_long clusters ≡ None → HasLearned old (several front) mid → IsRefused cluster mid new (Reason cluster)
    → StopsAt clusters old new Reason
stops_at clusters front cluster rest old mid new Reason parts short learned refused = record {
  front = front;
  cluster = cluster;
  rest = rest;
  parts = parts;
  short = short;
  needs_number = refused.needs_number;
  unknown = refused.unknown;
  reason = refused.reason;
  learned = HasLearned-same old mid new (several front) learned refused.same;
}

stops_before : (clusters front : List (List ℕ)) (cluster : List ℕ) (rest : List (List ℕ)) (old mid new : Texts)
    → clusters ≡ front ++ cluster ∷ rest → HasLearned old (several front) mid → IsSame mid new → StopsSomewhere clusters old new
stops_before clusters front cluster rest old mid new parts learned same =
    record { front = front; rest = cluster ∷ rest; parts = parts; learned = HasLearned-same old mid new (several front) learned same }

-- a cluster gets no number
pub made-refused : (clusters front : List (List ℕ)) (cluster : List ℕ) (rest : List (List ℕ)) (old mid new : Seen) (numbers : List ℤ) (error : LoadError)
    → clusters ≡ front ++ cluster ∷ rest → first_long clusters ≡ None → AreNumbered front old.known mid.known numbers
    → HasNumber cluster mid new (Err error) → HasMade clusters old new (Err error)
made-refused clusters front cluster rest old mid new numbers (Malformed at) parts short so_far never = absurd never
made-refused clusters front cluster rest old mid new numbers (ClusterLong at) parts short so_far never = absurd never
made-refused clusters front cluster rest old mid new numbers RowFull parts short so_far refused =
    stops_at clusters front cluster rest old.known mid.known new.known new.full parts short so_far.learned refused
made-refused clusters front cluster rest old mid new numbers NoPortion parts short so_far refused =
    stops_at clusters front cluster rest old.known mid.known new.known (λ _. new.drained) parts short so_far.learned refused
made-refused clusters front cluster rest old mid new numbers OutOfMemory parts short so_far same =
    stops_before clusters front cluster rest old.known mid.known new.known parts so_far.learned same

-- a code point is its own number
pub plain-number : (longer : List (List ℕ)) (n : ℤ) (seen : Seen) → pos 0 ≤ℤ n → IsCluster (kept_as longer n) → HasNumber (kept_as longer n) seen seen (Ok n)
plain-number longer (pos c) seen plain cluster =
    (spelling-scalar seen.known c (and_parts (scalar c) true cluster.0).0, IsSame-refl seen.known)
plain-number longer (negsuc k) seen never cluster = absurd (omega (arith, never))

-- all have numbers, and these are a string, or there is no memory for it
pub made-answer : (clusters : List (List ℕ)) (old new : Seen) (numbers : List ℤ) (result : Result Rope LoadError) → first_long clusters ≡ None
    → AreNumbered clusters old.known new.known numbers → IfOk result (λ made. made.graphemes ≡ numbers) → IfOk result (λ made. made.pieces ≡ flat_piece numbers)
    → IfErr result (λ error. error ≡ OutOfMemory) → HasMade clusters old new result
made-answer clusters old new numbers (Ok made) short all graphemes pieces none = record {
  short = short;
  represents = subst (λ ns. Represents new.known ns clusters) (sym graphemes) all.represents;
  pieces = pieces ∙ ap flat_piece (sym graphemes);
  learned = all.learned;
}
made-answer clusters old new numbers (Err error) short all graphemes pieces is =
    subst (λ e. HasMade clusters old new (Err e)) (sym is)
    (record { front = clusters; rest = []; parts = sym (append-nil clusters); learned = all.learned })

-- where there is no longer cluster, each is a code point
plain-counted : (count : ℕ) (numbers : List ℤ) → count ≡ 0 → AreCounted count numbers → ArePlain numbers
plain-counted count [] none all = tt
plain-counted count (pos c ∷ ns) none all = plain-counted count ns none all.1
plain-counted count (negsuc k ∷ ns) none all = let below = all.0 in absurd (omega arith)

plain-represents : (longer : List (List ℕ)) (known : Texts) (numbers : List ℤ) → ArePlain numbers → AreClusters (map (kept_as longer) numbers)
    → Represents known numbers (map (kept_as longer) numbers)
plain-represents longer known [] plain are = tt
plain-represents longer known (pos c ∷ ns) plain are =
    (spelling-scalar known c (and_parts (scalar c) true are.0.0).0, plain-represents longer known ns plain are.1)
plain-represents longer known (negsuc k ∷ ns) never are = absurd never

plain-learned : (longer : List (List ℕ)) (known : Texts) (numbers : List ℤ) → ArePlain numbers → HasLearned known (several (map (kept_as longer) numbers)) known
plain-learned longer known [] plain = IsSame-refl known
plain-learned longer known (pos c ∷ ns) plain = plain-learned longer known ns plain
plain-learned longer known (negsuc k ∷ ns) never = absurd never

pub Numbered-clear : (longer : List (List ℕ)) (known : Texts) (numbers : List ℤ) → ArePlain numbers → AreClusters (map (kept_as longer) numbers)
    → AreNumbered (map (kept_as longer) numbers) known known numbers
Numbered-clear longer known numbers plain are = record {
  represents = plain-represents longer known numbers plain are;
  learned = plain-learned longer known numbers plain;
}

pub Numbered-plain : (longer : List (List ℕ)) (known : Texts) (numbers : List ℤ) → length longer ≡ 0 → AreCounted (length longer) numbers
    → AreClusters (map (kept_as longer) numbers) → AreNumbered (map (kept_as longer) numbers) known known numbers
Numbered-plain longer known numbers none all are = Numbered-clear longer known numbers (plain-counted (length longer) numbers none all) are
