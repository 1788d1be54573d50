-- Clusters that are kept as numbers of 8 bits: the longer one of them is the first that was kept.
use Rattle.std.proofs.Common.{◌≡◌, ◌≢◌, ℕ, zero, suc, ◌+◌, ◌<◌, ◌≤◌, true, None, Some, Ok, Err, List, [], ◌∷◌, ◌++◌, length, map, slice_index_or, ℤ, pos, negsuc, int_eq, refl, sym, ap, subst, ◌∙◌, arith}
use Rattle.std.proofs.lemmas.Bool.{and_parts}
use Rattle.std.proofs.lemmas.List.{map-append}
use Rattle.std.specs.List.{list_all, position_or_len}
use lib.Utf8.{scalar}
use Rattle.nfg_lanes.specs.Lanes.{is_narrow_grapheme}
use Rattle.nfg_syn.specs.Known.{Texts}
use Rattle.nfg_syn.specs.Represents.{Represents, spelling}
use Rattle.nfg_syn.specs.RepresentsLaws.{spelling-scalar}
use Rattle.nfg_syn.specs.Seen.{Seen}
use Rattle.nfg_stream.specs.Collected.{kept_as, AreCounted}
use Rattle.nfg_syn.specs.Learned.{HasLearned, several, first_long}
use Rattle.nfg_stream.specs.Load.{HasMade}
use Rattle.nfg_stream.specs.Numbering.{IsCluster, AreClusters, AreNumbered, HasNumber}
use Rattle.nfg_stream.specs.Numbers.{ArePlain, with_number}
use Rattle.nfg_stream.specs.declared.error.LoadError.{LoadError}
use Rattle.nfg_stream.proofs.Holding.{long_from, first_long-from, none_long}
use Rattle.nfg_stream.proofs.Interned.{learned-again}
use Rattle.nfg_syn.specs.LearnedLaws.{HasLearned-several, IsSame-refl}
use Rattle.nfg_stream.proofs.NumbersLemmas.{never-narrow}
use Rattle.nfg_stream.proofs.Numbered.{Numbered-clear, made-refused}

-- they fit 8 bits
abbrev pub AreNarrow : List ℤ → Type 0
AreNarrow ns = list_all is_narrow_grapheme ns ≡ true

-- the first longer cluster is among them
abbrev pub HasLonger : List ℤ → Type 0
HasLonger ns = position_or_len (λ y. int_eq y (negsuc 0)) ns ≢ length ns

abbrev first_of : List (List ℕ) → List ℕ
first_of longer = slice_index_or longer 0 []

rest_narrow : (n : ℤ) (ns : List ℤ) → AreNarrow (n ∷ ns) → AreNarrow ns
rest_narrow n ns narrow = (and_parts (is_narrow_grapheme n) (list_all is_narrow_grapheme ns) narrow).1

rest_longer : (c : ℕ) (ns : List ℤ) → HasLonger (pos c ∷ ns) → HasLonger ns
rest_longer c ns some none = some (omega (arith, none))

-- where it is not, all are code points
pub plain-narrow : (ns : List ℤ) → AreNarrow ns → position_or_len (λ y. int_eq y (negsuc 0)) ns ≡ length ns → ArePlain ns
plain-narrow [] narrow none = tt
plain-narrow (pos c ∷ ns) narrow none = plain-narrow ns (rest_narrow (pos c) ns narrow) (omega (arith, none))
plain-narrow (negsuc zero ∷ ns) narrow none = absurd (omega (arith, none))
plain-narrow (negsuc (suc k) ∷ ns) narrow none = absurd (never-narrow k ns narrow)

-- where it is, there is a longer cluster, and it is a cluster that is not too long
pub longer-counted : (count : ℕ) (ns : List ℤ) → HasLonger ns → AreNarrow ns → AreCounted count ns → 0 < count
longer-counted count [] some narrow all = absurd (some refl)
longer-counted count (pos c ∷ ns) some narrow all = longer-counted count ns (rest_longer c ns some) (rest_narrow (pos c) ns narrow) all.1
longer-counted count (negsuc zero ∷ ns) some narrow all = all.0
longer-counted count (negsuc (suc k) ∷ ns) some narrow all = absurd (never-narrow k ns narrow)

pub longer-cluster : (longer : List (List ℕ)) (ns : List ℤ) → HasLonger ns → AreNarrow ns → AreClusters (map (kept_as longer) ns) → IsCluster (first_of longer)
longer-cluster longer [] some narrow are = absurd (some refl)
longer-cluster longer (pos c ∷ ns) some narrow are = longer-cluster longer ns (rest_longer c ns some) (rest_narrow (pos c) ns narrow) are.1
longer-cluster longer (negsuc zero ∷ ns) some narrow are = are.0
longer-cluster longer (negsuc (suc k) ∷ ns) some narrow are = absurd (never-narrow k ns narrow)

short_from : (longer : List (List ℕ)) (i : ℕ) (ns : List ℤ) → HasLonger ns → AreNarrow ns → long_from i (map (kept_as longer) ns) ≡ None → length (first_of longer) ≤ 1024
short_from longer i [] some narrow short = absurd (some refl)
short_from longer i (pos c ∷ ns) some narrow short =
    short_from longer (i + 1) ns (rest_longer c ns some) (rest_narrow (pos c) ns narrow) (none_long i (c ∷ []) (map (kept_as longer) ns) short).1
short_from longer i (negsuc zero ∷ ns) some narrow short = (none_long i (first_of longer) (map (kept_as longer) ns) short).0
short_from longer i (negsuc (suc k) ∷ ns) some narrow short = absurd (never-narrow k ns narrow)

pub longer-short : (longer : List (List ℕ)) (ns : List ℤ) → HasLonger ns → AreNarrow ns → first_long (map (kept_as longer) ns) ≡ None → length (first_of longer) ≤ 1024
longer-short longer ns some narrow short = short_from longer 0 ns some narrow (sym (first_long-from (map (kept_as longer) ns)) ∙ short)

-- the number of the longer cluster, put for each that is kept as -1
with-represents : (longer : List (List ℕ)) (known : Texts) (n : ℤ) (ns : List ℤ) → spelling known n ≡ Some (first_of longer) → AreNarrow ns
    → AreClusters (map (kept_as longer) ns) → Represents known (map (with_number n) ns) (map (kept_as longer) ns)
with-represents longer known n [] is narrow are = tt
with-represents longer known n (pos c ∷ ns) is narrow are =
    (spelling-scalar known c (and_parts (scalar c) true are.0.0).0, with-represents longer known n ns is (rest_narrow (pos c) ns narrow) are.1)
with-represents longer known n (negsuc zero ∷ ns) is narrow are = (is, with-represents longer known n ns is (rest_narrow (negsuc 0) ns narrow) are.1)
with-represents longer known n (negsuc (suc k) ∷ ns) is narrow are = absurd (never-narrow k ns narrow)

-- what is known already is learned again by nothing
all-again : (longer : List (List ℕ)) (known : Texts) (n : ℤ) (ns : List ℤ) → spelling known n ≡ Some (first_of longer) → AreNarrow ns
    → HasLearned known (several (map (kept_as longer) ns)) known
all-again longer known n [] is narrow = IsSame-refl known
all-again longer known n (pos c ∷ ns) is narrow = all-again longer known n ns is (rest_narrow (pos c) ns narrow)
all-again longer known n (negsuc zero ∷ ns) is narrow =
    HasLearned-several known known known (first_of longer ∷ []) (map (kept_as longer) ns)
    (learned-again known n (first_of longer) is) (all-again longer known n ns is (rest_narrow (negsuc 0) ns narrow))
all-again longer known n (negsuc (suc k) ∷ ns) is narrow = absurd (never-narrow k ns narrow)

with-learned : (longer : List (List ℕ)) (old new : Texts) (n : ℤ) (ns : List ℤ) → spelling new n ≡ Some (first_of longer)
    → HasLearned old (several (first_of longer ∷ [])) new → HasLonger ns → AreNarrow ns → HasLearned old (several (map (kept_as longer) ns)) new
with-learned longer old new n [] is learned some narrow = absurd (some refl)
with-learned longer old new n (pos c ∷ ns) is learned some narrow =
    with-learned longer old new n ns is learned (rest_longer c ns some) (rest_narrow (pos c) ns narrow)
with-learned longer old new n (negsuc zero ∷ ns) is learned some narrow =
    HasLearned-several old new new (first_of longer ∷ []) (map (kept_as longer) ns) learned (all-again longer new n ns is (rest_narrow (negsuc 0) ns narrow))
with-learned longer old new n (negsuc (suc k) ∷ ns) is learned some narrow = absurd (never-narrow k ns narrow)

pub Numbered-with : (longer : List (List ℕ)) (old new : Seen) (n : ℤ) (ns : List ℤ) → HasLonger ns → AreNarrow ns → AreClusters (map (kept_as longer) ns)
    → HasNumber (first_of longer) old new (Ok n) → AreNumbered (map (kept_as longer) ns) old.known new.known (map (with_number n) ns)
Numbered-with longer old new n ns some narrow are number = record {
  represents = with-represents longer new.known n ns number.0 narrow are;
  learned = with-learned longer old.known new.known n ns number.0 number.1 some narrow;
}

-- ---- the longer cluster gets no number

-- the code points before the first longer cluster
record Front (ns : List ℤ) : Type 0 where
  front : List ℤ
  rest : List ℤ
  parts : ns ≡ front ++ negsuc 0 ∷ rest
  plain : ArePlain front

front_of : (ns : List ℤ) → HasLonger ns → AreNarrow ns → Front ns
front_of [] some narrow = absurd (some refl)
front_of (pos c ∷ ns) some narrow =
    let behind = front_of ns (rest_longer c ns some) (rest_narrow (pos c) ns narrow) in
    record { front = pos c ∷ behind.front; rest = behind.rest; parts = ap (λ l. pos c ∷ l) behind.parts; plain = behind.plain }
front_of (negsuc zero ∷ ns) some narrow = record { front = []; rest = ns; parts = refl; plain = tt }
front_of (negsuc (suc k) ∷ ns) some narrow = absurd (never-narrow k ns narrow)

clusters-front : (cs ds : List (List ℕ)) → AreClusters (cs ++ ds) → AreClusters cs
clusters-front [] ds are = tt
clusters-front (c ∷ cs) ds are = (are.0, clusters-front cs ds are.1)

pub refused-narrow : (longer : List (List ℕ)) (old new : Seen) (ns : List ℤ) (error : LoadError) → HasLonger ns → AreNarrow ns
    → AreClusters (map (kept_as longer) ns) → first_long (map (kept_as longer) ns) ≡ None → HasNumber (first_of longer) old new (Err error)
    → HasMade (map (kept_as longer) ns) old new (Err error)
refused-narrow longer old new ns error some narrow are short refused =
    let f = front_of ns some narrow in
    let parts = ap (map (kept_as longer)) f.parts ∙ map-append (kept_as longer) f.front (negsuc 0 ∷ f.rest) in
    made-refused (map (kept_as longer) ns) (map (kept_as longer) f.front) (first_of longer) (map (kept_as longer) f.rest) old old new f.front error parts short
    (Numbered-clear longer old.known f.front f.plain (clusters-front (map (kept_as longer) f.front) _ (subst AreClusters parts are))) refused
