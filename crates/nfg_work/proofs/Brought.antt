-- What a command brings into a table are clusters of the value that it gives.
use Rattle.std.proofs.Common.{◌≡◌, ◌≢◌, inl, inr, ℕ, ◌+◌, ◌*◌, Bool, true, false, nat_lt, List, [], ◌∷◌, ◌++◌, length, bytes_eq, Option, Some, None, Result, Ok, Err, IfErr, if◌then◌else◌, refl, sym, ap, ◌∙◌, subst}
use Rattle.std.proofs.lemmas.Bool.{and_parts}
use Rattle.std.specs.Set.{is_member}
use Rattle.nfg_text.specs.Graphemes.{graphemes_of}
use Rattle.nfg_decode.specs.Decoded.{Decoded}
use Rattle.nfg_syn.specs.Known.{IsSame}
use Rattle.nfg_syn.specs.Learned.{HasLearned, StopsAt, several, is_several}
use Rattle.nfg_syn.specs.Seen.{Seen}
use Rattle.nfg_strand.specs.Value.{Rope}
use Rattle.nfg_ops.specs.Reads.{HasAsked}
use Rattle.nfg_work.specs.declared.evaluation.Evaluation.{Evaluation}
use Rattle.nfg_work.specs.declared.output.Cause.{Cause}
use Rattle.nfg_work.specs.declared.output.Cause.TheVariants.{CannotRead, FileTooLong, Malformed, OutOfRange, NotEncodable, StringTooLong, AllTooLong, ClusterTooLong, TableFull, OutputTooLong}
use Rattle.nfg_work.specs.declared.output.FileRead.{FileRead}
use Rattle.nfg_work.specs.declared.stop.Stop.{Stop}
use Rattle.nfg_work.specs.declared.stop.Stop.TheVariants.{Refused, RowFull, NoPortion, OutOfMemory}
use Rattle.nfg_work.specs.Values.{Value, flat, part, joined, repeated}
use Rattle.nfg_work.specs.Evaluation.{State, join_limit, cost_limit, output_limit, define_part, print, put}
use Rattle.nfg_work.specs.Holding.{Does, join_refusal}
use Rattle.nfg_work.specs.Making.{IsMadeOf, IsStopAfter, unless_long, unless_many, cat_wanted, rep_wanted, file_value}
use Rattle.nfg_work.specs.Reach.{if_short, decoded_value, cat_value, rep_value}
use Rattle.nfg_work.specs.Given.{GrowsWith, HasRefused, Brings, BringsUntil}
use Rattle.nfg_work.proofs.InUse.{learned_back}
use Rattle.nfg_work.proofs.Members.{is_member-at, is_member-front, is_member-back, is_member-kept}
use Rattle.nfg_work.proofs.Wanted.{unless_long-ok, unless_long-err}
use Rattle.nfg_work.proofs.JoinedValues.{by_tests}

-- ---- what is learned

-- nothing new is known
pub grows_same : (value : Option Value) (pass after : Seen) → IsSame pass.known after.known → GrowsWith value pass.known after.known
grows_same value pass after same = λ k t e. inl (sym (same k) ∙ e)

among_several : (clusters : List (List ℕ)) (t : List ℕ) → is_member bytes_eq (several clusters) t ≡ true → is_member bytes_eq clusters t ≡ true
among_several clusters t holds = (and_parts (is_member bytes_eq clusters t) (is_several t) (sym (is_member-kept is_several clusters t) ∙ holds)).0

-- the clusters of the value were learned
learned_grows : (value : Value) (pass after : Seen) → HasLearned pass.known (several value.clusters) after.known → GrowsWith (Some value) pass.known after.known
learned_grows value pass after learned = λ k t e. elim (learned_back (several value.clusters) pass.known after.known learned k t e) [
  | inl before ↦ inl before
  | inr among ↦ inr (among_several value.clusters t among)
]

-- the clusters before one were learned
front_grows : (value : Value) (pass after : Seen) (Reason : List ℕ → Type 0) → StopsAt value.clusters pass.known after.known Reason
    → GrowsWith (Some value) pass.known after.known
front_grows value pass after Reason stops = λ k t e. elim (learned_back (several stops.front) pass.known after.known stops.learned k t e) [
  | inl before ↦ inl before
  | inr among ↦ inr (ap (λ v. is_member bytes_eq v t) stops.parts ∙ is_member-front stops.front (stops.cluster ∷ stops.rest) t (among_several stops.front t among))
]

-- and that one is refused
stops_refused : (value : Value) (pass after : Seen) (Reason : List ℕ → Type 0) → StopsAt value.clusters pass.known after.known Reason
    → HasRefused (Some value) after.known Reason
stops_refused value pass after Reason stops = record {
  cluster = stops.cluster;
  among = ap (λ v. is_member bytes_eq v stops.cluster) stops.parts
      ∙ is_member-back stops.front (stops.cluster ∷ stops.rest) stops.cluster (is_member-at (stops.cluster ∷ stops.rest) stops.cluster 0 refl);
  needs_number = stops.needs_number;
  unknown = stops.unknown;
  reason = stops.reason;
}

-- ---- what is made

-- the value that is wanted is the one that is given, and it is not refused for want of places
pub record IsWantedOf (given : Option Value) (wanted : Result Value Cause) : Type 0 where
  pub value : (v : Value) → wanted ≡ Ok v → given ≡ Some v
  pub cause : (cause : Cause) → wanted ≡ Err cause → cause ≢ TableFull

abbrev if_first : Option ℕ → Value → Option Value
if_first first value = elim first [
  | None ↦ Some value
  | Some at ↦ None
]

pub long_wanted : (value : Value) → IsWantedOf (if_short value) (unless_long value)
long_wanted value = record {
  value = λ v e. let is = unless_long-ok value v e in ap (λ first. if_first first value) is.0 ∙ ap (λ w. Some w) is.1;
  cause = λ cause e full. let is = unless_long-err value cause e in let never : ClusterTooLong is.0 ≡ TableFull = sym is.2 ∙ full in cc;
}

many_wanted_by : (over : Bool) (value : Value) → IsWantedOf (if over then None else if_short value) (if over then Err StringTooLong else unless_long value)
many_wanted_by true value = record {
  value = λ v e. cc;
  cause = λ cause e full. let never : StringTooLong ≡ TableFull = (let same : StringTooLong ≡ cause = cc in same ∙ full) in cc;
}
many_wanted_by false value = long_wanted value

pub many_wanted : (count : ℕ) (value : Value) → IsWantedOf (if nat_lt join_limit count then None else if_short value) (unless_many count value)
many_wanted count value = many_wanted_by (nat_lt join_limit count) value

pub cat_is_wanted : (a b : Value) → IsWantedOf (cat_value (Some a) (Some b)) (cat_wanted a b)
cat_is_wanted a b = many_wanted (length a.clusters + length b.clusters) (joined a b)

pub rep_is_wanted : (a : Value) (times : ℕ) → IsWantedOf (rep_value (Some a) times) (rep_wanted a times)
rep_is_wanted a times = many_wanted (length a.clusters * times) (repeated a times)

pub file_wanted : (decoded : Decoded) → IsWantedOf (decoded_value decoded) (file_value decoded)
file_wanted (Ok text) = long_wanted (flat (graphemes_of text))
file_wanted (Err at) = record {
  value = λ v e. cc;
  cause = λ cause e full. let never : Malformed at ≡ TableFull = (let same : Malformed at ≡ cause = cc in same ∙ full) in cc;
}

-- a string was made
pub made_grows : (given : Option Value) (wanted : Result Value Cause) (pass after : Seen) (string : Rope) → IsWantedOf given wanted
    → IsMadeOf wanted pass after (Ok string) → GrowsWith given pass.known after.known
made_grows given wanted pass after string is made =
    subst (λ v. GrowsWith v pass.known after.known) (sym (is.value made.0 made.1)) (learned_grows made.0 pass after made.2.learned)

-- none was made
pub made_until : (given : Option Value) (wanted : Result Value Cause) (pass after : Seen) (stop : Stop) → IsWantedOf given wanted
    → IsMadeOf wanted pass after (Err stop) → BringsUntil given pass after stop
made_until given wanted pass after (Refused cause) is made = (grows_same given pass after made.1, is.cause cause made.0)
made_until given wanted pass after RowFull is made =
    subst (λ v. GrowsWith v pass.known after.known × HasRefused v after.known after.full) (sym (is.value made.0 made.1))
    (front_grows made.0 pass after after.full made.2, stops_refused made.0 pass after after.full made.2)
made_until given wanted pass after NoPortion is made =
    (subst (λ v. GrowsWith v pass.known after.known) (sym (is.value made.0 made.1)) (front_grows made.0 pass after (λ _. after.drained) made.2), made.2.reason)
made_until given wanted pass after OutOfMemory is made = tt

-- ---- commands that define a name

-- the name got its string, or memory was wanting
pub defined_brings : (given : Option Value) (pass after : Seen) (result : Result (Unit {0}) Stop) → GrowsWith given pass.known after.known
    → IfErr result (λ stop. stop ≡ OutOfMemory) → Brings given pass after result
defined_brings given pass after (Ok done) grows none = grows
defined_brings given pass after (Err (Refused cause)) grows none = cc
defined_brings given pass after (Err RowFull) grows none = cc
defined_brings given pass after (Err NoPortion) grows none = cc
defined_brings given pass after (Err OutOfMemory) grows none = tt

all_too_long : AllTooLong ≢ TableFull
all_too_long same = cc

-- the strings cost too much
pub over_brings : (given : Option Value) (pass after : Seen) → GrowsWith given pass.known after.known → BringsUntil given pass after (Refused AllTooLong)
over_brings given pass after grows = (grows, all_too_long)

-- nothing was done
pub refused_brings : (given : Option Value) (pass : Seen) (cause : Cause) → cause ≢ TableFull → BringsUntil given pass pass (Refused cause)
refused_brings given pass cause other = (grows_same given pass pass (λ k. refl), other)

pub unread_brings : (given : Option Value) (pass : Seen) → BringsUntil given pass pass (Refused CannotRead) × BringsUntil given pass pass (Refused FileTooLong)
unread_brings given pass = (refused_brings given pass CannotRead (λ same. cc), refused_brings given pass FileTooLong (λ same. cc))

-- too many graphemes are not joined
pub limit_brings : (given : Option Value) (pass : Seen) (spent count : ℕ) (cause : Cause) → join_refusal spent count ≡ Some cause
    → BringsUntil given pass pass (Refused cause)
limit_brings given pass spent count cause refused = refused_brings given pass cause (λ full. elim (by_tests (nat_lt join_limit count) (nat_lt cost_limit (spent + count)) cause refused) [
  | inl over ↦ (let never : StringTooLong ≡ TableFull = sym over.1 ∙ full in cc)
  | inr much ↦ (let never : AllTooLong ≡ TableFull = sym much.2 ∙ full in cc)
])

-- a text whose string was not made, and may cost too much
text_until : (value : Value) (pass after : Seen) (stop told : Stop) (over : Bool) → IsMadeOf (unless_long value) pass after (Err stop)
    → BringsUntil (if_short value) pass after stop → IsStopAfter over stop told → BringsUntil (if_short value) pass after told
text_until value pass after (Refused cause) told over made until is =
    let long = unless_long-err value cause made.0 in by long.0 over (subst (λ c. IsStopAfter over (Refused c) told) long.2 is)
  where
    by : (at : ℕ) (b : Bool) → IsStopAfter b (Refused (ClusterTooLong at)) told → BringsUntil (if_short value) pass after told
    by at true stops = rw stops (over_brings (if_short value) pass after until.0)
    by at false stops = rw stops (until.0, λ full. let never : ClusterTooLong at ≡ TableFull = full in cc)
text_until value pass after RowFull told true made until is = rw is (over_brings (if_short value) pass after until.0)
text_until value pass after RowFull told false made until is = rw is until
text_until value pass after NoPortion told true made until is = rw is (over_brings (if_short value) pass after until.0)
text_until value pass after NoPortion told false made until is = rw is until
text_until value pass after OutOfMemory told over made until is = rw is tt

-- a file whose string was not made
pub file_until : (pass after : Seen) (stop told : Stop) (over : Bool) (decoded : Decoded) → IsMadeOf (file_value decoded) pass after (Err stop)
    → IsStopAfter over stop told → BringsUntil (decoded_value decoded) pass after told
file_until pass after stop told over (Ok text) made is =
    let value = flat (graphemes_of text) in text_until value pass after stop told over made (made_until (if_short value) (unless_long value) pass after stop (long_wanted value) made) is
file_until pass after (Refused cause) told over (Err at) made is =
    let cause_is : cause ≡ Malformed at = let so = made.0 in cc in
    let told_is : told ≡ Refused (Malformed at) = subst (λ c. IsStopAfter over (Refused c) told) cause_is is in
    rw told_is (grows_same None pass after made.1, λ full. cc)
file_until pass after RowFull told over (Err at) made is = let never = made.1 in cc
file_until pass after NoPortion told over (Err at) made is = let never = made.1 in cc
file_until pass after OutOfMemory told over (Err at) made is = rw is tt

-- ---- commands that intern nothing

-- the step is never refused for want of places
abbrev pub NeverFull : Result State Cause → Type 0
NeverFull step = (cause : Cause) → step ≡ Err cause → cause ≢ TableFull

print_never : (over : Bool) (next : State) → NeverFull (if over then Err OutputTooLong else Ok next)
print_never true next cause e full = let never : OutputTooLong ≡ TableFull = (let same : OutputTooLong ≡ cause = cc in same ∙ full) in cc
print_never false next cause e full = cc

pub print_never_full : (state : State) (bytes : List ℕ) → NeverFull (print state bytes)
print_never_full state bytes = print_never (nat_lt output_limit (length (state.output ++ bytes))) (record state { output = state.output ++ bytes })

pub put_never_full : (state : State) (bytes : List ℕ) (first : Option ℕ) → NeverFull (put state bytes first)
put_never_full state bytes None = print_never_full state bytes
put_never_full state bytes (Some at) = λ cause e full. let never : NotEncodable at ≡ TableFull = (let same : NotEncodable at ≡ cause = cc in same ∙ full) in cc

part_never : (past over : Bool) (next : State) → NeverFull (if past then Err OutOfRange else (if over then Err AllTooLong else Ok next))
part_never true over next cause e full = let never : OutOfRange ≡ TableFull = (let same : OutOfRange ≡ cause = cc in same ∙ full) in cc
part_never false true next cause e full = let never : AllTooLong ≡ TableFull = (let same : AllTooLong ≡ cause = cc in same ∙ full) in cc
part_never false false next cause e full = cc

pub part_never_full : (state : State) (value : Value) (start count : ℕ) → NeverFull (define_part state value start count)
part_never_full state value start count =
    part_never (nat_lt (length value.clusters) start) (nat_lt cost_limit (state.spent + length (part value start count).clusters))
    (record state { values = state.values ++ part value start count ∷ []; spent = state.spent + length (part value start count).clusters })

pub does_brings : (given : Option Value) (pass after : Seen) (reads : List FileRead) (used : List (List ℕ)) (old new : Evaluation) (result : Result (Unit {0}) Stop) (step : Result State Cause)
    → NeverFull step → HasAsked pass after → Does pass.known reads used old new result step → Brings given pass after result
does_brings given pass after reads used old new (Ok done) step other asked d = grows_same given pass after asked.known
does_brings given pass after reads used old new (Err (Refused cause)) step other asked d = (grows_same given pass after asked.known, other cause d.0)
does_brings given pass after reads used old new (Err RowFull) step other asked d = absurd d
does_brings given pass after reads used old new (Err NoPortion) step other asked d = absurd d
does_brings given pass after reads used old new (Err OutOfMemory) step other asked d = tt
