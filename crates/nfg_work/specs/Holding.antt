-- What an evaluation holds of a state: strings over the numbers of a table (this project's own).
use Rattle.std.specs.Prelude.{◌≡◌, ℕ, suc, ◌+◌, ◌<◌, Bool, true, false, nat_lt, List, [], ◌∷◌, ◌++◌, length, filter, take, drop, bytes_eq, Option, Some, None, Result, Ok, Err, ◌⊎◌, if◌then◌else◌}
use Rattle.std.specs.List.{AllZip}
use Rattle.std.specs.Set.{is_member}
use Rattle.nfg_decode.specs.declared.encoding.Encoding.{Encoding}
use Rattle.nfg_decode.specs.declared.encoding.Encoding.TheVariants.{Utf8, Utf16, Utf16Le, Utf16Be, Latin1}
use Rattle.nfg_decode.specs.Encoding.{encode}
use Rattle.nfg_encode.specs.Refusal.{first_lacked}
use Rattle.std.specs.declared.alloc.AllocError.{AllocError}
use Rattle.nfg_syn.specs.Known.{Texts}
use Rattle.nfg_syn.specs.Learned.{StopsAt}
use Rattle.nfg_syn.specs.Represents.{Represents}
use Rattle.nfg_syn.specs.Seen.{Seen}
use Rattle.nfg_strand.specs.Value.{Rope}
use Rattle.nfg_seam.specs.declared.error.SeamError.{SeamError}
use Rattle.nfg_seam.specs.declared.error.SeamError.TheVariants.{TooLong, ClusterLong as JoinedLong, RowFull as JoinedFull, NoPortion as NoJoinedPortion, OutOfMemory as NoJoinedMemory}
use Rattle.nfg_stream.specs.declared.error.LoadError.{LoadError}
use Rattle.nfg_stream.specs.declared.error.LoadError.TheVariants.{Malformed, ClusterLong, RowFull as LoadedFull, NoPortion as NoLoadedPortion, OutOfMemory as NoMemory}
use Rattle.nfg_work.specs.declared.evaluation.Evaluation.{Evaluation}
use Rattle.nfg_work.specs.declared.output.Cause.{Cause}
use Rattle.nfg_work.specs.declared.output.Cause.TheVariants.{StringTooLong, AllTooLong, NotEncodable, OutputTooLong, ClusterTooLong, TableFull, Malformed as TextMalformed}
use Rattle.nfg_work.specs.declared.output.FileRead.{FileRead}
use Rattle.nfg_work.specs.declared.output.Output.{Output}
use Rattle.nfg_work.specs.declared.stop.Stop.{Stop}
use Rattle.nfg_work.specs.declared.stop.Stop.TheVariants.{Refused, RowFull, NoPortion, OutOfMemory}
use Rattle.nfg_work.specs.Values.{Value}
use Rattle.nfg_work.specs.Evaluation.{State, cost_limit, join_limit, output_limit, takes_place, with_places}
use Rattle.nfg_work.specs.Laws.{AllInNfg}

-- the string stands for the value's clusters, in its pieces
pub record IsStringOf (known : Texts) (string : Rope) (value : Value) : Type 0 where
  pub represents : Represents known string.graphemes value.clusters
  pub pieces : string.pieces ≡ value.pieces

-- there is a string for each value, in order
abbrev pub AreStringsOf : Texts → List Rope → List Value → Type 0
AreStringsOf known strings values = AllZip (IsStringOf known) strings values

-- each cluster that is in use has a number, and not that of CR LF
abbrev pub AreNumbered : Texts → List (List ℕ) → Type 0
AreNumbered known used = (t : List ℕ) → is_member bytes_eq used t ≡ true → (k : ℕ) × (known (suc k) ≡ Some t)

-- what an evaluation holds of a state, where this is known of the table
pub record Holds (known : Texts) (reads : List FileRead) (held : Evaluation) (state : State) : Type 0 where
  pub strings : AreStringsOf known held.strings.items state.values
  pub used : AreNumbered known state.used
  pub spent : held.spent ≡ state.spent
  pub output : held.output ≡ state.output
  pub left : drop held.next_read reads ≡ state.reads

-- it holds some state, in which each value is a list of graphemes
abbrev pub IsHeld : Texts → List FileRead → Evaluation → Type 0
IsHeld known reads held = (state : State) × Holds known reads held state × AllInNfg state

-- A command that interns nothing does what the step does: the next state is held, in which the same clusters are in
-- use, or the line is refused for the same cause and the output stays. Want of memory may come in place of either.
abbrev pub Does : Texts → List FileRead → (used : List (List ℕ)) → (old new : Evaluation)
    → Result (Unit {0}) Stop → Result State Cause → Type 0
Does known reads used old new (Ok done) step =
    (next : State) × (step ≡ Ok next) × Holds known reads new next × (next.used ≡ used)
Does known reads used old new (Err (Refused cause)) step = (step ≡ Err cause) × (new.output ≡ old.output)
Does known reads used old new (Err RowFull) step = ⊥
Does known reads used old new (Err NoPortion) step = ⊥
Does known reads used old new (Err OutOfMemory) step = Unit {0}

-- the clusters in use stay so, and what is known besides is in use
pub record Grows (old new : Texts) (before behind : List (List ℕ)) : Type 0 where
  pub used : (t : List ℕ) → is_member bytes_eq before t ≡ true → is_member bytes_eq behind t ≡ true
  pub known : (k : ℕ) (t : List ℕ) → new (suc k) ≡ Some t → (old (suc k) ≡ Some t) ⊎ (is_member bytes_eq behind t ≡ true)

-- The table has refused a cluster of the value that the next name was to get, for a reason. Nothing but a want of places
-- refuses the step.
pub record IsRefusedBy
    (places : ℕ) (used : List (List ℕ)) (old new : Texts) (Reason : List ℕ → Type 0) (step : Result State Cause) : Type 0 where
  pub clusters : List (List ℕ)
  pub next : State
  pub step_is : step ≡ with_places places (used ++ filter takes_place clusters) next
  pub stops : StopsAt clusters old new Reason

-- A command does what the step does, over a table of so many places: the next state is held, or the line is refused for
-- the same cause and the output stays. The table's refusals and want of memory may come in place of either.
abbrev pub Follows : (places : ℕ) → (pass after : Seen) → List FileRead → (used : List (List ℕ)) → (old new : Evaluation)
    → Result (Unit {0}) Stop → Result State Cause → Type 0
Follows places pass after reads used old new (Ok done) step =
    (next : State) × (step ≡ Ok next) × Holds after.known reads new next × Grows pass.known after.known used next.used
Follows places pass after reads used old new (Err (Refused cause)) step = (step ≡ Err cause) × (new.output ≡ old.output)
Follows places pass after reads used old new (Err RowFull) step =
    IsRefusedBy places used pass.known after.known after.full step × (new.output ≡ old.output)
Follows places pass after reads used old new (Err NoPortion) step =
    IsRefusedBy places used pass.known after.known (λ _. after.drained) step × (new.output ≡ old.output)
Follows places pass after reads used old new (Err OutOfMemory) step = Unit {0}

-- why a line is refused over a table of one caller, which has no chunks to run out of
abbrev pub cause_of : Stop → Option Cause
cause_of (Refused cause) = Some cause
cause_of RowFull = Some TableFull
cause_of NoPortion = Some TableFull
cause_of OutOfMemory = None

-- what a script gives that has given these bytes and ends with this line, where it is refused
abbrev pub IsEnd : (bytes : List ℕ) → (line : ℕ) → Option Cause → Output → Type 0
IsEnd bytes line None output = ⊥
IsEnd bytes line (Some cause) output =
    output ≡ record { bytes = bytes; refused = Some (record { line = line; cause = cause }) }

-- the bytes are added to the output, unless it would be too long
abbrev pub Prints : (old new : List ℕ) → Result (Unit {0}) Stop → (bytes : List ℕ) → Type 0
Prints old new (Ok done) bytes = (nat_lt output_limit (length (old ++ bytes)) ≡ false) × (new ≡ old ++ bytes)
Prints old new (Err (Refused cause)) bytes =
    (cause ≡ OutputTooLong) × (nat_lt output_limit (length (old ++ bytes)) ≡ true) × (new ≡ old)
Prints old new (Err RowFull) bytes = ⊥
Prints old new (Err NoPortion) bytes = ⊥
Prints old new (Err OutOfMemory) bytes = Unit {0}

-- some clusters are what the numbers stand for
abbrev pub AreSpelled : Texts → Rope → Type 0
AreSpelled known string = (clusters : List (List ℕ)) × Represents known string.graphemes clusters

-- what a refusal of a table or a stream means for the command
abbrev pub IsStopOf : LoadError → Stop → Type 0
IsStopOf (Malformed at) stop = stop ≡ Refused (TextMalformed at)
IsStopOf (ClusterLong at) stop = stop ≡ Refused (ClusterTooLong at)
IsStopOf LoadedFull stop = stop ≡ RowFull
IsStopOf NoLoadedPortion stop = stop ≡ NoPortion
IsStopOf NoMemory stop = stop ≡ OutOfMemory

-- what a refusal of a seam means for the command
abbrev pub IsSeamStop : SeamError → Stop → Type 0
IsSeamStop TooLong stop = stop ≡ Refused StringTooLong
IsSeamStop (JoinedLong at) stop = stop ≡ Refused (ClusterTooLong at)
IsSeamStop JoinedFull stop = stop ≡ RowFull
IsSeamStop NoJoinedPortion stop = stop ≡ NoPortion
IsSeamStop NoJoinedMemory stop = stop ≡ OutOfMemory

-- why so many graphemes are not joined, where so much is spent: they are too many, or they cost too much
abbrev pub join_refusal : (spent count : ℕ) → Option Cause
join_refusal spent count =
    if nat_lt join_limit count then Some StringTooLong
    else (if nat_lt cost_limit (spent + count) then Some AllTooLong else None)

-- one more string stands at the end, and its cost is spent
pub record IsDefined (old new : Evaluation) (cost : ℕ) (string : Rope) : Type 0 where
  pub strings : new.strings.items ≡ old.strings.items ++ string ∷ []
  pub spent : new.spent ≡ old.spent + cost
  pub output : new.output ≡ old.output
  pub next_read : new.next_read ≡ old.next_read

-- the output is too long, and has its first `had` bytes
pub record IsRefusedAt (had : ℕ) (old new : List ℕ) (stop : Stop) : Type 0 where
  pub cause : stop ≡ Refused OutputTooLong
  pub over : output_limit < length old
  pub front : new ≡ take had old

-- the encoding of a part of a text, before which the mark stands already
abbrev pub without_mark : Encoding → Encoding
without_mark Utf8 = Utf8
without_mark Utf16 = Utf16Be
without_mark Utf16Le = Utf16Le
without_mark Utf16Be = Utf16Be
without_mark Latin1 = Latin1

-- The bytes of a text are added. Or more bytes than before may stand, and the encoding lacks a code point or the output
-- would be too long.
abbrev pub Writes : Encoding → (text old new : List ℕ) → Result Bool AllocError → Type 0
Writes e text old new (Ok true) = (first_lacked e text ≡ None) × (new ≡ old ++ encode e text)
Writes e text old new (Ok false) =
    (take (length old) new ≡ old) × (first_lacked e text ≡ None → output_limit < length (old ++ encode e text))
Writes e text old new (Err error) = Unit {0}

-- Why a string is not put: a cluster isn't encodable, or else the output would be too long.
abbrev pub IsRefusalOf : Option ℕ → Stop → Type 0
IsRefusalOf None stop = stop ≡ Refused OutputTooLong
IsRefusalOf (Some at) stop = stop ≡ Refused (NotEncodable at)

-- the bytes are added to the output, unless a cluster isn't encodable or it would be too long
abbrev pub Puts : Option ℕ → (old new : List ℕ) → Result (Unit {0}) Stop → (bytes : List ℕ) → Type 0
Puts None old new result bytes = Prints old new result bytes
Puts (Some at) old new (Ok done) bytes = ⊥
Puts (Some at) old new (Err (Refused cause)) bytes = (cause ≡ NotEncodable at) × (new ≡ old)
Puts (Some at) old new (Err RowFull) bytes = ⊥
Puts (Some at) old new (Err NoPortion) bytes = ⊥
Puts (Some at) old new (Err OutOfMemory) bytes = Unit {0}
