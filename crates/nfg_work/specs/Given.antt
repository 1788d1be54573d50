-- What a command takes from its job, and what it brings into a table (this project's own).
use Rattle.std.specs.Prelude.{◌≡◌, ◌≢◌, ℕ, ◌<◌, ◌≤◌, ◌⊎◌, Bool, true, nat_lt, List, [], ◌∷◌, map, length, bytes_eq, Option, Some, None, Result, Ok, Err, if◌then◌else◌}
use Rattle.std.specs.Set.{is_member}
use Rattle.std.specs.declared.cmp.Ordering.{Ordering}
use Rattle.nfg_decode.specs.declared.encoding.Encoding.{Encoding}
use Rattle.nfg_decode.specs.Encoding.{decode}
use Rattle.nfg_syn.specs.Known.{Texts, IsUnknown}
use Rattle.nfg_syn.specs.Seen.{Seen}
use Rattle.nfg_strand.specs.Value.{Rope}
use Rattle.nfg_work.specs.declared.outcome.Outcome.{Outcome}
use Rattle.nfg_work.specs.declared.outcome.Outcome.TheVariants.{Made, Found, Compared, Ordered}
use Rattle.nfg_work.specs.declared.output.Cause.{Cause}
use Rattle.nfg_work.specs.declared.output.Cause.TheVariants.{CannotRead, FileTooLong, OutOfRange, TableFull}
use Rattle.nfg_work.specs.declared.output.FileRead.{FileRead}
use Rattle.nfg_work.specs.declared.output.FileRead.TheVariants.{Bytes, TooLong, Failed}
use Rattle.nfg_work.specs.declared.stop.Stop.{Stop}
use Rattle.nfg_work.specs.declared.stop.Stop.TheVariants.{Refused, RowFull, NoPortion, OutOfMemory}
use Rattle.nfg_work.specs.Values.{Value, part}
use Rattle.nfg_work.specs.Evaluation.{State}
use Rattle.nfg_work.specs.Holding.{IsStringOf}
use Rattle.nfg_work.specs.Making.{file_value}
use Rattle.nfg_work.specs.Reach.{Reached}

-- what the names of a state have, where each has a value, and what was read for the loads to come
abbrev pub reached_of : State → Reached
reached_of state = record { values = map (λ value. Some value) state.values; reads = state.reads }

-- the string that a job has made
abbrev pub made_of : Outcome → Option Rope
made_of (Made string) = Some string
made_of _ = None

-- the place, or none, that a job has found
abbrev pub place_of : Outcome → Option (Option ℕ)
place_of (Found place) = Some place
place_of _ = None

-- whether two texts are canonically equivalent, as a job has found
abbrev pub equivalence_of : Outcome → Option Bool
equivalence_of (Compared holds) = Some holds
equivalence_of _ = None

-- the order of two texts that a job has found
abbrev pub order_of : Outcome → Option Ordering
order_of (Ordered ordering) = Some ordering
order_of _ = None

-- a string that a job has made, where there is one, stands for the value that is wanted
abbrev pub IsAlreadyMade : Result Value Cause → Texts → Option Rope → Type 0
IsAlreadyMade wanted known None = Unit {0}
IsAlreadyMade wanted known (Some string) = (value : Value) × (wanted ≡ Ok value) × IsStringOf known string value

-- what a job has found, where it has, is the answer
abbrev pub IsAlreadyFound : {X : Type 0} → X → Option X → Type 0
IsAlreadyFound answer None = Unit {0}
IsAlreadyFound answer (Some found) = found ≡ answer

-- a part of a value, unless the start is past the end
abbrev pub part_wanted : Value → (start count : ℕ) → Result Value Cause
part_wanted value start count =
    if nat_lt (length value.clusters) start then Err OutOfRange else Ok (part value start count)

-- the value of what was read, or the cause that there is none
abbrev pub read_wanted : Encoding → FileRead → Result Value Cause
read_wanted e (Bytes bytes) = file_value (decode e bytes)
read_wanted e TooLong = Err FileTooLong
read_wanted e Failed = Err CannotRead

-- the value of the next file
abbrev pub load_wanted : Encoding → List FileRead → Result Value Cause
load_wanted e [] = Err CannotRead
load_wanted e (read ∷ reads) = read_wanted e read

-- What comes of making the string of a part. Want of memory may come in place of anything.
abbrev pub IsPartOf : Texts → Rope → Value → (start count : ℕ) → Result Rope Stop → Type 0
IsPartOf known string value start count (Ok made) =
    (start ≤ length string.graphemes) × IsStringOf known made (part value start count)
IsPartOf known string value start count (Err (Refused cause)) =
    (cause ≡ OutOfRange) × (length string.graphemes < start)
IsPartOf known string value start count (Err RowFull) = ⊥
IsPartOf known string value start count (Err NoPortion) = ⊥
IsPartOf known string value start count (Err OutOfMemory) = Unit {0}

-- the text is a cluster of the value, where there is one
abbrev pub IsClusterOf : Option Value → List ℕ → Type 0
IsClusterOf None t = ⊥
IsClusterOf (Some value) t = is_member bytes_eq value.clusters t ≡ true

-- what is known besides are clusters of the value
abbrev pub GrowsWith : Option Value → (old new : Texts) → Type 0
GrowsWith value old new = (k : ℕ) (t : List ℕ) → new k ≡ Some t → (old k ≡ Some t) ⊎ IsClusterOf value t

-- the table has refused a cluster of the value, for a reason
pub record HasRefused (value : Option Value) (known : Texts) (Reason : List ℕ → Type 0) : Type 0 where
  pub cluster : List ℕ
  pub among : IsClusterOf value cluster
  pub needs_number : 1 < length cluster
  pub unknown : IsUnknown known cluster
  pub reason : Reason cluster

-- What a command that stops has brought into a table: clusters of the value that it was to give. It is never refused for
-- want of places by itself. Want of memory leaves all open.
abbrev pub BringsUntil : Option Value → (pass after : Seen) → Stop → Type 0
BringsUntil value pass after (Refused cause) = GrowsWith value pass.known after.known × (cause ≢ TableFull)
BringsUntil value pass after RowFull = GrowsWith value pass.known after.known × HasRefused value after.known after.full
BringsUntil value pass after NoPortion = GrowsWith value pass.known after.known × after.drained
BringsUntil value pass after OutOfMemory = Unit {0}

-- what a command brings into a table: clusters of the value that it gives, where it gives one
abbrev pub Brings : Option Value → (pass after : Seen) → Result (Unit {0}) Stop → Type 0
Brings value pass after (Ok done) = GrowsWith value pass.known after.known
Brings value pass after (Err stop) = BringsUntil value pass after stop
