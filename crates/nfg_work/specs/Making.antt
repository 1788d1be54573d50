-- What comes of making the string of a value, whatever all values cost (this project's own).
use Rattle.std.specs.Prelude.{◌≡◌, ℕ, ◌+◌, ◌*◌, Bool, true, false, nat_lt, length, Some, None, Result, Ok, Err, if◌then◌else◌}
use Rattle.nfg_text.specs.Graphemes.{graphemes_of}
use Rattle.nfg_decode.specs.Decoded.{Decoded}
use Rattle.nfg_syn.specs.Known.{Texts, IsSame}
use Rattle.nfg_syn.specs.Learned.{HasLearned, StopsAt, several, first_long}
use Rattle.nfg_syn.specs.Seen.{Seen}
use Rattle.nfg_strand.specs.Value.{Rope}
use Rattle.nfg_work.specs.declared.output.Cause.{Cause}
use Rattle.nfg_work.specs.declared.output.Cause.TheVariants.{ClusterTooLong, Malformed, StringTooLong, AllTooLong}
use Rattle.nfg_work.specs.declared.stop.Stop.{Stop}
use Rattle.nfg_work.specs.declared.stop.Stop.TheVariants.{Refused, RowFull, NoPortion, OutOfMemory}
use Rattle.nfg_work.specs.Values.{Value, flat, joined, repeated}
use Rattle.nfg_work.specs.Evaluation.{join_limit}
use Rattle.nfg_work.specs.Holding.{IsStringOf}

-- the value, unless a cluster is too long
abbrev pub unless_long : Value → Result Value Cause
unless_long value = elim (first_long value.clusters) [
  | None ↦ Ok value
  | Some at ↦ Err (ClusterTooLong at)
]

-- the value of so many graphemes that are joined, unless they are too many or a cluster is too long
abbrev pub unless_many : (count : ℕ) → Value → Result Value Cause
unless_many count value = if nat_lt join_limit count then Err StringTooLong else unless_long value

-- two values, joined
abbrev pub cat_wanted : Value → Value → Result Value Cause
cat_wanted a b = unless_many (length a.clusters + length b.clusters) (joined a b)

-- a value, repeated
abbrev pub rep_wanted : Value → (times : ℕ) → Result Value Cause
rep_wanted a times = unless_many (length a.clusters * times) (repeated a times)

-- the value of what bytes decode to
abbrev pub file_value : Decoded → Result Value Cause
file_value (Ok text) = unless_long (flat (graphemes_of text))
file_value (Err at) = Err (Malformed at)

-- a pass has learned the clusters of the value, for which the string stands
pub record HasString (value : Value) (old new : Texts) (string : Rope) : Type 0 where
  pub short : first_long value.clusters ≡ None
  pub is : IsStringOf new string value
  pub learned : HasLearned old (several value.clusters) new

-- What comes of making the string of this value. Want of memory may come in place of anything.
abbrev pub IsMadeOf : Result Value Cause → (pass after : Seen) → Result Rope Stop → Type 0
IsMadeOf wanted pass after (Ok string) =
    (value : Value) × (wanted ≡ Ok value) × HasString value pass.known after.known string
IsMadeOf wanted pass after (Err (Refused cause)) = (wanted ≡ Err cause) × IsSame pass.known after.known
IsMadeOf wanted pass after (Err RowFull) =
    (value : Value) × (wanted ≡ Ok value) × StopsAt value.clusters pass.known after.known after.full
IsMadeOf wanted pass after (Err NoPortion) =
    (value : Value) × (wanted ≡ Ok value) × StopsAt value.clusters pass.known after.known (λ _. after.drained)
IsMadeOf wanted pass after (Err OutOfMemory) = Unit {0}

-- why a load that may cost too much defines no name: malformed bytes come before the cost, and the cost before the rest
abbrev pub IsStopAfter : (over : Bool) → (stop result : Stop) → Type 0
IsStopAfter over (Refused (Malformed at)) result = result ≡ Refused (Malformed at)
IsStopAfter over OutOfMemory result = result ≡ OutOfMemory
IsStopAfter true stop result = result ≡ Refused AllTooLong
IsStopAfter false stop result = result ≡ stop
