-- A job that is done gives what is right, and brings nothing but what is reachable.
use Rattle.std.proofs.Common.{◌≡◌, ◌⊎◌, inl, inr, ℕ, suc, ◌+◌, ◌*◌, ◌<◌, ◌≤◌, Bool, true, false, nat_lt, List, [], ◌∷◌, ◌++◌, length, take, drop, get_or, slice_get, bytes_eq, Option, Some, None, IfSome, IfOk, OnOk, Result, Ok, Err, if◌then◌else◌, refl, sym, ap, ap₂, ◌∙◌, subst, arith, drop-cons, append-nil}
use Rattle.std.proofs.lemmas.Bool.{and_parts, ltb-true, le-ltb}
use Rattle.std.proofs.lemmas.Option.{slice_get-get_or}
use Rattle.std.specs.Set.{is_member}
use Rattle.std.specs.declared.alloc.AllocError.{AllocError}
use Rattle.nfg_text.specs.Graphemes.{graphemes_of}
use Rattle.nfg_decode.specs.declared.encoding.Encoding.{Encoding}
use Rattle.nfg_decode.specs.Decoded.{Decoded}
use Rattle.nfg_decode.specs.Encoding.{decode}
use Rattle.nfg_syn.specs.Known.{Texts, IsSame}
use Rattle.nfg_syn.specs.Learned.{HasLearned, several, is_several}
use Rattle.nfg_syn.specs.RepresentsLaws.{Represents-length}
use Rattle.nfg_syn.specs.Seen.{Seen}
use Rattle.nfg_strand.specs.Value.{Rope}
use Rattle.nfg_script.specs.declared.command.Command.{Command}
use Rattle.nfg_script.specs.declared.command.Command.TheVariants.{Load, Text, Cat, Sub, Rep}
use Rattle.nfg_script.specs.Script.{NumberedCommand}
use Rattle.nfg_work.specs.declared.output.Cause.{Cause}
use Rattle.nfg_work.specs.declared.output.Cause.TheVariants.{StringTooLong}
use Rattle.nfg_work.specs.declared.output.FileRead.{FileRead}
use Rattle.nfg_work.specs.declared.output.FileRead.TheVariants.{Bytes}
use Rattle.nfg_work.specs.declared.plan.Plan.{Plan}
use Rattle.nfg_work.specs.declared.outcome.Outcome.{Outcome}
use Rattle.nfg_work.specs.declared.outcome.Outcome.TheVariants.{Nothing, Made}
use Rattle.nfg_work.specs.declared.stop.Stop.{Stop}
use Rattle.nfg_work.specs.declared.stop.Stop.TheVariants.{Refused, RowFull, NoPortion, OutOfMemory}
use Rattle.nfg_work.specs.Values.{Value, flat, part, joined, repeated}
use Rattle.nfg_work.specs.Evaluation.{join_limit}
use Rattle.nfg_work.specs.Holding.{IsStringOf}
use Rattle.nfg_work.specs.Making.{IsMadeOf, unless_long, cat_wanted, rep_wanted, file_value}
use Rattle.nfg_work.specs.Planned.{loads_in, IsPlan, IsDefinition}
use Rattle.nfg_work.specs.Reach.{Reached, if_short, decoded_value, load_value, cat_value, sub_value, rep_value, value_of, IsReachable}
use Rattle.nfg_work.specs.Outcomes.{reached_at, given_value, IsOutcomeOf, IsRightAt, AreRight, GrowsBy}
use Rattle.nfg_work.specs.Jobs.{IsStringAt, IsOutcomeFor, IsJobDone}
use Rattle.nfg_work.proofs.Growth.{growth_same}
use Rattle.nfg_work.proofs.Answered.{command_at, command_is}
use Rattle.nfg_work.proofs.InUse.{learned_back}
use Rattle.nfg_work.proofs.Members.{is_member-front, is_member-kept}
use Rattle.nfg_work.proofs.Wanted.{unless_long-ok}
use Rattle.nfg_work.proofs.ReachedAt.{reads_at, value_before, of_given, given_defines}
use Rattle.nfg_work.proofs.ReachedInNfg.{reached_in_nfg}

-- ---- what becomes known

-- nothing becomes known
pub grows_none : (script : List NumberedCommand) (reads : List FileRead) (old new : Texts) → IsSame old new → GrowsBy script reads old new
grows_none script reads = growth_same (IsReachable script reads)

-- clusters of the value of a command become known
grows_given : (script : List NumberedCommand) (reads : List FileRead) (k : ℕ) (numbered : NumberedCommand) (value : Value) (front rest : List (List ℕ)) (old new : Texts)
    → slice_get script k ≡ Some numbered → given_value (reached_at script reads k) numbered numbered.command ≡ Some value → value.clusters ≡ front ++ rest
    → HasLearned old (several front) new → GrowsBy script reads old new
grows_given script reads k numbered value front rest old new at given parts learned m t e =
    by (learned_back (several front) old new learned m t e)
  where
    by : (old m ≡ Some t) ⊎ (is_member bytes_eq (several front) t ≡ true) → (old m ≡ Some t) ⊎ IsReachable script reads t
    by (inl before) = inl before
    by (inr holds) =
        let both = and_parts (is_member bytes_eq front t) (is_several t) (sym (is_member-kept is_several front t) ∙ holds) in
        let among : is_member bytes_eq value.clusters t ≡ true = ap (λ cs. is_member bytes_eq cs t) parts ∙ is_member-front front rest t both.0 in
        inr (record {
          several = ltb-true 1 (length t) both.1;
          source = inl (of_given script reads k numbered value t at
              (given_defines (reached_at script reads k) numbered numbered.command value given) given among);
        })

-- ---- what is right

same_numbered : (a b : NumberedCommand) → Some a ≡ Some b → a ≡ b
same_numbered a b e = cc

-- what is right for the command that stands there
right_there : (known : Texts) (script : List NumberedCommand) (reads : List FileRead) (k : ℕ) (numbered : NumberedCommand) (outcome : Outcome)
    → slice_get script k ≡ Some numbered → IsOutcomeOf known (reached_at script reads k) numbered numbered.command outcome
    → IsRightAt known script reads k outcome
right_there known script reads k numbered outcome at is other here =
    subst (λ n. IsOutcomeOf known (reached_at script reads k) n n.command outcome) (same_numbered numbered other (sym at ∙ here)) is

-- a job that gives nothing
pub nothing_done : (script : List NumberedCommand) (reads : List FileRead) (k : ℕ) (old new : Texts) → IsSame old new → IsJobDone script reads k old new (Ok Nothing)
nothing_done script reads k old new same = (grows_none script reads old new same, λ numbered here. tt)

-- a job that makes a string does what its command is for, where the value that is wanted is the one that the command gives
pub made_done : (script : List NumberedCommand) (reads : List FileRead) (k : ℕ) (numbered : NumberedCommand) (wanted : Result Value Cause) (pass after : Seen)
    (made : Result Rope Stop) (result : Result Outcome AllocError) → slice_get script k ≡ Some numbered
    → ((value : Value) → wanted ≡ Ok value → given_value (reached_at script reads k) numbered numbered.command ≡ Some value)
    → IsMadeOf wanted pass after made → IsOutcomeFor made result → IsJobDone script reads k pass.known after.known result
made_done script reads k numbered wanted pass after (Ok string) result at given is gives =
    let value = is.0 in
    let has = given value is.1 in
    rw gives (
      grows_given script reads k numbered value value.clusters [] pass.known after.known at has (sym (append-nil value.clusters)) is.2.learned,
      right_there after.known script reads k numbered (Made string) at (value, has, is.2.is),
    )
made_done script reads k numbered wanted pass after (Err (Refused cause)) result at given is gives =
    rw gives (nothing_done script reads k pass.known after.known is.1)
made_done script reads k numbered wanted pass after (Err RowFull) result at given is gives =
    let stops = is.2 in
    rw gives (
      grows_given script reads k numbered is.0 stops.front (stops.cluster ∷ stops.rest) pass.known after.known at (given is.0 is.1) stops.parts stops.learned,
      λ other here. tt,
    )
made_done script reads k numbered wanted pass after (Err NoPortion) result at given is gives =
    let stops = is.2 in
    rw gives (
      grows_given script reads k numbered is.0 stops.front (stops.cluster ∷ stops.rest) pass.known after.known at (given is.0 is.1) stops.parts stops.learned,
      λ other here. tt,
    )
made_done script reads k numbered wanted pass after (Err OutOfMemory) (Ok outcome) at given is gives = absurd gives
made_done script reads k numbered wanted pass after (Err OutOfMemory) (Err error) at given is gives = tt

-- a job that only asks
pub asked_done : (script : List NumberedCommand) (reads : List FileRead) (k : ℕ) (numbered : NumberedCommand) (command : Command) (old new : Texts) (outcome : Outcome)
    → slice_get script k ≡ Some numbered → numbered.command ≡ command → IsSame old new
    → IsOutcomeOf new (reached_at script reads k) numbered command outcome → IsJobDone script reads k old new (Ok outcome)
asked_done script reads k numbered command old new outcome at is same right = (
  grows_none script reads old new same,
  right_there new script reads k numbered outcome at
      (subst (λ c. IsOutcomeOf new (reached_at script reads k) numbered c outcome) (sym is) right),
)

-- ---- the value that is wanted is the one that the command gives

-- the value, where no cluster is too long
abbrev of_first : Option ℕ → Value → Option Value
of_first first value = elim first [
  | None ↦ Some value
  | Some at ↦ None
]

unless_long-given : (value v : Value) → unless_long value ≡ Ok v → if_short value ≡ Some v
unless_long-given value v e = let short = unless_long-ok value v e in ap (λ first. of_first first value) short.0 ∙ ap (λ x. Some x) short.1

unless_many-given : (over : Bool) (value v : Value) → (if over then Err StringTooLong else unless_long value) ≡ Ok v
    → (if over then None else if_short value) ≡ Some v
unless_many-given true value v e = cc
unless_many-given false value v e = unless_long-given value v e

cat_wanted-given : (a b v : Value) → cat_wanted a b ≡ Ok v → cat_value (Some a) (Some b) ≡ Some v
cat_wanted-given a b v e = unless_many-given (nat_lt join_limit (length a.clusters + length b.clusters)) (joined a b) v e

rep_wanted-given : (a v : Value) (times : ℕ) → rep_wanted a times ≡ Ok v → rep_value (Some a) times ≡ Some v
rep_wanted-given a v times e = unless_many-given (nat_lt join_limit (length a.clusters * times)) (repeated a times) v e

pub file_value-given : (decoded : Decoded) (v : Value) → file_value decoded ≡ Ok v → decoded_value decoded ≡ Some v
file_value-given (Ok text) v e = unless_long-given (flat (graphemes_of text)) v e
file_value-given (Err at) v e = cc

-- what is given where the command is this
pub given_at : (reached : Reached) (numbered : NumberedCommand) (command : Command) (value : Value) → numbered.command ≡ command
    → given_value reached numbered command ≡ Some value → given_value reached numbered numbered.command ≡ Some value
given_at reached numbered command value is given = ap (given_value reached numbered) is ∙ given

pub cat_done : (script : List NumberedCommand) (reads : List FileRead) (k name a b : ℕ) (numbered : NumberedCommand) (pass after : Seen) (left right : Rope)
    (made : Result Rope Stop) (result : Result Outcome AllocError) → slice_get script k ≡ Some numbered → numbered.command ≡ Cat name a b
    → IsStringAt pass.known script reads k a left → IsStringAt pass.known script reads k b right
    → ((x y : Value) → IsStringOf pass.known left x → IsStringOf pass.known right y → IsMadeOf (cat_wanted x y) pass after made)
    → IsOutcomeFor made result → IsJobDone script reads k pass.known after.known result
cat_done script reads k name a b numbered pass after left right made result at command is_left is_right is gives =
    let x = is_left.value in
    let y = is_right.value in
    made_done script reads k numbered (cat_wanted x y) pass after made result at
    (λ value e. given_at (reached_at script reads k) numbered (Cat name a b) value command
    (ap₂ cat_value is_left.has is_right.has ∙ cat_wanted-given x y value e))
    (is x y is_left.is is_right.is) gives

pub rep_done : (script : List NumberedCommand) (reads : List FileRead) (k name a times : ℕ) (numbered : NumberedCommand) (pass after : Seen) (string : Rope)
    (made : Result Rope Stop) (result : Result Outcome AllocError) → slice_get script k ≡ Some numbered → numbered.command ≡ Rep name a times
    → IsStringAt pass.known script reads k a string
    → ((x : Value) → IsStringOf pass.known string x → IsMadeOf (rep_wanted x times) pass after made)
    → IsOutcomeFor made result → IsJobDone script reads k pass.known after.known result
rep_done script reads k name a times numbered pass after string made result at command is_string is gives =
    let x = is_string.value in
    made_done script reads k numbered (rep_wanted x times) pass after made result at
    (λ value e. given_at (reached_at script reads k) numbered (Rep name a times) value command
    (ap (λ v. rep_value v times) is_string.has ∙ rep_wanted-given x value times e))
    (is x is_string.is) gives

pub text_done : (script : List NumberedCommand) (reads : List FileRead) (k name : ℕ) (numbered : NumberedCommand) (pass after : Seen) (codes : List ℕ)
    (made : Result Rope Stop) (result : Result Outcome AllocError) → slice_get script k ≡ Some numbered → numbered.command ≡ Text name → codes ≡ numbered.codes
    → IsMadeOf (unless_long (flat (graphemes_of codes))) pass after made → IsOutcomeFor made result → IsJobDone script reads k pass.known after.known result
text_done script reads k name numbered pass after codes made result at command same is gives =
    let value = flat (graphemes_of codes) in
    made_done script reads k numbered (unless_long value) pass after made result at
    (λ v e. given_at (reached_at script reads k) numbered (Text name) v command
    (ap (λ cs. if_short (flat (graphemes_of cs))) (sym same) ∙ unless_long-given value v e))
    is gives

-- what was read for the load at k
pub load_done : (script : List NumberedCommand) (reads : List FileRead) (k name loads : ℕ) (e : Encoding) (read : FileRead) (bytes slice : List ℕ) (numbered : NumberedCommand)
    (pass after : Seen) (made : Result Rope Stop) (result : Result Outcome AllocError) → slice_get script k ≡ Some numbered → numbered.command ≡ Load name e
    → loads ≡ loads_in (take k script) → loads < length reads → read ≡ get_or reads loads read → read ≡ Bytes bytes → slice ≡ bytes
    → IsMadeOf (file_value (decode e slice)) pass after made → IsOutcomeFor made result → IsJobDone script reads k pass.known after.known result
load_done script reads k name loads e read bytes slice numbered pass after made result at command loads_are within found is same makes gives =
    let rest = drop (suc loads) reads in
    let next : drop loads reads ≡ Bytes slice ∷ rest =
    drop-cons reads loads read within ∙ (λ i. (sym found ∙ is ∙ ap (λ b. Bytes b) (sym same)) i ∷ rest) in
    let left : (reached_at script reads k).reads ≡ Bytes slice ∷ rest =
    reads_at script reads k ∙ ap (λ n. drop n reads) (sym loads_are) ∙ next in
    made_done script reads k numbered (file_value (decode e slice)) pass after made result at
    (λ v w. given_at (reached_at script reads k) numbered (Load name e) v command (ap (load_value e) left ∙ file_value-given (decode e slice) v w))
    makes gives

-- a part of the string
pub part_done : (known : Texts) (script : List NumberedCommand) (reads : List FileRead) (k name a start count : ℕ) (numbered : NumberedCommand) (string made : Rope)
    → slice_get script k ≡ Some numbered → numbered.command ≡ Sub name a start count → (whole : IsStringAt known script reads k a string)
    → start ≤ length string.graphemes → IsStringOf known made (part whole.value start count) → IsJobDone script reads k known known (Ok (Made made))
part_done known script reads k name a start count numbered string made at command whole inside is_part =
    let long = Represents-length known string.graphemes whole.value.clusters whole.is.represents in
    let within : nat_lt (length whole.value.clusters) start ≡ false = le-ltb (length whole.value.clusters) start (omega (arith, long, inside)) in
    let given = ap (λ v. sub_value v start count) whole.has ∙ ap (λ past. if past then None else Some (part whole.value start count)) within in
    asked_done script reads k numbered (Sub name a start count) known known (Made made) at command (λ j. refl) (part whole.value start count, given, is_part)

-- ---- the string of a name

pub string_at : (known : Texts) (script : List NumberedCommand) (reads : List FileRead) (outcomes : List Outcome) (k name j : ℕ) (string : Rope)
    → IsDefinition script name j → j < k → AreRight known script reads outcomes → slice_get outcomes j ≡ Some (Made string)
    → IsStringAt known script reads k name string
string_at known script reads outcomes k name j string defined before right here =
    let numbered = defined.numbered in
    let is = right.right j (Made string) here numbered defined.here in
    let has : value_of (reached_at script reads k).values name ≡ Some is.0 =
    ap (value_of (reached_at script reads k).values) (sym defined.before)
    ∙ value_before script reads j k numbered before defined.here defined.defining ∙ is.1 in
    record {
      value = is.0;
      has = has;
      is = is.2;
      in_nfg = reached_in_nfg script reads k name is.0 has;
    }

-- the string that stands at the outcome of the name's command
pub string_found : (known : Texts) (script : List NumberedCommand) (reads : List FileRead) (outcomes : List Outcome) (k name j : ℕ) (outcome : Outcome) (string : Rope)
    → IsDefinition script name j → j < k → AreRight known script reads outcomes → j < length outcomes → outcome ≡ get_or outcomes j outcome → outcome ≡ Made string
    → IsStringAt known script reads k name string
string_found known script reads outcomes k name j outcome string defined before right within found is =
    string_at known script reads outcomes k name j string defined before right
    (slice_get-get_or outcomes j outcome within ∙ ap (λ o. Some o) (sym found ∙ is))

-- the command of a name, as the plan has it
pub definition_found : (script : List NumberedCommand) (plan : Plan) (items : List ℕ) (name at : ℕ) → IsPlan script plan → items ≡ plan.definitions.items
    → name < length items → at ≡ get_or items name at → IsDefinition script name at
definition_found script plan items name at is items_are within found =
    is.definitions name at (ap (λ v. slice_get v name) (sym items_are) ∙ slice_get-get_or items name at within ∙ ap (λ a. Some a) (sym found))

-- how many loads stand before a command, as the plan has it
pub loads_found : (script : List NumberedCommand) (plan : Plan) (k loads : ℕ) → IsPlan script plan → k < length script → loads ≡ get_or plan.loads_before.items k loads
    → loads ≡ loads_in (take k script)
loads_found script plan k loads is within found =
    let all = is.all_commands in
    is.loads_before k loads (slice_get-get_or plan.loads_before.items k loads (omega (arith, all, within)) ∙ ap (λ n. Some n) (sym found))

-- the code points of the text at a place
pub codes_are : (script : List NumberedCommand) (k : ℕ) (codes : List ℕ) (numbered : NumberedCommand) → slice_get script k ≡ Some numbered
    → IfSome (slice_get script k) (λ n. codes ≡ n.codes) → codes ≡ numbered.codes
codes_are script k codes numbered at is = subst (λ found. IfSome found (λ n. codes ≡ n.codes)) at is

-- a job does what the command that stands there asks for
pub job_at : (script : List NumberedCommand) (reads : List FileRead) (k : ℕ) (old new : Texts) (result : Result Outcome AllocError) (found command : Command)
    → k < length script → IfSome (slice_get script k) (λ n. found ≡ n.command) → found ≡ command
    → ((numbered : NumberedCommand) → slice_get script k ≡ Some numbered → numbered.command ≡ command → IsJobDone script reads k old new result)
    → IsJobDone script reads k old new result
job_at script reads k old new result found command within is same done =
    let at = command_at script k within in
    done at.0 at.1 (sym (command_is script k found at.0 at.1 is) ∙ same)

-- ---- the clauses of a job

pub job_grown : (script : List NumberedCommand) (reads : List FileRead) (k : ℕ) (old new : Texts) (result : Result Outcome AllocError)
    → IsJobDone script reads k old new result → OnOk result (GrowsBy script reads old new)
job_grown script reads k old new (Ok outcome) done = done.0
job_grown script reads k old new (Err error) done = tt

pub job_right : (script : List NumberedCommand) (reads : List FileRead) (k : ℕ) (old new : Texts) (result : Result Outcome AllocError)
    → IsJobDone script reads k old new result → IfOk result (λ outcome. IsRightAt new script reads k outcome)
job_right script reads k old new (Ok outcome) done = done.1
job_right script reads k old new (Err error) done = tt
