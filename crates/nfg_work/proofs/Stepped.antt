-- The command at a place of a script, what its job has given, and what it does.
use Rattle.std.proofs.Common.{◌≡◌, ℕ, List, slice_get, Some, IfSome, Result, sym, ◌∙◌, subst}
use Rattle.nfg_text.specs.Graphemes.{graphemes_of}
use Rattle.nfg_decode.specs.declared.encoding.Encoding.{Encoding}
use Rattle.nfg_syn.specs.Known.{Texts}
use Rattle.nfg_syn.specs.Seen.{Seen}
use Rattle.nfg_script.specs.declared.command.Command.{Command}
use Rattle.nfg_script.specs.declared.command.Command.TheVariants.{Load, Text, Cat, Sub, Rep}
use Rattle.nfg_script.specs.Script.{NumberedCommand}
use Rattle.nfg_work.specs.declared.evaluation.Evaluation.{Evaluation}
use Rattle.nfg_work.specs.declared.outcome.Outcome.{Outcome}
use Rattle.nfg_work.specs.declared.output.FileRead.{FileRead}
use Rattle.nfg_work.specs.declared.stop.Stop.{Stop}
use Rattle.nfg_work.specs.Evaluation.{State, step, value_of}
use Rattle.nfg_work.specs.Holding.{Follows}
use Rattle.nfg_work.specs.Outcomes.{IsOutcomeOf, given_value}
use Rattle.nfg_work.specs.Values.{flat}
use Rattle.nfg_work.specs.Making.{unless_long, cat_wanted, rep_wanted}
use Rattle.nfg_work.specs.Given.{reached_of, Brings, IsAlreadyMade, made_of, load_wanted, part_wanted}
use Rattle.nfg_work.proofs.Answered.{command_is}
use Rattle.nfg_work.proofs.Taken.{load_taken, text_taken, cat_taken, rep_taken, sub_taken}

-- the command that was found is the one at the place
pub command_there : (script : List NumberedCommand) (k : ℕ) (numbered : NumberedCommand) (found command : Command) → slice_get script k ≡ Some numbered
    → IfSome (slice_get script k) (λ n. found ≡ n.command) → found ≡ command → command ≡ numbered.command
command_there script k numbered found command here is same = sym same ∙ command_is script k found numbered here is

-- and the code points that were found are those at the place
pub codes_there : (script : List NumberedCommand) (k : ℕ) (numbered : NumberedCommand) (codes : List ℕ) → slice_get script k ≡ Some numbered
    → IfSome (slice_get script k) (λ n. codes ≡ n.codes) → codes ≡ numbered.codes
codes_there script k numbered codes here is = rw here at is

-- what its job has given is of the command that was found
pub outcome_there : (known : Texts) (state : State) (numbered : NumberedCommand) (command : Command) (outcome : Outcome) → command ≡ numbered.command
    → IsOutcomeOf known (reached_of state) numbered numbered.command outcome → IsOutcomeOf known (reached_of state) numbered command outcome
outcome_there known state numbered command outcome same right = subst (λ c. IsOutcomeOf known (reached_of state) numbered c outcome) (sym same) right

-- what the command that was found does is done by the one at the place
pub follows_there : (places : ℕ) (pass after : Seen) (reads : List FileRead) (old new : Evaluation) (result : Result (Unit {0}) Stop) (state : State) (numbered : NumberedCommand) (command : Command)
    → command ≡ numbered.command → Follows places pass after reads state.used old new result (step places state numbered command)
    → Follows places pass after reads state.used old new result (step places state numbered numbered.command)
follows_there places pass after reads old new result state numbered command same follows =
    subst (λ c. Follows places pass after reads state.used old new result (step places state numbered c)) same follows

pub brings_there : (pass after : Seen) (result : Result (Unit {0}) Stop) (state : State) (numbered : NumberedCommand) (command : Command)
    → command ≡ numbered.command → Brings (given_value (reached_of state) numbered command) pass after result
    → Brings (given_value (reached_of state) numbered numbered.command) pass after result
brings_there pass after result state numbered command same brings =
    subst (λ c. Brings (given_value (reached_of state) numbered c) pass after result) same brings

-- what its job has made is what the command wants
pub load_there : (known : Texts) (state : State) (numbered : NumberedCommand) (name : ℕ) (e : Encoding) (outcome : Outcome)
    → Load name e ≡ numbered.command → IsOutcomeOf known (reached_of state) numbered numbered.command outcome
    → IsAlreadyMade (load_wanted e state.reads) known (made_of outcome)
load_there known state numbered name e outcome there right =
    load_taken known state numbered name e outcome (outcome_there known state numbered (Load name e) outcome there right)

pub text_there : (known : Texts) (state : State) (numbered : NumberedCommand) (name : ℕ) (outcome : Outcome)
    → Text name ≡ numbered.command → IsOutcomeOf known (reached_of state) numbered numbered.command outcome
    → IsAlreadyMade (unless_long (flat (graphemes_of numbered.codes))) known (made_of outcome)
text_there known state numbered name outcome there right =
    text_taken known state numbered name outcome (outcome_there known state numbered (Text name) outcome there right)

pub cat_there : (known : Texts) (state : State) (numbered : NumberedCommand) (name a b : ℕ) (outcome : Outcome)
    → Cat name a b ≡ numbered.command → IsOutcomeOf known (reached_of state) numbered numbered.command outcome
    → IsAlreadyMade (cat_wanted (value_of state a) (value_of state b)) known (made_of outcome)
cat_there known state numbered name a b outcome there right =
    cat_taken known state numbered name a b outcome (outcome_there known state numbered (Cat name a b) outcome there right)

pub rep_there : (known : Texts) (state : State) (numbered : NumberedCommand) (name a count : ℕ) (outcome : Outcome)
    → Rep name a count ≡ numbered.command → IsOutcomeOf known (reached_of state) numbered numbered.command outcome
    → IsAlreadyMade (rep_wanted (value_of state a) count) known (made_of outcome)
rep_there known state numbered name a count outcome there right =
    rep_taken known state numbered name a count outcome (outcome_there known state numbered (Rep name a count) outcome there right)

pub sub_there : (known : Texts) (state : State) (numbered : NumberedCommand) (name a start count : ℕ) (outcome : Outcome)
    → Sub name a start count ≡ numbered.command → IsOutcomeOf known (reached_of state) numbered numbered.command outcome
    → IsAlreadyMade (part_wanted (value_of state a) start count) known (made_of outcome)
sub_there known state numbered name a start count outcome there right =
    sub_taken known state numbered name a start count outcome (outcome_there known state numbered (Sub name a start count) outcome there right)
