-- What a command prints is what the step prints, and one command after another gives what the script gives.
use Rattle.std.proofs.Common.{◌≡◌, ◌↔◌, Bool, true, false, IsTrue, bytes_eq, ℕ, zero, suc, ◌+◌, ◌<◌, ◌≤◌, IfSome, arith, nat_lt, inl, List, [], ◌∷◌, ◌++◌, length, filter, drop, slice_get, Option, Some, None, Result, Ok, Err, IfOk, refl, sym, ap, ◌∙◌, subst}
use Rattle.std.proofs.lemmas.Bool.{false_from_ne_true}
use Rattle.std.proofs.lemmas.Slice.Eq.{bytes_eq-Decides}
use Rattle.std.specs.Set.{is_member, distinct_count}
use Rattle.nfg_syn.specs.Known.{Texts}
use Rattle.nfg_syn.specs.OwnTexts.{OwnTexts, IsOwnPass, known_of, seen_of}
use Rattle.nfg_syn.specs.Seen.{Seen, IsFirst}
use Rattle.nfg_ops.specs.Reads.{HasAsked}
use Rattle.std.specs.declared.alloc.AllocError.{AllocError}
use Rattle.nfg_script.specs.declared.command.Command.{Command}
use Rattle.nfg_script.specs.Script.{NumberedCommand}
use Rattle.nfg_work.specs.declared.evaluation.Evaluation.{Evaluation}
use Rattle.nfg_work.specs.declared.output.Cause.{Cause}
use Rattle.nfg_work.specs.declared.output.Cause.TheVariants.{OutputTooLong, TableFull}
use Rattle.nfg_work.specs.declared.output.FileRead.{FileRead}
use Rattle.nfg_work.specs.declared.output.Output.{Output}
use Rattle.nfg_work.specs.declared.stop.Stop.{Stop}
use Rattle.nfg_work.specs.declared.stop.Stop.TheVariants.{Refused, RowFull, NoPortion, OutOfMemory}
use Rattle.nfg_work.specs.Evaluation.{State, takes_place, with_places, print, put, step, evaluate, evaluate_from, first_state}
use Rattle.nfg_work.specs.Holding.{Holds, Does, Follows, IsEnd, Prints, Puts, cause_of}
use Rattle.nfg_work.specs.Laws.{AllInNfg}
use Rattle.nfg_work.proofs.InNfg.{first_in_nfg, next_in_nfg}
use Rattle.nfg_work.proofs.OwnUse.{AreInUse, AreInUse-next, used_over}
use Rattle.nfg_work.proofs.Tables.{slice_get-same, asked_same}

-- the output of the state and that of the evaluation are one
over_same : (known : Texts) (reads : List FileRead) (old : Evaluation) (state : State) (bytes : List ℕ) → Holds known reads old state
    → nat_lt 268435456 (length (state.output ++ bytes)) ≡ nat_lt 268435456 (length (old.output ++ bytes))
over_same known reads old state bytes h = ap (λ v. nat_lt 268435456 (length (v ++ bytes))) (sym h.output)

-- what is printed
pub printed_does : (known : Texts) (reads : List FileRead) (old : Evaluation) (output : List ℕ) (result : Result (Unit {0}) Stop) (state : State) (bytes : List ℕ)
    → Holds known reads old state → Prints old.output output result bytes
    → Does known reads state.used old (record old { output = output }) result (print state bytes)
printed_does known reads old output (Ok done) state bytes h p =
    let fits = over_same known reads old state bytes h ∙ p.0 in (
      record state { output = state.output ++ bytes },
      rw fits refl,
      record {
        strings = h.strings;
        used = h.used;
        spent = h.spent;
        output = p.1 ∙ ap (λ v. v ++ bytes) h.output;
        left = h.left;
      },
      refl,
    )
printed_does known reads old output (Err (Refused cause)) state bytes h p =
    let over = over_same known reads old state bytes h ∙ p.1 in
    let step_is : print state bytes ≡ Err OutputTooLong = rw over refl in
    (step_is ∙ ap (λ c. Err c) (sym p.0), p.2)
printed_does known reads old output (Err RowFull) state bytes h p = p
printed_does known reads old output (Err NoPortion) state bytes h p = p
printed_does known reads old output (Err OutOfMemory) state bytes h p = tt

-- a test that holds just where two texts are one
pub same_truth : (holds : Bool) (t u : List ℕ) → IsTrue holds ↔ (t ≡ u) → holds ≡ bytes_eq t u
same_truth true t u just = sym ((bytes_eq-Decides t u).1 (just.0 refl))
same_truth false t u just = sym (false_from_ne_true (bytes_eq t u) (λ same. let never = just.1 ((bytes_eq-Decides t u).0 same) in cc))

-- what is put
pub put_does : (known : Texts) (reads : List FileRead) (old : Evaluation) (output : List ℕ) (result : Result (Unit {0}) Stop) (state : State) (bytes : List ℕ)
    (first : Option ℕ) → Holds known reads old state → Puts first old.output output result bytes
    → Does known reads state.used old (record old { output = output }) result (put state bytes first)
put_does known reads old output result state bytes None h p = printed_does known reads old output result state bytes h p
put_does known reads old output (Ok done) state bytes (Some at) h p = absurd p
put_does known reads old output (Err (Refused cause)) state bytes (Some at) h p = (ap (λ c. Err c) (sym p.0), p.1)
put_does known reads old output (Err RowFull) state bytes (Some at) h p = p
put_does known reads old output (Err NoPortion) state bytes (Some at) h p = p
put_does known reads old output (Err OutOfMemory) state bytes (Some at) h p = tt

-- a command that interns nothing
pub does_follows : (places : ℕ) (pass after : Seen) (reads : List FileRead) (used : List (List ℕ)) (old new : Evaluation) (result : Result (Unit {0}) Stop) (step : Result State Cause)
    → HasAsked pass after → Does pass.known reads used old new result step → Follows places pass after reads used old new result step
does_follows places pass after reads used old new (Ok done) step asked d = (
  d.0,
  d.1,
  (let P : Texts → Type 0 = λ known. Holds known reads new d.0 in subst P (sym (asked_same pass after asked)) d.2),
  record {
    used = λ t holds. ap (λ v. is_member bytes_eq v t) d.3 ∙ holds;
    known = λ k t e. inl (sym (asked.known (suc k)) ∙ e);
  },
)
does_follows places pass after reads used old new (Err (Refused cause)) step asked d = d
does_follows places pass after reads used old new (Err RowFull) step asked d = absurd d
does_follows places pass after reads used old new (Err NoPortion) step asked d = absurd d
does_follows places pass after reads used old new (Err OutOfMemory) step asked d = tt

-- nothing is done yet
pub Holds-first : (known : Texts) (reads : List FileRead) (held : Evaluation) → held.strings.items ≡ [] → held.spent ≡ 0 → held.output ≡ [] → held.next_read ≡ 0
    → Holds known reads held (first_state reads)
Holds-first known reads held strings spent output next = record {
  strings = rw strings tt;
  used = λ t holds. cc;
  spent = spent;
  output = output;
  left = rw next refl;
}

-- how far the script has come: what is left gives what the whole gives
pub record IsRunning (places : ℕ) (script : List NumberedCommand) (reads : List FileRead) (pass : OwnTexts) (held : Evaluation) (k : ℕ) : Type 0 where
  pub own : IsOwnPass places pass
  pub state : State
  pub holds : Holds (known_of pass.texts) reads held state
  pub in_use : AreInUse pass.texts state.used
  pub in_nfg : AllInNfg state
  pub rest : evaluate_from places state (drop k script) ≡ evaluate script reads places

pub running_first : (places : ℕ) (script : List NumberedCommand) (reads : List FileRead) (pass : OwnTexts) (held : Evaluation) → IsOwnPass places pass → pass.texts ≡ []
    → held.strings.items ≡ [] → held.spent ≡ 0 → held.output ≡ [] → held.next_read ≡ 0 → IsRunning places script reads pass held 0
unfolding evaluate
running_first places script reads pass held own texts strings spent output next = record {
  own = own;
  state = first_state reads;
  holds = Holds-first (known_of pass.texts) reads held strings spent output next;
  in_use = rw texts (record { members = λ t. refl });
  in_nfg = first_in_nfg reads;
  rest = refl;
}

pub drop-at : (script : List NumberedCommand) (k : ℕ) (numbered : NumberedCommand) → slice_get script k ≡ Some numbered → drop k script ≡ numbered ∷ drop (k + 1) script
drop-at [] k numbered e = cc
drop-at (x ∷ script) zero numbered e = let same : x ≡ numbered = cc in ap (λ v. v ∷ script) same
drop-at (x ∷ script) (suc k) numbered e =
    let more : suc k + 1 ≡ suc (k + 1) = omega arith in drop-at script k numbered e ∙ ap (λ n. numbered ∷ drop n (x ∷ script)) (sym more)

pub drop-past : (script : List NumberedCommand) (k : ℕ) → length script ≤ k → drop k script ≡ []
drop-past [] zero past = refl
drop-past [] (suc k) past = refl
drop-past (x ∷ script) zero past = absurd (omega (arith, past))
drop-past (x ∷ script) (suc k) past = drop-past script k (omega (arith, past))

-- what a step leads to
abbrev pub behind : (places : ℕ) → NumberedCommand → List NumberedCommand → (output : List ℕ) → Result State Cause → Output
behind places numbered script output result = elim result [
  | Ok next ↦ evaluate_from places next script
  | Err cause ↦ record {
    bytes = output;
    refused = Some (record { line = numbered.line; cause = cause });
  }
]

-- one command more
pub running_next : (places : ℕ) (script : List NumberedCommand) (reads : List FileRead) (pass after : OwnTexts) (held new : Evaluation) (k : ℕ) (numbered : NumberedCommand)
    (r : IsRunning places script reads pass held k) → slice_get script k ≡ Some numbered → IsOwnPass places after
    → Follows places (seen_of pass) (seen_of after) reads r.state.used held new (Ok tt) (step places r.state numbered numbered.command)
    → IsRunning places script reads after new (k + 1)
running_next places script reads pass after held new k numbered r at own f =
    let whole : evaluate_from places r.state (numbered ∷ drop (k + 1) script) ≡ evaluate script reads places =
    ap (evaluate_from places r.state) (sym (drop-at script k numbered at)) ∙ r.rest in
    let here : evaluate_from places r.state (numbered ∷ drop (k + 1) script) ≡ evaluate_from places f.0 (drop (k + 1) script) =
    ap (behind places numbered (drop (k + 1) script) r.state.output) f.1 in
    record {
      own = own;
      state = f.0;
      holds = f.2;
      in_use = AreInUse-next pass.texts after.texts r.state.used f.0.used r.in_use f.3 f.2.used;
      in_nfg = next_in_nfg places r.state f.0 numbered r.in_nfg f.1;
      rest = sym here ∙ whole;
    }

full_step : (places : ℕ) (used : List (List ℕ)) (next : State) → nat_lt places (distinct_count bytes_eq used) ≡ true → with_places places used next ≡ Err TableFull
full_step places used next full = rw full refl

-- over a table of one caller a line is refused for the cause of the step
own_refused : (places : ℕ) (pass after : OwnTexts) (reads : List FileRead) (used : List (List ℕ)) (old new : Evaluation) (stop : Stop) (cause : Cause) (step : Result State Cause)
    → cause_of stop ≡ Some cause → IsOwnPass places after → AreInUse pass.texts used
    → Follows places (seen_of pass) (seen_of after) reads used old new (Err stop) step → (step ≡ Err cause) × (new.output ≡ old.output)
own_refused places pass after reads used old new (Refused c) cause step e own in_use f = let same : c ≡ cause = cc in (f.0 ∙ ap (λ x. Err x) same, f.1)
own_refused places pass after reads used old new RowFull cause step e own in_use f =
    let by = f.0 in
    let stops = by.stops in
    let over = used_over places pass.texts after.texts used stops.front stops.rest stops.cluster own.lawful in_use stops.learned stops.unknown stops.needs_number
    (λ k within. stops.reason.taken k (subst (λ n. k < n) (sym own.same_size) within)) in
    let all : nat_lt places (distinct_count bytes_eq (used ++ filter takes_place by.clusters)) ≡ true =
    ap (λ v. nat_lt places (distinct_count bytes_eq (used ++ filter takes_place v))) stops.parts ∙ over in
    let same : TableFull ≡ cause = cc in
    (by.step_is ∙ full_step places (used ++ filter takes_place by.clusters) by.next all ∙ ap (λ x. Err x) same, f.1)
own_refused places pass after reads used old new NoPortion cause step e own in_use f = absurd f.0.stops.reason
own_refused places pass after reads used old new OutOfMemory cause step e own in_use f = cc

-- the refused command ends it
running_refused : (places : ℕ) (script : List NumberedCommand) (reads : List FileRead) (pass after : OwnTexts) (held new : Evaluation) (k : ℕ) (numbered : NumberedCommand) (stop : Stop)
    (cause : Cause) (line : ℕ) (r : IsRunning places script reads pass held k) → slice_get script k ≡ Some numbered → line ≡ numbered.line → cause_of stop ≡ Some cause
    → IsOwnPass places after
    → Follows places (seen_of pass) (seen_of after) reads r.state.used held new (Err stop) (step places r.state numbered numbered.command)
    → record { bytes = new.output; refused = Some (record { line = line; cause = cause }) } ≡ evaluate script reads places
running_refused places script reads pass after held new k numbered stop cause line r at line_is cause_is own f =
    let refused = own_refused places pass after reads r.state.used held new stop cause (step places r.state numbered numbered.command) cause_is own r.in_use f in
    let whole : evaluate_from places r.state (numbered ∷ drop (k + 1) script) ≡ evaluate script reads places =
    ap (evaluate_from places r.state) (sym (drop-at script k numbered at)) ∙ r.rest in
    let here : evaluate_from places r.state (numbered ∷ drop (k + 1) script)
    ≡ record { bytes = r.state.output; refused = Some (record { line = numbered.line; cause = cause }) } =
    ap (behind places numbered (drop (k + 1) script) r.state.output) refused.0 in
    (λ i. let output : Output = record { bytes = (refused.1 ∙ r.holds.output) i; refused = Some (record { line = line_is i; cause = cause }) } in output) ∙ sym here ∙ whole

-- what a script gives that ends with a line is what the definition gives
pub ended_is : (places : ℕ) (script : List NumberedCommand) (reads : List FileRead) (pass after : OwnTexts) (held new : Evaluation) (k : ℕ) (numbered : NumberedCommand) (stop : Stop)
    (line : ℕ) (r : IsRunning places script reads pass held k) (result : Result Output AllocError) → slice_get script k ≡ Some numbered → line ≡ numbered.line → IsOwnPass places after
    → Follows places (seen_of pass) (seen_of after) reads r.state.used held new (Err stop) (step places r.state numbered numbered.command)
    → IfOk result (IsEnd new.output line (cause_of stop)) → IfOk result (λ output. output ≡ evaluate script reads places)
ended_is places script reads pass after held new k numbered stop line r (Err error) at line_is own f is = tt
ended_is places script reads pass after held new k numbered stop line r (Ok output) at line_is own f is = by (cause_of stop) refl is
  where
    by : (o : Option Cause) → cause_of stop ≡ o → IsEnd new.output line o output → output ≡ evaluate script reads places
    by None cause_is end = absurd end
    by (Some cause) cause_is end = end ∙ running_refused places script reads pass after held new k numbered stop cause line r at line_is cause_is own f

pub command_is : (script : List NumberedCommand) (k : ℕ) (command : Command) (numbered : NumberedCommand) → slice_get script k ≡ Some numbered
    → IfSome (slice_get script k) (λ n. command ≡ n.command) → command ≡ numbered.command
command_is script k command numbered here is = rw here at is

-- a command that interns nothing does what the step of the command at its place does
pub step_follows : (places : ℕ) (pass after : Seen) (reads : List FileRead) (script : List NumberedCommand) (k : ℕ) (old new : Evaluation) (result : Result (Unit {0}) Stop)
    (state : State) (numbered : NumberedCommand) (found command : Command) → HasAsked pass after → slice_get script k ≡ Some numbered
    → IfSome (slice_get script k) (λ n. found ≡ n.command) → found ≡ command → Does pass.known reads state.used old new result (step places state numbered command)
    → Follows places pass after reads state.used old new result (step places state numbered numbered.command)
step_follows places pass after reads script k old new result state numbered found command asked here is same does =
    let there : command ≡ numbered.command = sym same ∙ command_is script k found numbered here is in
    subst (λ c. Follows places pass after reads state.used old new result (step places state numbered c)) there
    (does_follows places pass after reads state.used old new result (step places state numbered command) asked does)

-- all commands are done
pub running_done : (places : ℕ) (script : List NumberedCommand) (reads : List FileRead) (pass : OwnTexts) (held : Evaluation) (k : ℕ) → IsRunning places script reads pass held k
    → length script ≤ k → record { bytes = held.output; refused = None } ≡ evaluate script reads places
running_done places script reads pass held k r past =
    let whole : evaluate_from places r.state [] ≡ evaluate script reads places = ap (evaluate_from places r.state) (sym (drop-past script k past)) ∙ r.rest in
    (λ i. let output : Output = record { bytes = r.holds.output i; refused = None } in output) ∙ whole

-- there is a command at each place below the length
pub command_at : (script : List NumberedCommand) (k : ℕ) → k < length script → (numbered : NumberedCommand) × (slice_get script k ≡ Some numbered)
command_at [] k within = absurd (omega (arith, within))
command_at (x ∷ script) zero within = (x, refl)
command_at (x ∷ script) (suc k) within = command_at script k (omega (arith, within))

pub line_at : (script : List NumberedCommand) (k line : ℕ) (numbered : NumberedCommand) → slice_get script k ≡ Some numbered
    → IfSome (slice_get script k) (λ n. line ≡ n.line) → line ≡ numbered.line
line_at script k line numbered here is = rw here at is

-- the pass of a new table has no texts
pub texts-first : (pass : OwnTexts) → IsFirst (seen_of pass) → pass.texts ≡ []
texts-first pass first = slice_get-same pass.texts [] (λ k. first.known (suc k))
