-- How far the answers of a script have come, and how they end.
use Rattle.std.proofs.Common.{◌≡◌, ℕ, zero, suc, ◌+◌, ◌≤◌, inl, List, [], ◌∷◌, length, take, drop, slice_get, Some, None, Result, Ok, Err, IfOk, refl, sym, ap, ◌∙◌, subst, arith}
use Rattle.nfg_syn.specs.declared.synthetics.InternError.{InternError}
use Rattle.nfg_syn.specs.Known.{IsKnowledge}
use Rattle.nfg_syn.specs.Seen.{Seen, Keeps, SameCounts}
use Rattle.nfg_syn.specs.SeenLaws.{Keeps-refl, Keeps-trans, SameCounts-refl, SameCounts-trans}
use Rattle.nfg_script.specs.Script.{NumberedCommand}
use Rattle.nfg_work.specs.declared.evaluation.Evaluation.{Evaluation}
use Rattle.nfg_work.specs.declared.outcome.Outcome.{Outcome}
use Rattle.nfg_work.specs.declared.output.Cause.{Cause}
use Rattle.nfg_work.specs.declared.output.FileRead.{FileRead}
use Rattle.nfg_work.specs.declared.output.Output.{Output}
use Rattle.nfg_work.specs.declared.stop.Stop.{Stop}
use Rattle.nfg_work.specs.declared.stop.Stop.TheVariants.{Refused, RowFull, NoPortion, OutOfMemory}
use Rattle.nfg_work.specs.Evaluation.{State, step, evaluate, evaluate_from, first_state}
use Rattle.nfg_work.specs.Holding.{Holds, Follows}
use Rattle.nfg_work.specs.Laws.{AllInNfg, state_after}
use Rattle.nfg_work.specs.Reach.{Reached, reach_step}
use Rattle.nfg_work.specs.Outcomes.{first_reached, reached_at, given_value, IsOutcomeOf, AreRight, GrowsBy}
use Rattle.nfg_work.specs.Given.{reached_of, Brings}
use Rattle.nfg_work.specs.Answers.{IsLast, IsAnswered, IsStopAt}
use Rattle.nfg_work.proofs.Answered.{Holds-first, drop-at, drop-past, behind}
use Rattle.nfg_work.proofs.InNfg.{first_in_nfg, next_in_nfg}
use Rattle.nfg_work.proofs.InUse.{AreNumbered-grows}
use Rattle.nfg_work.proofs.Outcomes.{reached_next, given_reachable, GrowsBy-next}
use Rattle.nfg_work.proofs.RightOutcomes.{AreRight-grows}
use Rattle.nfg_work.proofs.Reached.{HasReached, rest_of, step_reached}

-- how far the answers have come
pub record IsAnswering (places : ℕ) (script : List NumberedCommand) (reads : List FileRead) (start now : Seen) (held : Evaluation) (outcomes : List Outcome) (k : ℕ) : Type 0 where
  pub state : State
  pub holds : Holds now.known reads held state
  pub in_nfg : AllInNfg state
  pub after : state_after places (first_state reads) (take k script) ≡ Ok state
  pub rest : evaluate_from places state (drop k script) ≡ evaluate script reads places
  pub reached : HasReached (reached_at script reads k) state
  pub right : AreRight now.known script reads outcomes
  pub keeps : Keeps start now
  pub counts : SameCounts start now
  pub grown : GrowsBy script reads start.known now.known

pub answering_first : (places : ℕ) (script : List NumberedCommand) (reads : List FileRead) (pass : Seen) (held : Evaluation) (outcomes : List Outcome)
    → AreRight pass.known script reads outcomes → held.strings.items ≡ [] → held.spent ≡ 0 → held.output ≡ [] → held.next_read ≡ 0
    → IsAnswering places script reads pass pass held outcomes 0
unfolding evaluate
answering_first places script reads pass held outcomes right strings spent output next = record {
  state = first_state reads;
  holds = Holds-first pass.known reads held strings spent output next;
  in_nfg = first_in_nfg reads;
  after = refl;
  rest = refl;
  reached = record { values = refl; reads = refl };
  right = right;
  keeps = Keeps-refl pass;
  counts = SameCounts-refl pass;
  grown = λ k t e. inl e;
}

-- the names of the state are those that are reached
same_reached : (reached : Reached) (state : State) → HasReached reached state → reached ≡ reached_of state
same_reached reached state has = λ i. record { values = has.values i; reads = has.reads i }

-- what the job of the next command has given is right where the names have the values of the state
pub outcome_right : (places : ℕ) (script : List NumberedCommand) (reads : List FileRead) (start now : Seen) (held : Evaluation) (outcomes : List Outcome) (k : ℕ)
    (numbered : NumberedCommand) (outcome : Outcome) (r : IsAnswering places script reads start now held outcomes k) → slice_get script k ≡ Some numbered
    → slice_get outcomes k ≡ Some outcome → IsOutcomeOf now.known (reached_of r.state) numbered numbered.command outcome
outcome_right places script reads start now held outcomes k numbered outcome r at taken =
    subst (λ reached. IsOutcomeOf now.known reached numbered numbered.command outcome) (same_reached (reached_at script reads k) r.state r.reached)
    (r.right.right k outcome taken numbered at)

-- the value that the command gives, by name
given_at : (script : List NumberedCommand) (reads : List FileRead) (k : ℕ) (numbered : NumberedCommand) (state : State) (old new : Seen) (result : Result (Unit {0}) Stop)
    → HasReached (reached_at script reads k) state → Brings (given_value (reached_of state) numbered numbered.command) old new result
    → Brings (given_value (reached_at script reads k) numbered numbered.command) old new result
given_at script reads k numbered state old new result has brings =
    subst (λ reached. Brings (given_value reached numbered numbered.command) old new result) (sym (same_reached (reached_at script reads k) state has)) brings

-- ---- one line more

line_after : (result : Result State Cause) → (elim result [ Ok next ↦ Ok next | Err cause ↦ Err cause ]) ≡ result
line_after (Ok next) = refl
line_after (Err cause) = refl

rest_after : (places : ℕ) (lines : List NumberedCommand) (k : ℕ) (numbered : NumberedCommand) (state : State) (result : Result State Cause)
    → ((next : State) → state_after places next (take k lines) ≡ Ok state → state_after places next (take (suc k) lines) ≡ step places state numbered numbered.command)
    → rest_of places (take k lines) result ≡ Ok state → rest_of places (take (suc k) lines) result ≡ step places state numbered numbered.command
rest_after places lines k numbered state (Ok next) rest e = rest next e
rest_after places lines k numbered state (Err cause) rest e = cc

after_next : (places : ℕ) (first : State) (lines : List NumberedCommand) (k : ℕ) (numbered : NumberedCommand) (state : State) → slice_get lines k ≡ Some numbered
    → state_after places first (take k lines) ≡ Ok state → state_after places first (take (suc k) lines) ≡ step places state numbered numbered.command
after_next places first [] k numbered state at e = cc
after_next places first (x ∷ lines) zero numbered state at e =
    let same : x ≡ numbered = cc in
    let here : first ≡ state = cc in
    line_after (step places first x x.command) ∙ (λ i. step places (here i) (same i) (same i).command)
after_next places first (x ∷ lines) (suc k) numbered state at e =
    rest_after places lines k numbered state (step places first x x.command) (λ next so. after_next places next lines k numbered state at so) e

pub answering_next : (places : ℕ) (script : List NumberedCommand) (reads : List FileRead) (start old new : Seen) (held after_held : Evaluation) (outcomes left : List Outcome) (k : ℕ)
    (numbered : NumberedCommand) (r : IsAnswering places script reads start old held outcomes k) → slice_get script k ≡ Some numbered
    → IsKnowledge places new.known new.places → Keeps old new → SameCounts old new → AreRight old.known script reads left
    → Follows places old new reads r.state.used held after_held (Ok tt) (step places r.state numbered numbered.command)
    → Brings (given_value (reached_of r.state) numbered numbered.command) old new (Ok tt)
    → IsAnswering places script reads start new after_held left (k + 1)
answering_next places script reads start old new held after_held outcomes left k numbered r at knows keeps counts right f brings =
    let whole : evaluate_from places r.state (numbered ∷ drop (k + 1) script) ≡ evaluate script reads places =
    ap (evaluate_from places r.state) (sym (drop-at script k numbered at)) ∙ r.rest in
    let here : evaluate_from places r.state (numbered ∷ drop (k + 1) script) ≡ evaluate_from places f.0 (drop (k + 1) script) =
    ap (behind places numbered (drop (k + 1) script) r.state.output) f.1 in
    let more : suc k ≡ k + 1 = omega arith in
    let reached_is : reached_at script reads (k + 1) ≡ reach_step (reached_at script reads k) numbered numbered.command =
    ap (reached_at script reads) (sym more) ∙ reached_next (first_reached reads) script k numbered at in
    let reached : HasReached (reach_step (reached_at script reads k) numbered numbered.command) f.0 =
    subst (λ result. IfOk result (HasReached (reach_step (reached_at script reads k) numbered numbered.command))) f.1
    (step_reached places (reached_at script reads k) r.state numbered numbered.command r.reached) in
    record {
      state = f.0;
      holds = f.2;
      in_nfg = next_in_nfg places r.state f.0 numbered r.in_nfg f.1;
      after = ap (λ n. state_after places (first_state reads) (take n script)) (sym more) ∙ after_next places (first_state reads) script k numbered r.state at r.after ∙ f.1;
      rest = sym here ∙ whole;
      reached = subst (λ reached. HasReached reached f.0) (sym reached_is) reached;
      right = AreRight-grows old.known new.known keeps.known script reads left right;
      keeps = Keeps-trans start old new r.keeps keeps;
      counts = SameCounts-trans start old new r.counts counts;
      grown = GrowsBy-next script reads k places numbered start.known old.known new.known new.places at knows r.grown
          (given_at script reads k numbered r.state old new (Ok tt) r.reached brings);
    }

-- ---- the end

refused_output : (places : ℕ) (script : List NumberedCommand) (reads : List FileRead) (start old : Seen) (held new : Evaluation) (outcomes : List Outcome) (k : ℕ)
    (numbered : NumberedCommand) (cause : Cause) (line : ℕ) (r : IsAnswering places script reads start old held outcomes k) → slice_get script k ≡ Some numbered
    → line ≡ numbered.line → step places r.state numbered numbered.command ≡ Err cause → new.output ≡ held.output
    → record { bytes = new.output; refused = Some (record { line = line; cause = cause }) } ≡ evaluate script reads places
refused_output places script reads start old held new outcomes k numbered cause line r at line_is stops same =
    let whole : evaluate_from places r.state (numbered ∷ drop (k + 1) script) ≡ evaluate script reads places =
    ap (evaluate_from places r.state) (sym (drop-at script k numbered at)) ∙ r.rest in
    let here : evaluate_from places r.state (numbered ∷ drop (k + 1) script)
    ≡ record { bytes = r.state.output; refused = Some (record { line = numbered.line; cause = cause }) } =
    ap (behind places numbered (drop (k + 1) script) r.state.output) stops in
    (λ i. let output : Output = record { bytes = (same ∙ r.holds.output) i; refused = Some (record { line = line_is i; cause = cause }) } in output) ∙ sym here ∙ whole

-- the line at which it stops
pub answering_stopped : (places : ℕ) (script : List NumberedCommand) (reads : List FileRead) (start old new : Seen) (held after_held : Evaluation) (outcomes : List Outcome) (k : ℕ)
    (numbered : NumberedCommand) (stop : Stop) (line : ℕ) (r : IsAnswering places script reads start old held outcomes k) (result : Result Output InternError)
    → slice_get script k ≡ Some numbered → line ≡ numbered.line → IsKnowledge places new.known new.places → Keeps old new
    → Follows places old new reads r.state.used held after_held (Err stop) (step places r.state numbered numbered.command)
    → Brings (given_value (reached_of r.state) numbered numbered.command) old new (Err stop)
    → IsStopAt after_held.output line stop result → IsAnswered places script reads start new result
answering_stopped places script reads start old new held after_held outcomes k numbered (Refused cause) line r result at line_is knows keeps f brings is =
    let brought = given_at script reads k numbered r.state old new (Err (Refused cause)) r.reached brings in
    subst (IsAnswered places script reads start new) (sym is) (
      GrowsBy-next script reads k places numbered start.known old.known new.known new.places at knows r.grown brought.0,
      record {
        exact = refused_output places script reads start old held after_held outcomes k numbered cause line r at line_is f.0 f.1;
        has_places = brought.1;
        used = record {
          done = k;
          state = r.state;
          after = r.after;
          last = subst (IsLast places r.state) (sym (drop-at script k numbered at)) (cause, f.0);
          numbered = AreNumbered-grows old.known new.known r.state.used keeps.known r.holds.used;
        };
      },
    )
answering_stopped places script reads start old new held after_held outcomes k numbered RowFull line r result at line_is knows keeps f brings is =
    let brought = given_at script reads k numbered r.state old new (Err RowFull) r.reached brings in
    let refused = brought.1 in
    subst (IsAnswered places script reads start new) (sym is) (
      GrowsBy-next script reads k places numbered start.known old.known new.known new.places at knows r.grown brought.0,
      refused.cluster,
      record {
        reachable = given_reachable script reads k numbered refused.cluster at (omega (arith, refused.needs_number)) refused.among;
        unknown = refused.unknown;
        full = refused.reason;
      },
    )
answering_stopped places script reads start old new held after_held outcomes k numbered NoPortion line r result at line_is knows keeps f brings is =
    let brought = given_at script reads k numbered r.state old new (Err NoPortion) r.reached brings in
    subst (IsAnswered places script reads start new) (sym is)
    (GrowsBy-next script reads k places numbered start.known old.known new.known new.places at knows r.grown brought.0, brought.1)
answering_stopped places script reads start old new held after_held outcomes k numbered OutOfMemory line r result at line_is knows keeps f brings is =
    subst (IsAnswered places script reads start new) (sym is) tt

-- all lines are done
pub answering_done : (places : ℕ) (script : List NumberedCommand) (reads : List FileRead) (start now : Seen) (held : Evaluation) (outcomes : List Outcome) (k : ℕ)
    → IsAnswering places script reads start now held outcomes k → length script ≤ k
    → IsAnswered places script reads start now (Ok (record { bytes = held.output; refused = None }))
answering_done places script reads start now held outcomes k r past =
    let none = drop-past script k past in
    let whole : evaluate_from places r.state [] ≡ evaluate script reads places = ap (evaluate_from places r.state) (sym none) ∙ r.rest in (
      r.grown,
      record {
        exact = (λ i. let output : Output = record { bytes = r.holds.output i; refused = None } in output) ∙ whole;
        has_places = tt;
        used = record {
          done = k;
          state = r.state;
          after = r.after;
          last = subst (IsLast places r.state) (sym none) tt;
          numbered = r.holds.used;
        };
      },
    )
