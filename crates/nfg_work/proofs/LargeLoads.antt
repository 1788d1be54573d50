-- A load of a large file, in parts, is done as a load is, and brings nothing but what is reachable.
use Rattle.std.proofs.Common.{◌≡◌, inl, inr, ℕ, zero, suc, ◌+◌, ◌*◌, ◌<◌, arith, List, [], ◌∷◌, length, take, drop, get_or, slice_get, Some, OnOk, Result, Ok, Err, refl, sym, ap, ◌∙◌, subst, drop-cons}
use Rattle.std.specs.declared.alloc.AllocError.{AllocError}
use Rattle.nfg_decode.specs.declared.encoding.Encoding.{Encoding}
use Rattle.nfg_decode.specs.Encoding.{decode}
use Rattle.nfg_syn.specs.Known.{Texts, IsKnowledge}
use Rattle.nfg_syn.specs.Seen.{Seen}
use Rattle.nfg_strand.specs.Value.{Rope}
use Rattle.nfg_stream.specs.declared.error.LoadError.{LoadError}
use Rattle.nfg_stream.specs.declared.error.LoadError.TheVariants.{Malformed, ClusterLong, RowFull as LoadedFull, NoPortion as NoLoadedPortion, OutOfMemory as NoMemory}
use Rattle.nfg_stream.specs.Load.{HasLoaded}
use Rattle.nfg_script.specs.declared.command.Command.TheVariants.{Load}
use Rattle.nfg_script.specs.Script.{NumberedCommand}
use Rattle.nfg_work.specs.declared.outcome.Outcome.{Outcome}
use Rattle.nfg_work.specs.declared.outcome.Outcome.TheVariants.{Made}
use Rattle.nfg_work.specs.declared.output.FileRead.{FileRead}
use Rattle.nfg_work.specs.declared.output.FileRead.TheVariants.{Bytes}
use Rattle.nfg_work.specs.declared.stop.Stop.{Stop}
use Rattle.nfg_work.specs.declared.stop.Stop.TheVariants.{OutOfMemory}
use Rattle.nfg_work.specs.Holding.{IsStopOf}
use Rattle.nfg_work.specs.Making.{IsMadeOf, file_value}
use Rattle.nfg_work.specs.Planned.{loads_in}
use Rattle.nfg_work.specs.Reach.{Reached, reached_from, reach_step, IsPartCluster, IsOfNext, IsOfCommand, IsOfFile, IsReachable, load_value}
use Rattle.nfg_work.specs.Outcomes.{first_reached, reached_at, GrowsBy}
use Rattle.nfg_work.specs.Jobs.{IsFileAt, IsOutcomeFor, IsJobDone}
use Rattle.nfg_work.specs.Parts.{IsOfParts, GrowsByParts, HasLoadedParts, LoadCountsAlike}
use Rattle.nfg_work.specs.Workers.{CountAlike}
use Rattle.nfg_work.proofs.Growth.{growth_as}
use Rattle.nfg_work.proofs.GivenOutcomes.{GrowsBy-trans}
use Rattle.nfg_work.proofs.JobsDone.{made_done, given_at, file_value-given}
use Rattle.nfg_work.proofs.ReachedAt.{reads_at, step_reads}
use Rattle.nfg_work.proofs.Wanted.{file_made, file_stopped}

-- ---- what a load in parts brings

of_file_behind : (reached : Reached) (lines : List NumberedCommand) (k name : ℕ) (e : Encoding) (bytes : List ℕ) (rest : List FileRead) (numbered : NumberedCommand) (t : List ℕ)
    → slice_get lines k ≡ Some numbered → numbered.command ≡ Load name e → (reached_from reached (take k lines)).reads ≡ Bytes bytes ∷ rest
    → IsPartCluster e bytes t → IsOfFile lines reached.reads t
of_file_behind reached [] k name e bytes rest numbered t at loads next is = cc
of_file_behind reached (line ∷ lines) zero name e bytes rest numbered t at loads next is =
    let command : line.command ≡ Load name e = ap (λ n. n.command) (let same : line ≡ numbered = cc in same) ∙ loads in
    inl (subst (λ c. IsOfCommand c reached.reads t) (sym command) (subst (λ reads. IsOfNext e reads t) (sym next) is))
of_file_behind reached (line ∷ lines) (suc k) name e bytes rest numbered t at loads next is =
    inr (subst (λ reads. IsOfFile lines reads t) (step_reads reached line line.command)
    (of_file_behind (reach_step reached line line.command) lines k name e bytes rest numbered t at loads next is))

-- what grows by parts of the file of a load grows by what the script can reach
file_grown : (script : List NumberedCommand) (reads : List FileRead) (k : ℕ) (e : Encoding) (bytes : List ℕ) (old new : Texts) → IsFileAt script reads k e bytes
    → GrowsByParts e bytes old new → GrowsBy script reads old new
file_grown script reads k e bytes old new file grown =
    growth_as (IsOfParts e bytes) (IsReachable script reads) old new
    (λ t is. record {
      several = is.0;
      source = inr (of_file_behind (first_reached reads) script k file.name e bytes file.rest file.numbered t file.here file.loads file.next is.1);
    })
    grown

-- ---- what a load in parts gives

-- what was known before is known when all bytes are loaded
done_behind : (script : List NumberedCommand) (reads : List FileRead) (k : ℕ) (old between new : Texts) (result : Result Outcome AllocError)
    → GrowsBy script reads old between → IsJobDone script reads k between new result → IsJobDone script reads k old new result
done_behind script reads k old between new (Ok outcome) grown done = (GrowsBy-trans script reads old between new grown done.0, done.1)
done_behind script reads k old between new (Err error) grown done = tt

-- the load of a file whose string is made so
file_done : (script : List NumberedCommand) (reads : List FileRead) (k : ℕ) (e : Encoding) (bytes : List ℕ) (pass after : Seen) (made : Result Rope Stop)
    (result : Result Outcome AllocError) → IsFileAt script reads k e bytes → IsMadeOf (file_value (decode e bytes)) pass after made → IsOutcomeFor made result
    → IsJobDone script reads k pass.known after.known result
file_done script reads k e bytes pass after made result file makes gives =
    made_done script reads k file.numbered (file_value (decode e bytes)) pass after made result file.here
    (λ v w. given_at (reached_at script reads k) file.numbered (Load file.name e) v file.loads
    (ap (load_value e) file.next ∙ file_value-given (decode e bytes) v w))
    makes gives

-- the string of all bytes
pub parts_made : (places : ℕ) (script : List NumberedCommand) (reads : List FileRead) (k : ℕ) (e : Encoding) (bytes : List ℕ) (pass after : Seen) (string : Rope)
    → IsFileAt script reads k e bytes → IsKnowledge places after.known after.places → HasLoadedParts e bytes pass after (Ok string)
    → IsJobDone script reads k pass.known after.known (Ok (Made string))
parts_made places script reads k e bytes pass after string file knows loaded =
    let begun : Seen = record after { known = loaded.0 } in
    done_behind script reads k pass.known loaded.0 after.known (Ok (Made string))
    (file_grown script reads k e bytes pass.known loaded.0 file loaded.1)
    (file_done script reads k e bytes begun after (Ok string) (Ok (Made string)) file
    (file_made places begun after (decode e bytes) string knows loaded.2) refl)

-- why there is none
stopped_behind : (script : List NumberedCommand) (reads : List FileRead) (k : ℕ) (e : Encoding) (bytes : List ℕ) (pass after : Seen) (between : Texts) (error : LoadError)
    (stop : Stop) (result : Result Outcome AllocError) → IsFileAt script reads k e bytes → GrowsByParts e bytes pass.known between
    → HasLoaded (decode e bytes) (record after { known = between }) after (Err error) → IsStopOf error stop → IsOutcomeFor (Err stop) result
    → IsJobDone script reads k pass.known after.known result
stopped_behind script reads k e bytes pass after between error stop result file grown loaded stops gives =
    done_behind script reads k pass.known between after.known result
    (file_grown script reads k e bytes pass.known between file grown)
    (file_done script reads k e bytes (record after { known = between }) after (Err stop) result file
    (file_stopped (record after { known = between }) after (decode e bytes) error stop loaded stops) gives)

no_memory : (script : List NumberedCommand) (reads : List FileRead) (k : ℕ) (old new : Texts) (result : Result Outcome AllocError)
    → IsOutcomeFor (Err OutOfMemory) result → IsJobDone script reads k old new result
no_memory script reads k old new (Ok outcome) gives = absurd gives
no_memory script reads k old new (Err error) gives = tt

pub parts_stopped : (script : List NumberedCommand) (reads : List FileRead) (k : ℕ) (e : Encoding) (bytes : List ℕ) (pass after : Seen) (error : LoadError) (stop : Stop)
    (result : Result Outcome AllocError) → IsFileAt script reads k e bytes → HasLoadedParts e bytes pass after (Err error) → IsStopOf error stop
    → IsOutcomeFor (Err stop) result → IsJobDone script reads k pass.known after.known result
parts_stopped script reads k e bytes pass after NoMemory stop result file loaded stops gives =
    no_memory script reads k pass.known after.known result (subst (λ s. IsOutcomeFor (Err s) result) stops gives)
parts_stopped script reads k e bytes pass after (Malformed at) stop result file loaded stops gives =
    stopped_behind script reads k e bytes pass after loaded.0 (Malformed at) stop result file loaded.1 loaded.2 stops gives
parts_stopped script reads k e bytes pass after (ClusterLong at) stop result file loaded stops gives =
    stopped_behind script reads k e bytes pass after loaded.0 (ClusterLong at) stop result file loaded.1 loaded.2 stops gives
parts_stopped script reads k e bytes pass after LoadedFull stop result file loaded stops gives =
    stopped_behind script reads k e bytes pass after loaded.0 LoadedFull stop result file loaded.1 loaded.2 stops gives
parts_stopped script reads k e bytes pass after NoLoadedPortion stop result file loaded stops gives =
    stopped_behind script reads k e bytes pass after loaded.0 NoLoadedPortion stop result file loaded.1 loaded.2 stops gives

-- ---- the passes that were forked

no_count : (most : ℕ) (pass after : Seen) (result : Result Outcome AllocError) → IsOutcomeFor (Err OutOfMemory) result → OnOk result (CountAlike most pass after)
no_count most pass after (Ok outcome) gives = absurd gives
no_count most pass after (Err error) gives = tt

on_each : (result : Result Outcome AllocError) (P : Type 0) → P → OnOk result P
on_each (Ok outcome) P holds = holds
on_each (Err error) P holds = tt

pub stopped_counted : (most : ℕ) (pass after : Seen) (error : LoadError) (stop : Stop) (result : Result Outcome AllocError)
    → LoadCountsAlike most pass after (Err error) → IsStopOf error stop → IsOutcomeFor (Err stop) result → OnOk result (CountAlike most pass after)
stopped_counted most pass after NoMemory stop result counts stops gives =
    no_count most pass after result (subst (λ s. IsOutcomeFor (Err s) result) stops gives)
stopped_counted most pass after (Malformed at) stop result counts stops gives = on_each result (CountAlike most pass after) counts
stopped_counted most pass after (ClusterLong at) stop result counts stops gives = on_each result (CountAlike most pass after) counts
stopped_counted most pass after LoadedFull stop result counts stops gives = on_each result (CountAlike most pass after) counts
stopped_counted most pass after NoLoadedPortion stop result counts stops gives = on_each result (CountAlike most pass after) counts

-- so many at most, and then so many
pub CountAlike-then : (first_most most : ℕ) (old mid new : Seen) → CountAlike first_most old mid → CountAlike most mid new
    → CountAlike (first_most + most) old new
CountAlike-then first_most most old mid new first second = record {
  by = first.by + second.by;
  forks = omega (arith, first.forks, second.forks);
  meets = omega (arith, first.meets, second.meets);
  within = omega (arith, first.within, second.within);
}

-- so many at most before the levels, so many in each of some levels, and in one more
pub CountAlike-level : (before workers level : ℕ) (old mid new : Seen) → CountAlike (before + workers * level) old mid → CountAlike workers mid new
    → CountAlike (before + workers * (level + 1)) old new
CountAlike-level before workers level old mid new first second =
    let so_many : before + workers * (level + 1) ≡ before + workers * level + workers = grind arith in
    subst (λ most. CountAlike most old new) (sym so_many) (CountAlike-then (before + workers * level) workers old mid new first second)

-- ---- the file of a load

-- what was read for the load at k
pub file_at : (script : List NumberedCommand) (reads : List FileRead) (k name loads : ℕ) (e : Encoding) (read : FileRead) (bytes slice : List ℕ) (numbered : NumberedCommand)
    → slice_get script k ≡ Some numbered → numbered.command ≡ Load name e → loads ≡ loads_in (take k script) → loads < length reads
    → read ≡ get_or reads loads read → read ≡ Bytes bytes → slice ≡ bytes → IsFileAt script reads k e slice
file_at script reads k name loads e read bytes slice numbered at command loads_are within found is same =
    let rest = drop (suc loads) reads in
    let next : drop loads reads ≡ Bytes slice ∷ rest =
    drop-cons reads loads read within ∙ (λ i. (sym found ∙ is ∙ ap (λ b. Bytes b) (sym same)) i ∷ rest) in
    record {
      numbered = numbered;
      here = at;
      name = name;
      loads = command;
      rest = rest;
      next = reads_at script reads k ∙ ap (λ n. drop n reads) (sym loads_are) ∙ next;
    }
