-- A script is answered behind what its jobs have given.
use Rattle.std.proofs.Common.{◌≡◌, ◌≢◌, inl, ℕ, ◌+◌, ◌-◌, ◌*◌, ◌≤◌, List, [], ◌∷◌, length, None, Result, Ok, Err, refl, sym, ◌∙◌, subst, arith, zero, suc}
use Rattle.nfg_syn.specs.Seen.{Seen}
use Rattle.nfg_script.specs.Script.{NumberedCommand}
use Rattle.nfg_work.specs.declared.output.FileRead.{FileRead}
use Rattle.nfg_work.specs.declared.output.Output.{Output}
use Rattle.nfg_work.specs.declared.shared_error.SharedError.{SharedError}
use Rattle.nfg_work.specs.declared.shared_error.SharedError.TheVariants.{RowFull, NoPortion, OutOfMemory}
use Rattle.nfg_work.specs.Evaluation.{evaluate, first_state}
use Rattle.nfg_work.specs.Outcomes.{GrowsBy}
use Rattle.nfg_work.specs.Workers.{CountAlike}
use Rattle.nfg_work.specs.Sharing.{IsSharedAnswer, HasMetOne, MeetsOne, CountAlikeUnless}
use Rattle.nfg_work.proofs.GivenOutcomes.{GrowsBy-trans}

-- what was known at first is known when the answers begin
pub answer_behind : (places : ℕ) (script : List NumberedCommand) (reads : List FileRead) (old mid new : Seen) (result : Result Output SharedError)
    → GrowsBy script reads old.known mid.known → IsSharedAnswer places script reads mid new result → IsSharedAnswer places script reads old new result
answer_behind places script reads old mid new (Ok output) grown is = (GrowsBy-trans script reads old.known mid.known new.known grown is.0, is.1)
answer_behind places script reads old mid new (Err (RowFull text)) grown is = (GrowsBy-trans script reads old.known mid.known new.known grown is.0, is.1)
answer_behind places script reads old mid new (Err NoPortion) grown is = (GrowsBy-trans script reads old.known mid.known new.known grown is.0, is.1)
answer_behind places script reads old mid new (Err OutOfMemory) grown is = tt

-- loads of large files and jobs of levels, and one pass more
one_more : (workers count : ℕ) (old mid new : Seen) → 1 ≤ workers → count ≢ 0 → CountAlike ((workers - 1) * count + workers * count) old mid → HasMetOne mid new
    → CountAlike (2 * workers * count) old new
one_more zero count old mid new some many alike one = absurd (omega (arith, some))
one_more (suc others) zero old mid new some many alike one = absurd (many refl)
one_more (suc others) (suc count) old mid new some many alike one = record {
  by = alike.by + 1;
  forks = let first = alike.forks in let next = one.forks in omega (arith, first, next);
  meets = let first = alike.meets in let next = one.meets in omega (arith, first, next);
  within =
      let one_less : suc others - 1 ≡ others = omega arith in
      let most = alike.by in
      let within : most ≤ others * suc count + suc others * suc count =
      subst (λ n. most ≤ n * suc count + suc others * suc count) one_less alike.within in
      grind (arith, within);
}

-- the pass of the answers is one more
pub counted_behind : (workers count : ℕ) (old mid new : Seen) (result : Result Output SharedError) → 1 ≤ workers → count ≢ 0
    → CountAlike ((workers - 1) * count + workers * count) old mid → MeetsOne mid new result → CountAlikeUnless (2 * workers * count) old new result
counted_behind workers count old mid new (Ok output) some many alike one = one_more workers count old mid new some many alike one
counted_behind workers count old mid new (Err (RowFull text)) some many alike one = one_more workers count old mid new some many alike one
counted_behind workers count old mid new (Err NoPortion) some many alike one = one_more workers count old mid new some many alike one
counted_behind workers count old mid new (Err OutOfMemory) some many alike one = tt

-- no pass is forked where nothing is done
pub counted_none : (most : ℕ) (pass : Seen) (output : Output) → CountAlikeUnless most pass pass (Ok output)
counted_none most pass output = record { by = 0; forks = omega (arith); meets = omega (arith); within = omega (arith) }

none_evaluated : (places : ℕ) (reads : List FileRead) → evaluate [] reads places ≡ record { bytes = []; refused = None }
unfolding evaluate
none_evaluated places reads = refl

-- the answer to no command
pub answer_none : (places : ℕ) (script : List NumberedCommand) (reads : List FileRead) (pass : Seen) (output : Output) → length script ≡ 0
    → output ≡ record { bytes = []; refused = None } → IsSharedAnswer places script reads pass pass (Ok output)
answer_none places [] reads pass output none is = (
  λ k t e. inl e,
  record {
    exact = is ∙ sym (none_evaluated places reads);
    has_places = rw is tt;
    used = record { done = 0; state = first_state reads; after = refl; last = tt; numbered = λ t e. cc };
  },
)
answer_none places (numbered ∷ script) reads pass output none is = cc
