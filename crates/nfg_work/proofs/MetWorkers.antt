-- What a level does to what is known and given, one call after another.
use Rattle.std.proofs.Common.{◌≡◌, ℕ, ◌+◌, ◌*◌, ◌≤◌, Bool, false, List, [], ◌∷◌, ◌++◌, length, take, drop, Option, Some, sym, ap, ◌∙◌, subst, arith}
use Rattle.std.specs.Prelude.{All}
use Rattle.std.proofs.lemmas.List.{length_push, take_all, take-append-le}
use Rattle.std.specs.Option.{option_to_list}
use Rattle.std.proofs.lemmas.Option.{slice_get_within, get_or_from_slice_get}
use Rattle.std.proofs.lemmas.List.Elements.{All-nil}
use Rattle.nfg_syn.specs.Known.{Texts, IsWithin, IsSame}
use Rattle.nfg_syn.specs.KnownLaws.{IsWithin-same, IsWithin-same_back}
use Rattle.nfg_syn.specs.Seen.{Seen, Keeps, Meets}
use Rattle.nfg_script.specs.Script.{NumberedCommand}
use Rattle.nfg_work.specs.declared.outcome.Outcome.{Outcome}
use Rattle.nfg_work.specs.declared.outcome.Outcome.TheVariants.{Nothing}
use Rattle.nfg_work.specs.declared.output.FileRead.{FileRead}
use Rattle.nfg_work.specs.declared.worker.Given.{Given}
use Rattle.nfg_work.specs.Outcomes.{IsRightAt, AreRight}
use Rattle.nfg_work.specs.Workers.{AreGivenRight, HasGiven, HasWorked, HasMet, IsReady, IsDone, CountAlike}
use Rattle.nfg_work.proofs.RightOutcomes.{AreRight-grows, AreRight-none}
use Rattle.nfg_work.proofs.GivenOutcomes.{AreGivenRight-grows, GrowsBy-same, GrowsBy-trans, GrowsBy-within, GrowsBy-union, IsWithin-met}

-- nothing was done yet
pub HasGiven-start : (script : List NumberedCommand) (reads : List FileRead) (known : Texts) (given : List Given) → AreGivenRight known script reads given
    → HasGiven script reads known known given
HasGiven-start script reads known given right = record { grown = GrowsBy-same script reads known known (λ k t at. at); right = right }

pub HasGiven-trans : (script : List NumberedCommand) (reads : List FileRead) (old mid new : Texts) (before after : List Given) → HasGiven script reads old mid before
    → HasGiven script reads mid new after → HasGiven script reads old new after
HasGiven-trans script reads old mid new before after first second = record {
  grown = GrowsBy-trans script reads old mid new first.grown second.grown;
  right = second.right;
}

-- a fork whose worker is ready knows enough for the outcomes so far
pub ready_right : (script : List NumberedCommand) (reads : List FileRead) (base : Texts) (fork : Seen) (given : List Given) (outcomes : List Outcome)
    → AreRight base script reads outcomes → IsReady base fork given → AreRight fork.known script reads outcomes
ready_right script reads base fork given outcomes are ready =
    AreRight-grows base fork.known (IsWithin-same base fork.known ready.known) script reads outcomes are

-- a fork of a pass that knows the same is ready too
pub IsReady-same : (base more : Texts) → IsSame base more → (fork : Seen) (given : List Given) → IsReady more fork given → IsReady base fork given
IsReady-same base more same fork given ready = record {
  known = λ k. ready.known k ∙ same k;
  root = ready.root;
  meets = ready.meets;
  nothing = ready.nothing;
}

-- nothing that was given is right
pub nothing_right : (script : List NumberedCommand) (reads : List FileRead) (known : Texts) (given : List Given) → given ≡ [] → AreGivenRight known script reads given
nothing_right script reads known given none =
    subst (AreGivenRight known script reads) (sym none) (All-nil (λ one. IsRightAt known script reads one.command one.outcome))

-- a ready worker that has worked is done
pub worked_done : (script : List NumberedCommand) (reads : List FileRead) (base : Texts) (old new : Seen) (before after : List Given) (short : Bool)
    → IsReady base old before → HasWorked script reads old new after short → IsDone script reads base new after short
worked_done script reads base old new before after short ready worked = record {
  root = worked.keeps.root ∙ ready.root;
  meets = worked.counts.meets ∙ ready.meets;
  gives = λ enough. let had = worked.gives enough in record {
    grown = GrowsBy-within script reads old.known base new.known (IsWithin-same_back base old.known ready.known) had.grown;
    right = had.right;
  };
}

-- a worker is done as well for a pass that knows more
pub IsDone-grows : (script : List NumberedCommand) (reads : List FileRead) (less more : Texts) → IsWithin less more → (fork : Seen) (given : List Given) (short : Bool)
    → IsDone script reads less fork given short → IsDone script reads more fork given short
IsDone-grows script reads less more within fork given short done = record {
  root = done.root;
  meets = done.meets;
  gives = λ enough. let had = done.gives enough in record {
    grown = GrowsBy-within script reads less more fork.known within had.grown;
    right = had.right;
  };
}

-- a pass that has met the fork of a worker knows what makes the outcomes right
pub met_right : (script : List NumberedCommand) (reads : List FileRead) (into fork new : Seen) (given : List Given) (short : Bool) (before after : List Outcome)
    → Keeps into new → Meets into fork new → short ≡ false → IsDone script reads into.known fork given short → AreRight into.known script reads before
    → (AreRight new.known script reads before → AreGivenRight new.known script reads given → AreRight new.known script reads after)
    → HasMet script reads into.known new.known after
met_right script reads into fork new given short before after keeps meets enough done are kept =
    let had = done.gives enough in
    record {
      grown = GrowsBy-union script reads into.known fork.known new.known meets.known had.grown;
      right = kept (AreRight-grows into.known new.known keeps.known script reads before are)
          (AreGivenRight-grows fork.known new.known (IsWithin-met into.known fork.known new.known meets.known) script reads given had.right);
    }

pub HasMet-start : (script : List NumberedCommand) (reads : List FileRead) (known : Texts) (outcomes : List Outcome) → AreRight known script reads outcomes
    → HasMet script reads known known outcomes
HasMet-start script reads known outcomes are = record { grown = GrowsBy-same script reads known known (λ k t at. at); right = are }

pub HasMet-trans : (script : List NumberedCommand) (reads : List FileRead) (old mid new : Texts) (before after : List Outcome) → HasMet script reads old mid before
    → HasMet script reads mid new after → HasMet script reads old new after
HasMet-trans script reads old mid new before after first second = record {
  grown = GrowsBy-trans script reads old mid new first.grown second.grown;
  right = second.right;
}

pub CountAlike-start : (most : ℕ) (seen : Seen) → CountAlike most seen seen
CountAlike-start most seen = record { by = 0; forks = omega arith; meets = omega arith; within = omega arith }

-- so many in each of some levels, and in one more
pub CountAlike-more : (workers level : ℕ) (old mid new : Seen) → CountAlike (workers * level) old mid → CountAlike workers mid new
    → CountAlike (workers * (level + 1)) old new
CountAlike-more workers level old mid new first second =
    let so_many : workers * (level + 1) ≡ workers * level + workers = grind arith in
    record {
      by = first.by + second.by;
      forks = omega (arith, first.forks, second.forks);
      meets = omega (arith, first.meets, second.meets);
      within = omega (arith, first.within, second.within, so_many);
    }

pub CountAlike-most : (less more : ℕ) (old new : Seen) → less ≤ more → CountAlike less old new → CountAlike more old new
CountAlike-most less more old new within counts = record {
  by = counts.by;
  forks = counts.forks;
  meets = counts.meets;
  within = omega (arith, counts.within);
}

-- one element is left out
pub length-popped : {A : Type 0} (all rest : List A) (last : Option A) (one : A) → all ≡ rest ++ option_to_list last → last ≡ Some one
    → length rest + 1 ≡ length all
length-popped all rest last one popped is =
    let whole : all ≡ rest ++ one ∷ [] = popped ∙ ap (λ o. rest ++ option_to_list o) is in
    omega (arith, ap length whole, length_push rest one)

-- where nothing was given yet, all is right
pub AreRight-nothing : (known : Texts) (script : List NumberedCommand) (reads : List FileRead) (outcomes : List Outcome) → length outcomes ≡ length script
    → All (λ outcome. outcome ≡ Nothing) outcomes → AreRight known script reads outcomes
AreRight-nothing known script reads outcomes long none =
    AreRight-none known script reads outcomes long
    (λ k outcome at. sym (get_or_from_slice_get outcomes k outcome outcome at) ∙ none k outcome (slice_get_within outcomes k outcome at))

-- a list that is lent whole comes back whole
pub lent_back : {A : Type 0} (count : ℕ) (old new : List A) → length new ≡ length old → count ≡ length old
    → take count (new ++ drop (length new) old) ≡ new
lent_back count old new long counted =
    take-append-le count new (drop (length new) old) (omega arith) ∙ take_all count new (omega arith)
