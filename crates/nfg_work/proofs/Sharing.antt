-- Answers over a fork, which is met in the pass that it was forked from.
use Rattle.std.proofs.Common.{◌≡◌, ◌⊎◌, inl, inr, ℕ, ◌+◌, List, Option, Some, None, Result, Ok, Err, sym, ◌∙◌, subst, arith}
use Rattle.nfg_syn.specs.declared.synthetics.InternError.{InternError}
use Rattle.nfg_syn.specs.declared.synthetics.InternError.TheVariants.{RowFull, NoPortion, OutOfMemory}
use Rattle.nfg_syn.specs.Known.{Texts, IsSame, IsUnion, IsUnknown, IsWithin, or_else}
use Rattle.nfg_syn.specs.Seen.{Seen, IsForkOf, Meets}
use Rattle.nfg_script.specs.Script.{NumberedCommand}
use Rattle.nfg_work.specs.declared.outcome.Outcome.{Outcome}
use Rattle.nfg_work.specs.declared.output.FileRead.{FileRead}
use Rattle.nfg_work.specs.declared.output.Output.{Output}
use Rattle.nfg_work.specs.Outcomes.{AreRight, GrowsBy}
use Rattle.nfg_work.specs.Answers.{IsRefusedText, IsAnswered}
use Rattle.nfg_work.specs.Recording.{recorded}
use Rattle.nfg_work.specs.Sharing.{told, IsSharedAnswer, HasMetOne, MeetsOne}
use Rattle.nfg_work.proofs.InUse.{AreNumbered-grows}
use Rattle.nfg_work.proofs.GivenOutcomes.{IsWithin-met}
use Rattle.nfg_work.proofs.RightOutcomes.{AreRight-grows}

-- what one of two passes knew
either : (o p : Option (List ℕ)) (t : List ℕ) → or_else o p ≡ Some t → (o ≡ Some t) ⊎ (p ≡ Some t)
either None p t e = inr e
either (Some u) p t e = inl e

known_before : (one other both : Texts) → IsUnion one other both → (k : ℕ) (t : List ℕ) → both k ≡ Some t → (one k ≡ Some t) ⊎ (other k ≡ Some t)
known_before one other both union k t e = either (one k) (other k) t (sym (union.entries k) ∙ e)

-- the passes on the way: before and behind the fork, the fork before and behind the answers, and the pass that it is met in
pub record IsWay (old mid fork asked new : Seen) : Type 0 where
  pub same : IsSame old.known mid.known
  pub forked : IsForkOf old fork
  pub kept : IsWithin fork.known asked.known
  pub meets : asked.meets ≡ fork.meets
  pub mid_forks : mid.forks ≡ old.forks + 1
  pub mid_meets : mid.meets ≡ old.meets
  pub met : Meets mid asked new
  pub new_forks : new.forks ≡ mid.forks

-- the fork knows what the outcomes are of
pub fork_right : (script : List NumberedCommand) (reads : List FileRead) (old fork : Seen) → (outcomes : List Outcome) → IsForkOf old fork
    → AreRight old.known script reads outcomes → AreRight fork.known script reads outcomes
fork_right script reads old fork outcomes forked right = AreRight-grows old.known fork.known (λ k t e. forked.known k ∙ e) script reads outcomes right

way_grows : (script : List NumberedCommand) (reads : List FileRead) (old mid fork asked new : Seen) → IsWay old mid fork asked new
    → GrowsBy script reads fork.known asked.known → GrowsBy script reads old.known new.known
way_grows script reads old mid fork asked new way grown = λ k t e. elim (known_before mid.known asked.known new.known way.met.known k t e) [
  | inl before ↦ inl (sym (way.same k) ∙ before)
  | inr there ↦ elim (grown k t there) [
    | inl first ↦ inl (sym (way.forked.known k) ∙ first)
    | inr reachable ↦ inr reachable
  ]
]

-- what the answers did not know is not known
way_unknown : (old mid fork asked new : Seen) (t : List ℕ) → IsWay old mid fork asked new → IsUnknown asked.known t → IsUnknown new.known t
way_unknown old mid fork asked new t way unknown = λ m e. elim (known_before mid.known asked.known new.known way.met.known m t e) [
  | inl before ↦ unknown m (way.kept m t (way.forked.known m ∙ sym (way.same m) ∙ before))
  | inr there ↦ unknown m there
]

pub way_answer : (places : ℕ) (script : List NumberedCommand) (reads : List FileRead) (old mid fork asked new : Seen) (before noted : List ℕ) (result : Result Output InternError)
    → IsWay old mid fork asked new → IsAnswered places script reads (recorded fork before) (recorded asked noted) result
    → IsSharedAnswer places script reads old new (told result noted)
way_answer places script reads old mid fork asked new before noted (Ok output) way is = (
  way_grows script reads old mid fork asked new way is.0,
  record {
    exact = is.1.exact;
    has_places = is.1.has_places;
    used = let used = is.1.used in record {
      done = used.done;
      state = used.state;
      after = used.after;
      last = used.last;
      numbered = AreNumbered-grows asked.known new.known used.state.used (IsWithin-met mid.known asked.known new.known way.met.known) used.numbered;
    };
  },
)
way_answer places script reads old mid fork asked new before noted (Err RowFull) way is =
    let text = is.1 in
    let refused = is.2 in (
      way_grows script reads old mid fork asked new way is.0,
      subst (IsRefusedText script reads new) (sym refused.full.1) (record {
        reachable = refused.reachable;
        unknown = way_unknown old mid fork asked new text way refused.unknown;
        full = way.met.full text refused.full.0;
      }),
    )
way_answer places script reads old mid fork asked new before noted (Err NoPortion) way is =
    (way_grows script reads old mid fork asked new way is.0, way.met.drained is.1)
way_answer places script reads old mid fork asked new before noted (Err OutOfMemory) way is = tt

way_counts : (old mid fork asked new : Seen) → IsWay old mid fork asked new → HasMetOne old new
way_counts old mid fork asked new way = record {
  forks = way.new_forks ∙ way.mid_forks;
  meets = let none : asked.meets ≡ 0 = way.meets ∙ way.forked.meets in
      let met = way.met.meets in
      let before = way.mid_meets in omega (arith, none, met, before);
}

pub way_meets : (old mid fork asked new : Seen) (noted : List ℕ) (result : Result Output InternError) → IsWay old mid fork asked new
    → MeetsOne old new (told result noted)
way_meets old mid fork asked new noted (Ok output) way = way_counts old mid fork asked new way
way_meets old mid fork asked new noted (Err RowFull) way = way_counts old mid fork asked new way
way_meets old mid fork asked new noted (Err NoPortion) way = way_counts old mid fork asked new way
way_meets old mid fork asked new noted (Err OutOfMemory) way = tt
