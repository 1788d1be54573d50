-- The plan of a script, one command after another.
use Rattle.std.proofs.Common.{◌≡◌, ◌⊎◌, inl, inr, ℕ, zero, suc, ◌+◌, ◌<◌, ◌≤◌, Bool, true, false, List, [], ◌∷◌, ◌++◌, filter, length, take, slice_get, IfSome, Some, if◌then◌else◌, refl, sym, ap, ◌∙◌, subst, arith, length-append, append-nil}
use Rattle.std.proofs.lemmas.List.{length-take-le}
use Rattle.std.proofs.lemmas.List.Elements.{filter-append}
use Rattle.std.proofs.lemmas.Option.{slice_get_within}
use Rattle.nfg_script.specs.declared.command.Command.{Command}
use Rattle.nfg_script.specs.Script.{NumberedCommand, is_load, load_paths}
use Rattle.nfg_work.specs.declared.plan.Plan.{Plan}
use Rattle.nfg_work.specs.Levels.{is_definition}
use Rattle.nfg_work.specs.Planned.{defines, names_in, loads_in, IsDefinition, IsPlan}
use Rattle.nfg_work.proofs.Answered.{command_at, command_is}
use Rattle.nfg_work.proofs.Joined.{take-push, take-whole}

one_name : (defining : Bool) (numbered : NumberedCommand) → defines numbered ≡ defining
    → length (filter defines (numbered ∷ [])) ≡ (if defining then 1 else 0)
one_name true numbered is = rw is refl
one_name false numbered is = rw is refl

-- one command more
names_in-push : (lines : List NumberedCommand) (numbered : NumberedCommand)
    → names_in (lines ++ numbered ∷ []) ≡ names_in lines + (if is_definition numbered.command then 1 else 0)
names_in-push lines numbered =
    ap (λ v. length v) (filter-append defines lines (numbered ∷ []))
    ∙ length-append (filter defines lines) (filter defines (numbered ∷ []))
    ∙ ap (λ n. names_in lines + n) (one_name (is_definition numbered.command) numbered refl)

one_load : (loading : Bool) (numbered line : NumberedCommand) (lines : List NumberedCommand) (n : ℕ)
    → length (load_paths (lines ++ numbered ∷ [])) ≡ length (load_paths lines) + n
    → length (if loading then line.path ∷ load_paths (lines ++ numbered ∷ []) else load_paths (lines ++ numbered ∷ []))
    ≡ length (if loading then line.path ∷ load_paths lines else load_paths lines) + n
one_load true numbered line lines n again = omega (arith, again)
one_load false numbered line lines n again = again

load_alone : (loading : Bool) (path : List ℕ) → length (let none : List (List ℕ) = [] in if loading then path ∷ none else none) ≡ 0 + (if loading then 1 else 0)
load_alone true path = refl
load_alone false path = refl

loads_in-push : (lines : List NumberedCommand) (numbered : NumberedCommand)
    → loads_in (lines ++ numbered ∷ []) ≡ loads_in lines + (if is_load numbered.command then 1 else 0)
loads_in-push [] numbered = load_alone (is_load numbered.command) numbered.path
loads_in-push (line ∷ lines) numbered =
    one_load (is_load line.command) numbered line lines (if is_load numbered.command then 1 else 0) (loads_in-push lines numbered)

-- the element at a place of a list with one more: one of the list, or the last
slice_get-push : {X : Type 0} (xs : List X) (x y : X) (i : ℕ) → slice_get (xs ++ x ∷ []) i ≡ Some y
    → (slice_get xs i ≡ Some y) ⊎ ((i ≡ length xs) × (x ≡ y))
slice_get-push [] x y zero e = inr (refl, cc)
slice_get-push [] x y (suc i) e = cc
slice_get-push (z ∷ xs) x y zero e = inl e
slice_get-push (z ∷ xs) x y (suc i) e = next (slice_get-push xs x y i e)
  where
    next : (slice_get xs i ≡ Some y) ⊎ ((i ≡ length xs) × (x ≡ y)) → (slice_get xs i ≡ Some y) ⊎ ((suc i ≡ length (z ∷ xs)) × (x ≡ y))
    next (inl e) = inl e
    next (inr e) = inr (ap (λ n. suc n) e.0, e.1)

slice_get-front : {X : Type 0} (xs ys : List X) (i : ℕ) (x : X) → slice_get xs i ≡ Some x → slice_get (xs ++ ys) i ≡ Some x
slice_get-front [] ys i x e = cc
slice_get-front (z ∷ xs) ys zero x e = e
slice_get-front (z ∷ xs) ys (suc i) x e = slice_get-front xs ys i x e

slice_get-last : {X : Type 0} (xs : List X) (x : X) → slice_get (xs ++ x ∷ []) (length xs) ≡ Some x
slice_get-last [] x = refl
slice_get-last (y ∷ xs) x = slice_get-last xs x

take-front : {X : Type 0} (xs ys : List X) (i : ℕ) → i ≤ length xs → take i (xs ++ ys) ≡ take i xs
take-front xs ys zero le = refl
take-front [] ys (suc i) le = absurd (omega (arith, le))
take-front (x ∷ xs) ys (suc i) le = ap (λ v. x ∷ v) (take-front xs ys i (omega (arith, le)))

-- a definition stays one
IsDefinition-more : (lines more : List NumberedCommand) (name j : ℕ) → IsDefinition lines name j → IsDefinition (lines ++ more) name j
IsDefinition-more lines more name j is = record {
  numbered = is.numbered;
  here = slice_get-front lines more j is.numbered is.here;
  defining = is.defining;
  before = ap names_in (take-front lines more j (let within = slice_get_within lines j is.numbered is.here in omega (arith, within))) ∙ is.before;
}

-- the names with the one that the last command defines
more_names : (defining : Bool) (lines : List NumberedCommand) (numbered : NumberedCommand) (old new : List ℕ) → defines numbered ≡ defining
    → new ≡ old ++ (if defining then length lines ∷ [] else []) → length old ≡ names_in lines
    → ((name j : ℕ) → slice_get old name ≡ Some j → IsDefinition lines name j)
    → (length new ≡ names_in lines + (if defining then 1 else 0))
    × ((name j : ℕ) → slice_get new name ≡ Some j → IsDefinition (lines ++ numbered ∷ []) name j)
more_names true lines numbered old new is added all defined = (
  ap (λ v. length v) added ∙ length-append old (length lines ∷ []) ∙ ap (λ n. n + 1) all,
  λ name j e. by name j (slice_get-push old (length lines) j name (ap (λ v. slice_get v name) (sym added) ∙ e)),
)
  where
    by : (name j : ℕ) → (slice_get old name ≡ Some j) ⊎ ((name ≡ length old) × (length lines ≡ j)) → IsDefinition (lines ++ numbered ∷ []) name j
    by name j (inl e) = IsDefinition-more lines (numbered ∷ []) name j (defined name j e)
    by name j (inr e) = subst (IsDefinition (lines ++ numbered ∷ []) name) e.1 (record {
      numbered = numbered;
      here = slice_get-last lines numbered;
      defining = is;
      before = ap names_in (take-front lines (numbered ∷ []) (length lines) (omega arith) ∙ take-whole lines (length lines) (omega arith))
          ∙ sym all ∙ sym e.0;
    })
more_names false lines numbered old new is added all defined =
    let same : new ≡ old = added ∙ append-nil old in (
      ap (λ v. length v) same ∙ all ∙ omega arith,
      λ name j e. IsDefinition-more lines (numbered ∷ []) name j (defined name j (ap (λ v. slice_get v name) (sym same) ∙ e)),
    )

more_loads : (lines : List NumberedCommand) (numbered : NumberedCommand) (old new : List ℕ) → new ≡ old ++ loads_in lines ∷ [] → length old ≡ length lines
    → ((k loads : ℕ) → slice_get old k ≡ Some loads → loads ≡ loads_in (take k lines))
    → (k loads : ℕ) → slice_get new k ≡ Some loads → loads ≡ loads_in (take k (lines ++ numbered ∷ []))
more_loads lines numbered old new added all before k loads e =
    by (slice_get-push old (loads_in lines) loads k (ap (λ v. slice_get v k) (sym added) ∙ e))
  where
    by : (slice_get old k ≡ Some loads) ⊎ ((k ≡ length old) × (loads_in lines ≡ loads)) → loads ≡ loads_in (take k (lines ++ numbered ∷ []))
    by (inl e) =
        before k loads e ∙ ap loads_in (sym (take-front lines (numbered ∷ []) k (let within = slice_get_within old k loads e in omega (arith, within, all))))
    by (inr e) =
        sym e.1 ∙ ap loads_in (sym (ap (λ n. take n (lines ++ numbered ∷ [])) (e.0 ∙ all)
        ∙ take-front lines (numbered ∷ []) (length lines) (omega arith) ∙ take-whole lines (length lines) (omega arith)))

-- the plan of one command more
IsPlan-push : (lines : List NumberedCommand) (numbered : NumberedCommand) (old new : Plan) → IsPlan lines old
    → new.loads_before.items ≡ old.loads_before.items ++ loads_in lines ∷ []
    → new.definitions.items ≡ old.definitions.items ++ (if is_definition numbered.command then length lines ∷ [] else [])
    → IsPlan (lines ++ numbered ∷ []) new
IsPlan-push lines numbered old new is loads names =
    let more = more_names (is_definition numbered.command) lines numbered old.definitions.items new.definitions.items refl names is.all_names is.definitions in
    record {
      all_names = more.0 ∙ sym (names_in-push lines numbered);
      definitions = more.1;
      all_commands = ap (λ v. length v) loads ∙ length-append old.loads_before.items (loads_in lines ∷ [])
          ∙ ap (λ n. n + 1) is.all_commands ∙ sym (length-append lines (numbered ∷ []));
      loads_before = more_loads lines numbered old.loads_before.items new.loads_before.items loads is.all_commands is.loads_before;
    }

-- the plan of the first commands of a script, with how many loads they are
pub record IsPlanned (script : List NumberedCommand) (k loads : ℕ) (plan : Plan) : Type 0 where
  pub so_far : IsPlan (take k script) plan
  pub counted : loads ≡ loads_in (take k script)
  pub few : loads ≤ k

pub planned_first : (script : List NumberedCommand) (plan : Plan) → plan.loads_before.items ≡ [] → plan.definitions.items ≡ [] → IsPlanned script 0 0 plan
planned_first script plan loads names = record {
  so_far = record {
    all_names = ap (λ v. length v) names;
    definitions = λ name j e. let never = sym (ap (λ v. slice_get v name) names) ∙ e in cc;
    all_commands = ap (λ v. length v) loads;
    loads_before = λ k n e. let never = sym (ap (λ v. slice_get v k) loads) ∙ e in cc;
  };
  counted = refl;
  few = omega arith;
}

one_at_most : (loading : Bool) → (if loading then 1 else 0) ≤ 1
one_at_most true = omega arith
one_at_most false = omega arith

pub planned_next : (script : List NumberedCommand) (k loads one : ℕ) (command : Command) (old new : Plan) → k < length script
    → IfSome (slice_get script k) (λ n. command ≡ n.command) → IsPlanned script k loads old
    → new.loads_before.items ≡ old.loads_before.items ++ loads ∷ []
    → new.definitions.items ≡ old.definitions.items ++ (if is_definition command then k ∷ [] else [])
    → one ≡ (if is_load command then 1 else 0) → IsPlanned script (k + 1) (loads + one) new
planned_next script k loads one command old new within is before noted named one_is =
    let at = command_at script k within in
    let numbered = at.0 in
    let same : command ≡ numbered.command = command_is script k command numbered at.1 is in
    let lines = take k script in
    let grown : take (k + 1) script ≡ lines ++ numbered ∷ [] = take-push script k numbered at.1 in
    let long : k ≡ length lines = sym (length-take-le k script (omega (arith, within))) in
    let few = one_at_most (is_load command) in
    record {
      so_far = subst (λ ls. IsPlan ls new) (sym grown) (IsPlan-push lines numbered old new before.so_far
          (noted ∙ ap (λ n. old.loads_before.items ++ n ∷ []) before.counted)
          (named ∙ (λ i. old.definitions.items ++ (if is_definition (same i) then long i ∷ [] else []))));
      counted = (λ i. before.counted i + one_is i) ∙ ap (λ c. loads_in lines + (if is_load c then 1 else 0)) same ∙ sym (loads_in-push lines numbered) ∙ ap loads_in (sym grown);
      few = (let most = before.few in omega (arith, few, one_is, most));
    }

pub planned_all : (script : List NumberedCommand) (k loads : ℕ) (plan : Plan) → IsPlanned script k loads plan → length script ≤ k → IsPlan script plan
planned_all script k loads plan before all = subst (λ lines. IsPlan lines plan) (take-whole script k all) before.so_far
