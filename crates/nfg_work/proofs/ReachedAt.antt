-- What the names have reached before a command, and what stands there of a later command.
use Rattle.std.proofs.Common.{◌≡◌, inl, inr, ℕ, zero, suc, ◌+◌, ◌<◌, Bool, true, false, List, [], ◌∷◌, ◌++◌, length, take, drop, slice_get, slice_index_or, bytes_eq, Option, Some, None, if◌then◌else◌, refl, sym, ap, ◌∙◌, subst, arith, append_assoc, append-nil, length-append}
use Rattle.std.proofs.Math.Seq.{get_or-append_seam}
use Rattle.std.proofs.lemmas.List.{take-take}
use Rattle.std.specs.Set.{is_member}
use Rattle.nfg_script.specs.declared.command.Command.{Command}
use Rattle.nfg_script.specs.declared.command.Command.TheVariants.{Load, Text, Cat, Sub, Rep}
use Rattle.nfg_script.specs.Script.{NumberedCommand, is_load, load_paths}
use Rattle.nfg_work.specs.declared.output.FileRead.{FileRead}
use Rattle.nfg_work.specs.Values.{Value, no_value}
use Rattle.nfg_work.specs.Levels.{is_definition}
use Rattle.nfg_work.specs.Planned.{defines, names_in, loads_in}
use Rattle.nfg_work.specs.Reach.{Reached, value_of, files_behind, reach_step, reached_from, values_of, IsOfValue}
use Rattle.nfg_work.specs.Outcomes.{first_reached, reached_at, given_value}

-- what a command adds to the values
abbrev added : (defining : Bool) → Option Value → List (Option Value)
added defining given = if defining then given ∷ [] else []

step_values : (reached : Reached) (numbered : NumberedCommand) (command : Command)
    → (reach_step reached numbered command).values ≡ reached.values ++ added (is_definition command) (given_value reached numbered command)
step_values reached numbered (Load name e) = refl
step_values reached numbered (Text name) = refl
step_values reached numbered (Cat name a b) = refl
step_values reached numbered (Sub name a start count) = refl
step_values reached numbered (Rep name a count) = refl
step_values reached numbered command = sym (append-nil reached.values)

pub step_reads : (reached : Reached) (numbered : NumberedCommand) (command : Command)
    → (reach_step reached numbered command).reads ≡ files_behind command reached.reads
step_reads reached numbered (Load name e) = refl
step_reads reached numbered command = refl

-- the values stay, and more come behind them
values_front : (reached : Reached) (lines : List NumberedCommand)
    → (more : List (Option Value)) × ((reached_from reached lines).values ≡ reached.values ++ more)
values_front reached [] = ([], sym (append-nil reached.values))
values_front reached (numbered ∷ lines) =
    let command = numbered.command in
    let rest = values_front (reach_step reached numbered command) lines in
    let new = added (is_definition command) (given_value reached numbered command) in (
      new ++ rest.0,
      rest.1 ∙ ap (λ v. v ++ rest.0) (step_values reached numbered command) ∙ append_assoc reached.values new rest.0,
    )

added_length : (defining : Bool) (given : Option Value) (numbered : NumberedCommand) (lines : List NumberedCommand) → defines numbered ≡ defining
    → (n : ℕ) → (n + length (added defining given)) + names_in lines ≡ n + names_in (numbered ∷ lines)
added_length true given numbered lines is n = rw is (omega arith)
added_length false given numbered lines is n = rw is (omega arith)

-- there is a value or nothing for each name that was defined
values_length : (reached : Reached) (lines : List NumberedCommand) → length (reached_from reached lines).values ≡ length reached.values + names_in lines
values_length reached [] = omega arith
values_length reached (numbered ∷ lines) =
    let command = numbered.command in
    let given = given_value reached numbered command in
    values_length (reach_step reached numbered command) lines
    ∙ ap (λ v. length v + names_in lines) (step_values reached numbered command)
    ∙ ap (λ n. n + names_in lines) (length-append reached.values (added (is_definition command) given))
    ∙ added_length (is_definition command) given numbered lines refl (length reached.values)

-- before a command there are as many as names were defined
pub names_at : (script : List NumberedCommand) (reads : List FileRead) (k : ℕ) → length (reached_at script reads k).values ≡ names_in (take k script)
names_at script reads k = values_length (first_reached reads) (take k script) ∙ omega arith

drop-nothing : (n : ℕ) → drop n (let none : List FileRead = [] in none) ≡ []
drop-nothing zero = refl
drop-nothing (suc n) = refl

files_left : (command : Command) (path : List ℕ) (paths : List (List ℕ)) (reads : List FileRead)
    → drop (length paths) (files_behind command reads) ≡ drop (length (if is_load command then path ∷ paths else paths)) reads
files_left (Load name e) path paths [] = drop-nothing (length paths)
files_left (Load name e) path paths (read ∷ reads) = refl
files_left command path paths reads = refl

reads_left : (reached : Reached) (lines : List NumberedCommand) → (reached_from reached lines).reads ≡ drop (loads_in lines) reached.reads
reads_left reached [] = refl
reads_left reached (numbered ∷ lines) =
    reads_left (reach_step reached numbered numbered.command) lines
    ∙ ap (drop (loads_in lines)) (step_reads reached numbered numbered.command)
    ∙ files_left numbered.command numbered.path (load_paths lines) reached.reads

-- a load takes what was read behind that of the loads before it
pub reads_at : (script : List NumberedCommand) (reads : List FileRead) (k : ℕ) → (reached_at script reads k).reads ≡ drop (loads_in (take k script)) reads
reads_at script reads k = reads_left (first_reached reads) (take k script)

-- the value that a command gives comes next behind the values before it
given_next : (reached : Reached) (lines : List NumberedCommand) (j : ℕ) (numbered : NumberedCommand) → slice_get lines j ≡ Some numbered → defines numbered ≡ true
    → (more : List (Option Value)) × ((reached_from reached lines).values
    ≡ (reached_from reached (take j lines)).values ++ given_value (reached_from reached (take j lines)) numbered numbered.command ∷ more)
given_next reached [] j numbered at defining = cc
given_next reached (line ∷ lines) zero numbered at defining =
    let rest = values_front (reach_step reached line line.command) lines in
    let same : line ≡ numbered = cc in
    let new = given_value reached line line.command in
    let is : is_definition line.command ≡ true = ap defines same ∙ defining in
    let here : (reached_from reached (line ∷ lines)).values ≡ reached.values ++ new ∷ rest.0 =
    rest.1 ∙ ap (λ v. v ++ rest.0) (step_values reached line line.command) ∙ ap (λ d. (reached.values ++ added d new) ++ rest.0) is
    ∙ append_assoc reached.values (new ∷ []) rest.0 in
    (rest.0, here ∙ ap (λ n. reached.values ++ given_value reached n n.command ∷ rest.0) same)
given_next reached (line ∷ lines) (suc j) numbered at defining = given_next (reach_step reached line line.command) lines j numbered at defining

slice_get-take : {X : Type 0} (xs : List X) (j k : ℕ) → j < k → slice_get (take k xs) j ≡ slice_get xs j
slice_get-take xs j zero before = absurd (omega (arith, before))
slice_get-take [] j (suc k) before = refl
slice_get-take (x ∷ xs) zero (suc k) before = refl
slice_get-take (x ∷ xs) (suc j) (suc k) before = slice_get-take xs j k (omega (arith, before))

-- before a later command the name has the value that its command gave
pub value_before : (script : List NumberedCommand) (reads : List FileRead) (j k : ℕ) (numbered : NumberedCommand) → j < k → slice_get script j ≡ Some numbered
    → defines numbered ≡ true
    → value_of (reached_at script reads k).values (names_in (take j script)) ≡ given_value (reached_at script reads j) numbered numbered.command
value_before script reads j k numbered before at defining =
    let here = given_next (first_reached reads) (take k script) j numbered (slice_get-take script j k before ∙ at) defining in
    let front : take j (take k script) ≡ take j script = take-take j k script (omega (arith, before)) in
    let values = (reached_at script reads j).values in
    let given = given_value (reached_at script reads j) numbered numbered.command in
    let all : (reached_at script reads k).values ≡ values ++ given ∷ here.0 =
    here.1 ∙ ap (λ lines. (reached_from (first_reached reads) lines).values ++ given_value (reached_from (first_reached reads) lines) numbered numbered.command ∷ here.0) front in
    ap (λ v. value_of v (names_in (take j script))) all
    ∙ ap (λ n. slice_index_or (values ++ given ∷ here.0) n (Some no_value)) (sym (names_at script reads j))
    ∙ get_or-append_seam values given here.0 (Some no_value)

of_value-here : (front back : List (Option Value)) (value : Value) (t : List ℕ) → is_member bytes_eq value.clusters t ≡ true → IsOfValue (front ++ Some value ∷ back) t
of_value-here [] back value t holds = inl holds
of_value-here (None ∷ front) back value t holds = of_value-here front back value t holds
of_value-here (Some other ∷ front) back value t holds = inr (of_value-here front back value t holds)

-- the clusters of a value that a command gives are clusters of the script's values
pub of_given : (script : List NumberedCommand) (reads : List FileRead) (k : ℕ) (numbered : NumberedCommand) (value : Value) (t : List ℕ)
    → slice_get script k ≡ Some numbered → defines numbered ≡ true → given_value (reached_at script reads k) numbered numbered.command ≡ Some value
    → is_member bytes_eq value.clusters t ≡ true → IsOfValue (values_of script reads) t
unfolding values_of
of_given script reads k numbered value t at defining given holds =
    let here = given_next (first_reached reads) script k numbered at defining in
    let values = (reached_at script reads k).values in
    let all : (reached_from (first_reached reads) script).values ≡ values ++ Some value ∷ here.0 = here.1 ∙ ap (λ v. values ++ v ∷ here.0) given in
    subst (λ v. IsOfValue v t) (sym all) (of_value-here values here.0 value t holds)

-- only a defining command gives a value
pub given_defines : (reached : Reached) (numbered : NumberedCommand) (command : Command) (value : Value) → given_value reached numbered command ≡ Some value
    → is_definition command ≡ true
given_defines reached numbered (Load name e) value given = refl
given_defines reached numbered (Text name) value given = refl
given_defines reached numbered (Cat name a b) value given = refl
given_defines reached numbered (Sub name a start count) value given = refl
given_defines reached numbered (Rep name a count) value given = refl
given_defines reached numbered command value given = cc
