-- Which command defines each name of a script, and how many loads stand before each command (this project's own).
use Rattle.std.specs.Prelude.{◌≡◌, ℕ, Bool, true, List, filter, length, take, slice_get, Some}
use Rattle.nfg_script.specs.Script.{NumberedCommand, load_paths}
use Rattle.nfg_work.specs.declared.plan.Plan.{Plan}
use Rattle.nfg_work.specs.Levels.{is_definition}

-- the command defines a name
abbrev pub defines : NumberedCommand → Bool
defines numbered = is_definition numbered.command

-- how many names these commands define
abbrev pub names_in : List NumberedCommand → ℕ
names_in lines = length (filter defines lines)

-- how many files these commands load
abbrev pub loads_in : List NumberedCommand → ℕ
loads_in lines = length (load_paths lines)

-- command j defines the name, before which as many are defined
pub record IsDefinition (script : List NumberedCommand) (name j : ℕ) : Type 0 where
  pub numbered : NumberedCommand
  pub here : slice_get script j ≡ Some numbered
  pub defining : defines numbered ≡ true
  pub before : names_in (take j script) ≡ name

-- the plan has the command of each name, and for each command the number of loads before it
pub record IsPlan (script : List NumberedCommand) (plan : Plan) : Type 0 where
  pub all_names : length plan.definitions.items ≡ names_in script
  pub definitions : (name j : ℕ) → slice_get plan.definitions.items name ≡ Some j → IsDefinition script name j
  pub all_commands : length plan.loads_before.items ≡ length script
  pub loads_before :
      (k loads : ℕ) → slice_get plan.loads_before.items k ≡ Some loads → loads ≡ loads_in (take k script)
