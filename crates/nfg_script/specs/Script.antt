-- A script: its commands in order (this project's own).
use Rattle.std.specs.Prelude.{ℕ, Bool, true, false, List, [], ◌∷◌, if◌then◌else◌}
use Rattle.nfg_script.specs.declared.command.Command.{Command}
use Rattle.nfg_script.specs.declared.command.Command.TheVariants.{Load, Text}

-- a command, and what of its line stands in no field of it
pub record NumberedCommand : Type 0 where
  -- the number of its line, counted from 1
  pub line : ℕ
  pub command : Command
  -- the path of a load, in UTF-8
  pub path : List ℕ
  -- the code points of a text
  pub codes : List ℕ

-- the command is a load
abbrev pub is_load : Command → Bool
is_load (Load name enc) = true
is_load _ = false

-- the command is a text
abbrev pub is_text : Command → Bool
is_text (Text name) = true
is_text _ = false

-- the paths that a script loads, in order
abbrev pub load_paths : List NumberedCommand → List (List ℕ)
load_paths [] = []
load_paths (numbered ∷ script) =
    if is_load numbered.command then numbered.path ∷ load_paths script else load_paths script
