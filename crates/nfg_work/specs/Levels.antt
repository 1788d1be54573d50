-- Levels of the commands of a script: a command stands above those that define its names (this project's own).
use Rattle.std.specs.Prelude.{ℕ, ◌+◌, max, Bool, true, false, List, [], ◌∷◌, ◌++◌, slice_index_or, if◌then◌else◌}
use Rattle.nfg_script.specs.declared.command.Command.{Command}
use Rattle.nfg_script.specs.declared.command.Command.TheVariants.{Load, Text, Cat, Sub, Rep, Find, Rfind, Eq, Cmp, Len, Show, Shape, Put}
use Rattle.nfg_script.specs.Script.{NumberedCommand}

-- the level of the command that defines a name, where the names have these levels in the order of definitions
abbrev pub level_of : List ℕ → ℕ → ℕ
level_of names name = slice_index_or names name 0

-- a load and a text have level 0, and any other command has 1 more than the greatest level of its names
abbrev pub command_level : List ℕ → Command → ℕ
command_level names (Load name enc) = 0
command_level names (Text name) = 0
command_level names (Cat name a b) = max (level_of names a) (level_of names b) + 1
command_level names (Sub name a start count) = level_of names a + 1
command_level names (Rep name a count) = level_of names a + 1
command_level names (Find a b at) = max (level_of names a) (level_of names b) + 1
command_level names (Rfind a b at) = max (level_of names a) (level_of names b) + 1
command_level names (Eq a b) = max (level_of names a) (level_of names b) + 1
command_level names (Cmp a b) = max (level_of names a) (level_of names b) + 1
command_level names (Len a) = level_of names a + 1
command_level names (Show a) = level_of names a + 1
command_level names (Shape a) = level_of names a + 1
command_level names (Put a enc) = level_of names a + 1

-- the command defines a name
abbrev pub is_definition : Command → Bool
is_definition (Load name enc) = true
is_definition (Text name) = true
is_definition (Cat name a b) = true
is_definition (Sub name a start count) = true
is_definition (Rep name a count) = true
is_definition _ = false

-- the levels of the names behind a command of this level
abbrev pub names_with : List ℕ → Command → (level : ℕ) → List ℕ
names_with names command level = if is_definition command then names ++ level ∷ [] else names

-- the levels of the commands from one on, where the names before it have these levels
abbrev pub levels_from : List ℕ → List NumberedCommand → List ℕ
levels_from names [] = []
levels_from names (numbered ∷ script) =
    let level = command_level names numbered.command in
    level ∷ levels_from (names_with names numbered.command level) script

-- the level of each command of a script, in order
unfoldable pub levels : List NumberedCommand → List ℕ
levels script = levels_from [] script
