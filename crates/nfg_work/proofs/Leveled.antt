-- Levels, one command after another.
use Rattle.std.proofs.Common.{◌≡◌, ℕ, suc, ◌+◌, ◌<◌, List, [], ◌∷◌, ◌++◌, length, drop, slice_get, IfSome, refl, sym, ap, ◌∙◌, append_assoc}
use Rattle.nfg_script.specs.declared.command.Command.{Command}
use Rattle.nfg_script.specs.Script.{NumberedCommand}
use Rattle.nfg_work.specs.Levels.{command_level, names_with, levels_from, levels}
use Rattle.nfg_work.proofs.Answered.{command_at, command_is, drop-at}

-- the level of one command more
pub leveled_next : (script : List NumberedCommand) (k level : ℕ) (list names longer more : List ℕ) (command : Command) → k < length script
    → IfSome (slice_get script k) (λ n. command ≡ n.command) → level ≡ command_level names command → longer ≡ list ++ level ∷ []
    → more ≡ names_with names command level → list ++ levels_from names (drop k script) ≡ levels_from [] script
    → longer ++ levels_from more (drop (k + 1) script) ≡ levels_from [] script
leveled_next script k level list names longer more command within is level_is added named so_far =
    let at = command_at script k within in
    let same : command ≡ at.0.command = command_is script k command at.0 at.1 is in
    let here : level ≡ command_level names at.0.command = level_is ∙ ap (command_level names) same in
    let rest = drop (k + 1) script in
    let behind = names_with names at.0.command (command_level names at.0.command) in
    let names_are : more ≡ behind = named ∙ (λ i. names_with names (same i) (here i)) in
    (λ i. added i ++ levels_from (names_are i) rest) ∙ append_assoc list (level ∷ []) (levels_from behind rest)
    ∙ ap (λ n. list ++ n ∷ levels_from behind rest) here ∙ ap (λ v. list ++ levels_from names v) (sym (drop-at script k at.0 at.1)) ∙ so_far

length-levels_from : (names : List ℕ) (script : List NumberedCommand) → length (levels_from names script) ≡ length script
length-levels_from names [] = refl
length-levels_from names (numbered ∷ script) =
    ap (λ n. suc n) (length-levels_from (names_with names numbered.command (command_level names numbered.command)) script)

-- there is a level for each command
pub length-levels : (script : List NumberedCommand) → length (levels script) ≡ length script
unfolding levels
length-levels script = length-levels_from [] script
