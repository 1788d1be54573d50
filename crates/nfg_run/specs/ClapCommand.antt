-- The options and plain words that `clap` is given (this project's own).
use Rattle.std.specs.Prelude.{ℕ, true, List, [], Some, codes}
use Rattle.clap.specs.Words.{App, Rule, new_rule, with_rule}
use Rattle.clap.specs.Simple.{new_shape}
use Rattle.clap.specs.declared.builder.action.ArgAction.TheVariants.{Set, Append}

-- an option that takes a value and stands at most once
abbrev pub given_option : List ℕ → Rule
given_option name = record (new_rule name) { long = Some name; action = Some Set }

-- plain words, as many as there are
abbrev pub given_plain : Rule
given_plain = record (new_rule (codes "plain")) { action = Some Append }

-- a command without an option, `--help` among them
abbrev pub bare_command : App
bare_command = record { top = record (new_shape (codes "nfg")) { disable_help_flag = true }; subs = [] }

-- the command of the two options
abbrev pub given_command : App
given_command =
    with_rule (with_rule (with_rule bare_command (given_option (codes "workers"))) (given_option (codes "table"))) given_plain
