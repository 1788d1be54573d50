-- What `clap` makes of its options when it builds the command.
use Rattle.std.proofs.Common.{◌≡◌, true, List, [], ◌∷◌, Some, codes, refl}
use Rattle.clap.specs.Walk.{Rule, Text}
use Rattle.clap.specs.Simple.{Shape, built, is_simple, new_shape}
use Rattle.clap.specs.Faults.{is_simple_and_free}
use Rattle.clap.specs.declared.builder.value_parser.ValueParser.TheVariants as parser
use Rattle.nfg_run.specs.ClapCommand.{given_command, given_option, given_plain}
use Rattle.nfg_run.specs.CommandLine.{OptionName, Workers, Table}

-- the name of an option, without its hyphens
abbrev pub name_of : OptionName → Text
name_of Workers = codes "workers"
name_of Table = codes "table"

-- the same, built
abbrev pub built_option : OptionName → Rule
built_option name = record (given_option (name_of name)) {
  parser = Some parser.String;
  range = Some (record { start_inclusive = 1; end_inclusive = 1 });
}

abbrev pub built_plain : Rule
built_plain = record given_plain {
  parser = Some parser.String;
  range = Some (record { start_inclusive = 1; end_inclusive = 1 });
  index = Some 1;
}

abbrev pub rules : List Rule
rules = built_option Workers ∷ built_option Table ∷ built_plain ∷ []

abbrev pub built_shape : Shape
built_shape = record (new_shape (codes "nfg")) {
  rules = rules;
  disable_help_flag = true;
  disable_help_subcommand = true;
  is_built = true;
}

pub built_app : built given_command ≡ record { top = built_shape; subs = [] }
built_app = refl

pub is_simple_app : is_simple given_command ≡ true
is_simple_app = refl

pub is_free : is_simple_and_free given_command ≡ true
is_free = refl
