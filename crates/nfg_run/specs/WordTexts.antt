-- The texts that words give to the options, before they are read as numbers (this project's own).
use Rattle.std.specs.Prelude.{ℕ, List, [], Option, Some, None, option_map, unwrap_or, codes}
use Rattle.clap.specs.Words.{first_value, matched_of, raw_values}
use Rattle.clap.specs.declared.parser.matches.Found.{Found}
use Rattle.nfg_run.specs.CommandLine.{OptionName, Workers, Table, option_number}
use Rattle.nfg_run.specs.declared.said.Said.{Said}

-- the value of each option, where it is given, and the plain words
pub record WordTexts : Type 0 where
  pub workers : Option (List ℕ)
  pub places : Option (List ℕ)
  pub plain : List (List ℕ)

-- the number of an option, where its value is lawful or not given
abbrev pub given_number : OptionName → Option (List ℕ) → Option (Option ℕ)
given_number name None = Some None
given_number name (Some text) = option_map (λ number. Some number) (option_number name text)

-- what is said with both numbers
abbrev pub said_with : (workers places : Option (Option ℕ)) → List (List ℕ) → Option Said
said_with None places plain = None
said_with (Some workers) None plain = None
said_with (Some workers) (Some places) plain = Some (record { workers = workers; places = places; plain = plain })

-- what is said by the texts, where their numbers are lawful
abbrev pub said_in : WordTexts → Option Said
said_in texts = said_with (given_number Workers texts.workers) (given_number Table texts.places) texts.plain

-- the values that an option has in the matches of `clap`, where it has any
abbrev pub values_in : Found → List ℕ → List (List ℕ)
values_in found id = unwrap_or (option_map raw_values (matched_of found id)) []

-- the texts that the matches of `clap` hold
abbrev pub texts_in : Found → WordTexts
texts_in found = record {
  workers = first_value found (codes "workers");
  places = first_value found (codes "table");
  plain = values_in found (codes "plain");
}
