-- What a use of an option, or a plain word, does to the rows of `clap`.
use Rattle.std.proofs.Common.{◌≡◌, false, List, [], ◌∷◌, ◌++◌, Option, Some, None, option_map, codes, refl, ap, ◌∙◌}
use Rattle.clap.specs.Walk.{Row, Text, all_of, settled_rows, used, without}
use Rattle.clap.specs.Faults.{use_fault}
use Rattle.clap.specs.declared.builder.value_parser.Reading.TheVariants.{AsWritten}
use Rattle.clap.specs.declared.parser.matches.ValueSource.TheVariants.{CommandLine}
use Rattle.nfg_run.specs.CommandLine.{OptionName, Workers, Table, if_first}
use Rattle.nfg_run.specs.WordTexts.{WordTexts}
use Rattle.nfg_run.proofs.ClapRows.{earlier, has_row-none, has_row-some, without-none, all_of-same, all_of-other}
use Rattle.nfg_run.proofs.BuiltCommand.{name_of, built_option, rules}
use Rattle.nfg_run.proofs.GatheredWords.{plain_text, with_text}
use Rattle.nfg_run.proofs.ClapTurns.{Fails, plain_pending, settles, value_pending}

-- ---- an option with a value is used

abbrev pub text_at : OptionName → WordTexts → Option Text
text_at Workers texts = texts.workers
text_at Table texts = texts.places

abbrev pub put : OptionName → Text → WordTexts → WordTexts
put Workers value texts = record { workers = Some value; places = texts.places; plain = texts.plain }
put Table value texts = record { workers = texts.workers; places = Some value; plain = texts.plain }

pub with_text-first : (texts : WordTexts) (name : OptionName) (value : Text) → text_at name texts ≡ None
    → with_text texts name value ≡ Some (put name value texts)
with_text-first texts Workers value e = ap (λ o. if_first o (put Workers value texts)) e
with_text-first texts Table value e = ap (λ o. if_first o (put Table value texts)) e

pub with_text-again : (texts : WordTexts) (name : OptionName) (value given : Text) → text_at name texts ≡ Some given
    → with_text texts name value ≡ None
with_text-again texts Workers value given e = ap (λ o. if_first o (put Workers value texts)) e
with_text-again texts Table value given e = ap (λ o. if_first o (put Table value texts)) e

abbrev pub one : Option Text → Option (List Text)
one = option_map (λ text. text ∷ [])

abbrev pub several : List Text → Option (List Text)
several [] = None
several (word ∷ words) = Some (word ∷ words)

-- the rows hold these texts
pub record Shows (texts : WordTexts) (rows : List Row) : Type 0 where
  pub workers : all_of (codes "workers") rows ≡ one texts.workers
  pub places : all_of (codes "table") rows ≡ one texts.places
  pub plain : all_of (codes "plain") rows ≡ several texts.plain

pub shown : (name : OptionName) (texts : WordTexts) (rows : List Row) → Shows texts rows → all_of (name_of name) rows ≡ one (text_at name texts)
shown Workers texts rows shows = shows.workers
shown Table texts rows shows = shows.places

pub first-use : (name : OptionName) (value : Text) (rows : List Row) → all_of (name_of name) rows ≡ None
    → use_fault false (built_option name) (value ∷ []) rows ≡ []
first-use name value rows none = rw (has_row-none (name_of name) rows none) refl

pub again-use : (name : OptionName) (value : Text) (values : List Text) (rows : List Row) → all_of (name_of name) rows ≡ Some values
    → Fails (use_fault false (built_option name) (value ∷ []) rows)
again-use name value values rows some = rw (has_row-some (name_of name) values rows some) tt

pub settles-option : (name : OptionName) (value : Text) (rows : List Row)
    → settles rows (value_pending name (value ∷ [])) ≡ use_fault false (built_option name) (value ∷ []) rows
settles-option Workers value rows = refl
settles-option Table value rows = refl

pub settled-option : (name : OptionName) (value : Text) (rows : List Row)
    → settled_rows rules (value_pending name (value ∷ [])) rows ≡ used (built_option name) (value ∷ []) rows
settled-option Workers value rows = refl
settled-option Table value rows = refl

-- an option without its value fails
pub settles-empty : (name : OptionName) (rows : List Row) → Fails (settles rows (value_pending name []))
settles-empty Workers rows = tt
settles-empty Table rows = tt

pub shows-put : (name : OptionName) (value : Text) (texts : WordTexts) (rows : List Row) → Shows texts rows → text_at name texts ≡ None
    → Shows (put name value texts) (used (built_option name) (value ∷ []) rows)
shows-put Workers value texts rows shows none =
    let fresh : without (codes "workers") rows ≡ rows = without-none (codes "workers") rows (shows.workers ∙ ap one none) in
    record {
      workers = all_of-same (codes "workers") AsWritten CommandLine (value ∷ []) (without (codes "workers") rows) refl
          ∙ ap (λ o. Some (earlier o ++ value ∷ [])) (ap (all_of (codes "workers")) fresh ∙ shows.workers ∙ ap one none);
      places = all_of-other (codes "workers") (codes "table") AsWritten CommandLine (value ∷ []) (without (codes "workers") rows) refl ∙ ap (all_of (codes "table")) fresh ∙ shows.places;
      plain = all_of-other (codes "workers") (codes "plain") AsWritten CommandLine (value ∷ []) (without (codes "workers") rows) refl ∙ ap (all_of (codes "plain")) fresh ∙ shows.plain;
    }
shows-put Table value texts rows shows none =
    let fresh : without (codes "table") rows ≡ rows = without-none (codes "table") rows (shows.places ∙ ap one none) in
    record {
      workers = all_of-other (codes "table") (codes "workers") AsWritten CommandLine (value ∷ []) (without (codes "table") rows) refl ∙ ap (all_of (codes "workers")) fresh ∙ shows.workers;
      places = all_of-same (codes "table") AsWritten CommandLine (value ∷ []) (without (codes "table") rows) refl
          ∙ ap (λ o. Some (earlier o ++ value ∷ [])) (ap (all_of (codes "table")) fresh ∙ shows.places ∙ ap one none);
      plain = all_of-other (codes "table") (codes "plain") AsWritten CommandLine (value ∷ []) (without (codes "table") rows) refl ∙ ap (all_of (codes "plain")) fresh ∙ shows.plain;
    }

several-more : (words : List Text) (word : Text) → Some (earlier (several words) ++ word ∷ []) ≡ several (words ++ word ∷ [])
several-more [] word = refl
several-more (first ∷ words) word = refl

pub shows-plain : (texts : WordTexts) (word : Text) (rows : List Row) → Shows texts rows
    → Shows (plain_text texts word) (settled_rows rules (plain_pending word) rows)
shows-plain texts word rows shows = record {
  workers = all_of-other (codes "plain") (codes "workers") AsWritten CommandLine (word ∷ []) rows refl ∙ shows.workers;
  places = all_of-other (codes "plain") (codes "table") AsWritten CommandLine (word ∷ []) rows refl ∙ shows.places;
  plain = all_of-same (codes "plain") AsWritten CommandLine (word ∷ []) rows refl ∙ ap (λ o. Some (earlier o ++ word ∷ [])) shows.plain
      ∙ several-more texts.plain word;
}
