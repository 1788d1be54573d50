-- What the matches of the command say of the words, and what its errors say.
use Rattle.std.proofs.Common.{◌≡◌, zero, suc, Bool, true, false, cond, List, [], ◌∷◌, Option, Some, None, String, string_bytes, map, arith, All, IsUtf8, find, option_map, option_and_then, slice_get, drop, bytes_eq, codes, refl, sym, ap, subst, ◌∙◌, ◌||◌, is_some}
use Rattle.std.specs.Option.{unwrap_or}
use Rattle.std.proofs.lemmas.Str.{IsUtf8-string_bytes}
use Rattle.clap.specs.Kinds.{Kinds, IsAmong, or_else}
use Rattle.clap.specs.Words.{first_value}
use Rattle.clap.specs.Walk.{Row, Text, all_of, first_of, idle, rows_of, Held, Rule, has_row, is_empty, finished, nothing_held, settled, with_default}
use Rattle.clap.specs.Simple.{matches_of, App, entered}
use Rattle.clap.specs.Faults.{fault_of, check_fault, default_fault, defaults_fault, given_default_fault, entered_fault, level_fault, settle_fault, walk_fault}
use Rattle.clap.specs.declared.error.kind.ErrorKind.{ErrorKind}
use Rattle.clap.specs.declared.parser.matches.Found.{Found}
use Rattle.clap.proofs.WalkLemmas.{first_value-rows, raw_values-rows}
use Rattle.nfg_run.specs.CommandLine.{Free, said_by, nothing_said, OptionName, Workers, Table}
use Rattle.nfg_run.specs.WordTexts.{WordTexts, said_in, texts_in}
use Rattle.nfg_run.specs.ClapCommand.{given_command}
use Rattle.nfg_run.proofs.GatheredWords.{gathered, with_words-gathered}
use Rattle.nfg_run.proofs.BuiltCommand.{name_of, built_option, built_plain, built_shape, rules}
use Rattle.nfg_run.proofs.ClapTurns.{Fails, standing}
use Rattle.nfg_run.proofs.ClapUses.{Shows, one, several}
use Rattle.nfg_run.proofs.ClapWalk.{at_end, fault_from, rows_from, Agrees, no_texts, agrees-from_start}

no_default-rows : (b : Bool) (rows : List Row) → cond b rows rows ≡ rows
no_default-rows true rows = refl
no_default-rows false rows = refl

no_default-fault : (b : Bool) (kinds : Kinds) → cond (b || true) [] kinds ≡ []
no_default-fault true kinds = refl
no_default-fault false kinds = refl

kept-option : (name : OptionName) (rows : List Row) → with_default rows (built_option name) ≡ rows
kept-option name rows = no_default-rows (has_row (name_of name) rows) rows

kept-plain : (rows : List Row) → with_default rows built_plain ≡ rows
kept-plain rows = no_default-rows (has_row (codes "plain") rows) rows

no_fault : (a : Rule) (rows : List Row) → is_empty a.defaults ≡ true → default_fault rows a ≡ []
no_fault a rows none =
    ap (λ b. cond (has_row a.id rows || b) [] (given_default_fault a a.defaults)) none
    ∙ no_default-fault (has_row a.id rows) (given_default_fault a a.defaults)

-- no option has a default
no_defaults : (rows : List Row) → defaults_fault rows rules ≡ []
unfolding defaults_fault
no_defaults rows =
    let behind_workers = with_default rows (built_option Workers) in
    let behind_table = with_default behind_workers (built_option Table) in
    λ i. or_else (no_fault (built_option Workers) rows refl i)
    (or_else (no_fault (built_option Table) behind_workers refl i) (or_else (no_fault built_plain behind_table refl i) []))

rows-kept : (h : Held) → finished rules h ≡ (settled rules h).rows
rows-kept h =
    let rows = (settled rules h).rows in
    ap (λ v. with_default (with_default v (built_option Table)) built_plain) (kept-option Workers rows)
    ∙ ap (λ v. with_default v built_plain) (kept-option Table rows) ∙ kept-plain rows

abbrev built_command : App
built_command = record { top = built_shape; subs = [] }

fault-level : (words : List Text) (stop : Option (Text × List Text))
    → level_fault built_shape [] nothing_held words (is_some (entered built_command stop)) (entered_fault built_command stop)
    ≡ fault_from (standing [] None idle false) words
fault-level words stop = go stop (at_end (standing [] None idle false) words).held
  where
    go : (stop : Option (Text × List Text)) (h : Held)
        → or_else (walk_fault built_shape [] (standing [] None idle false) words)
        (or_else (entered_fault built_command stop) (or_else (settle_fault rules false h)
        (or_else (defaults_fault (settled rules h).rows rules)
        (check_fault built_shape (finished rules h) (is_some (entered built_command stop))))))
        ≡ or_else (walk_fault built_shape [] (standing [] None idle false) words) (or_else (settle_fault rules false h) [])
    go None h = ap (λ kinds. or_else (walk_fault built_shape [] (standing [] None idle false) words)
        (or_else (settle_fault rules false h) (or_else kinds []))) (no_defaults (settled rules h).rows)
    go (Some p) h = ap (λ kinds. or_else (walk_fault built_shape [] (standing [] None idle false) words)
        (or_else (settle_fault rules false h) (or_else kinds []))) (no_defaults (settled rules h).rows)

-- the kinds of error that the command gives, and its matches
fault_of-words : (words : List Text) → fault_of given_command words ≡ fault_from (standing [] None idle false) (drop 1 words)
fault_of-words words = fault-level (drop 1 words) (at_end (standing [] None idle false) (drop 1 words)).stopped

matches_of-words : (words : List Text) → matches_of given_command words ≡ rows_from (standing [] None idle false) (drop 1 words)
matches_of-words words = rows-kept (at_end (standing [] None idle false) (drop 1 words)).held

-- ---- what the matches hold

-- the first value is the first of all
first_of-all : (id : Text) (rows : List Row) → first_of id rows ≡ option_and_then (λ values. slice_get values 0) (all_of id rows)
first_of-all id rows = go (find (λ r. bytes_eq r.id id) rows)
  where
    go : (row : Option Row) → option_and_then (λ (r : Row). slice_get r.values 0) row
        ≡ option_and_then (λ values. slice_get values 0) (option_map (λ (r : Row). r.values) row)
    go None = refl
    go (Some r) = refl

first-one : (text : Option Text) → option_and_then (λ values. slice_get values 0) (one text) ≡ text
first-one None = refl
first-one (Some text) = refl

all-several : (words : List Text) → unwrap_or (several words) [] ≡ words
all-several [] = refl
all-several (word ∷ words) = refl

first_value-one : (f : Found) (id : Text) (text : Option Text) → all_of id (rows_of f) ≡ one text → first_value f id ≡ text
first_value-one f id text e =
    first_value-rows f id ∙ first_of-all id (rows_of f) ∙ ap (option_and_then (λ values. slice_get values 0)) e ∙ first-one text

-- rows that hold texts are those of matches that hold them
texts_in-shown : (f : Found) (texts : WordTexts) → Shows texts (rows_of f) → texts ≡ texts_in f
texts_in-shown f texts shows = λ i. record {
  workers = sym (first_value-one f (codes "workers") texts.workers shows.workers) i;
  places = sym (first_value-one f (codes "table") texts.places shows.places) i;
  plain = sym (ap (λ o. unwrap_or o []) (raw_values-rows f (codes "plain") ∙ shows.plain) ∙ all-several texts.plain) i;
}

-- what is said with the words is what is gathered from them
said_by-gathered : (words : List Text) → said_by words ≡ option_and_then said_in (gathered Free no_texts words)
said_by-gathered words =
    with_words-gathered Free no_texts nothing_said words (record { workers = refl; places = refl; plain = refl })

said-agreed : (texts : Option WordTexts) (kinds : Kinds) (f : Found) → kinds ≡ [] → Agrees texts kinds (rows_of f)
    → option_and_then said_in texts ≡ said_in (texts_in f)
said-agreed None kinds f none agrees = absurd (subst Fails none agrees)
said-agreed (Some texts) kinds f none agrees = ap said_in (texts_in-shown f texts agrees.1)

unsaid-agreed : (texts : Option WordTexts) (kinds : Kinds) (rows : List Row) → Fails kinds → Agrees texts kinds rows
    → option_and_then said_in texts ≡ None
unsaid-agreed None kinds rows fails agrees = refl
unsaid-agreed (Some texts) kinds rows fails agrees = absurd (subst Fails agrees.0 fails)

-- where the command has no error, its matches hold what is said
pub said_by-matches : (words : List Text) (f : Found) → All IsUtf8 (drop 1 words) → fault_of given_command words ≡ []
    → rows_of f ≡ matches_of given_command words → said_by (drop 1 words) ≡ said_in (texts_in f)
said_by-matches words f utf8 none rows =
    said_by-gathered (drop 1 words)
    ∙ said-agreed (gathered Free no_texts (drop 1 words)) (fault_from (standing [] None idle false) (drop 1 words)) f
    (sym (fault_of-words words) ∙ none)
    (subst (λ r. Agrees (gathered Free no_texts (drop 1 words)) (fault_from (standing [] None idle false) (drop 1 words)) r)
    (sym (rows ∙ matches_of-words words)) (agrees-from_start (drop 1 words) utf8))

-- one of no kinds
some_kind : (kinds : Kinds) (k : ErrorKind) → IsAmong k kinds → Fails kinds
some_kind [] k among = among
some_kind (other ∷ kinds) k among = tt

-- where it has one, nothing is said
pub said_by-error : (words : List Text) (k : ErrorKind) → All IsUtf8 (drop 1 words) → IsAmong k (fault_of given_command words)
    → said_by (drop 1 words) ≡ None
said_by-error words k utf8 among =
    said_by-gathered (drop 1 words)
    ∙ unsaid-agreed (gathered Free no_texts (drop 1 words)) (fault_from (standing [] None idle false) (drop 1 words)) _
    (subst Fails (fault_of-words words) (some_kind (fault_of given_command words) k among)) (agrees-from_start (drop 1 words) utf8)

module _ {Z : Type 0} where
  each_utf8 : (words : List (String Z)) → All IsUtf8 (map string_bytes words)
  each_utf8 [] k d lt = absurd (omega arith)
  each_utf8 (word ∷ words) zero d lt = IsUtf8-string_bytes word
  each_utf8 (word ∷ words) (suc k) d lt = each_utf8 words k d (omega (arith, lt))

  -- each word after the first is UTF-8
  pub others_utf8 : (words : List (String Z)) → All IsUtf8 (drop 1 (map string_bytes words))
  others_utf8 [] = each_utf8 []
  others_utf8 (word ∷ words) = each_utf8 words
