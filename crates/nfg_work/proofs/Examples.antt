-- Worked rows of the evaluation.
use Rattle.std.proofs.Common.{◌≡◌, ℕ, true, false, List, [], ◌∷◌, ◌++◌, length, nat_lt, codes, Some, None, Ok, Err, refl}
use Rattle.std.specs.Fmt.{digits}
use Rattle.nfg_decode.specs.declared.encoding.Encoding.TheVariants.{Utf8, Latin1}
use Rattle.nfg_script.specs.declared.command.Command.TheVariants.{Load, Text, Cat, Show}
use Rattle.nfg_script.specs.declared.command.Command.{Command}
use Rattle.nfg_script.specs.Script.{NumberedCommand}
use Rattle.nfg_work.specs.declared.output.Cause.TheVariants.{CannotRead, OutOfRange, AllTooLong, ClusterTooLong, TableFull, OutputTooLong}
use Rattle.nfg_work.specs.declared.output.FileRead.TheVariants.{Bytes, Failed}
use Rattle.nfg_seam.specs.ClusterPieces.{is_narrow}
use Rattle.nfg_work.specs.Values.{no_value}
use Rattle.nfg_work.specs.Printing.{shown, shape}
use Rattle.nfg_work.specs.Evaluation.{output_limit, takes_place, first_lacking, first_state, define, define_part, with_places, with_clusters, print, evaluate}
use Rattle.nfg_work.specs.Laws.{has_failed, HasEntries}
use Rattle.nfg_work.specs.Levels.{levels}
use Rattle.nfg_work.specs.Reach.{cat_value, sub_value, load_value, values_of, files_behind}

-- CR LF takes no place
line_end_takes_none : takes_place (0xD ∷ 0xA ∷ []) ≡ false
line_end_takes_none = refl

marked_takes_one : takes_place (0x71 ∷ 0x323 ∷ []) ≡ true
marked_takes_one = refl

-- CR LF is narrow, and é is not
narrow_text : is_narrow ((0x61 ∷ []) ∷ (0xD ∷ 0xA ∷ []) ∷ []) ≡ true
narrow_text = refl

wide_text : is_narrow ((0xE9 ∷ []) ∷ []) ≡ false
wide_text = refl

shown_text : shown ((0xE9 ∷ []) ∷ (0xD ∷ 0xA ∷ []) ∷ (0x71 ∷ []) ∷ []) ≡ codes "E9 D+A 71"
unfolding digits
shown_text = refl

shape_of_none : shape [] ≡ codes "strands 0"
unfolding digits
shape_of_none = refl

shape_of_one : shape (record { length = 4; times = 1; narrow = true } ∷ []) ≡ codes "strands 1 4x1/8"
unfolding digits
shape_of_one = refl

-- a part may start at the end, and no later
part_at_the_end : define_part (first_state []) no_value 0 5 ≡ Ok (record (first_state []) { values = no_value ∷ [] })
part_at_the_end = refl

part_past_the_end : define_part (first_state []) no_value 1 0 ≡ Err OutOfRange
part_past_the_end = refl

-- all values together may cost 2^29, and no more
cost_at_the_limit : define (record (first_state []) { spent = 536870911 }) 1 no_value
    ≡ Ok (record (first_state []) { values = no_value ∷ []; spent = 536870912 })
cost_at_the_limit = refl

cost_past_the_limit : define (record (first_state []) { spent = 536870911 }) 2 no_value ≡ Err AllTooLong
cost_past_the_limit = refl

-- the cost is looked at before the clusters
long_cluster : with_clusters 16 [] (Some 2) (Ok (first_state [])) ≡ Err (ClusterTooLong 2)
long_cluster = refl

cost_before_long_cluster : with_clusters 16 [] (Some 2) (Err AllTooLong) ≡ Err AllTooLong
cost_before_long_cluster = refl

-- output grows by what is printed, unless it would be too long
printed_behind : print (record (first_state []) { output = 0x31 ∷ [] }) (0xA ∷ [])
    ≡ Ok (record (first_state []) { output = 0x31 ∷ 0xA ∷ [] })
printed_behind = refl

output_past_the_limit : (output bytes : List ℕ) → nat_lt output_limit (length (output ++ bytes)) ≡ true
    → print (record (first_state []) { output = output }) bytes ≡ Err OutputTooLong
output_past_the_limit output bytes over = rw over refl

-- Latin-1 ends at FF
lacking_second : first_lacking Latin1 ((0xFF ∷ []) ∷ (0x100 ∷ []) ∷ []) ≡ Some 1
lacking_second = refl

-- two different clusters and one place
two_clusters : with_places 1 ((0x71 ∷ 0x323 ∷ []) ∷ (0x71 ∷ 0x307 ∷ []) ∷ []) (first_state []) ≡ Err TableFull
two_clusters = refl

-- the same cluster twice
one_cluster : with_places 1 ((0x71 ∷ 0x323 ∷ []) ∷ (0x71 ∷ 0x323 ∷ []) ∷ []) (first_state [])
    ≡ Ok (record (first_state []) { used = (0x71 ∷ 0x323 ∷ []) ∷ (0x71 ∷ 0x323 ∷ []) ∷ [] })
one_cluster = refl

-- load a utf8 f, where f can't be read
load_alone : List NumberedCommand
load_alone = record { line = 3; command = Load 0 Utf8; path = codes "f"; codes = [] } ∷ []

unread : evaluate load_alone (Failed ∷ []) 16 ≡ record { bytes = []; refused = Some (record { line = 3; cause = CannotRead }) }
unfolding evaluate load_alone
unread = refl

a_failed_entry : has_failed (Bytes (0x61 ∷ []) ∷ Failed ∷ []) ≡ true
a_failed_entry = refl

no_failed_entry : has_failed (Bytes (0x61 ∷ []) ∷ []) ≡ false
no_failed_entry = refl

-- behind a failed entry none is wanted
entries_to_the_failed : HasEntries (codes "f" ∷ codes "g" ∷ []) (Failed ∷ [])
entries_to_the_failed = tt

-- text a, text b, text c, cat d a b, show d, cat e d c, show e
three_texts : List NumberedCommand
three_texts =
    command (Text 0) ∷ command (Text 1) ∷ command (Text 2) ∷ command (Cat 3 0 1) ∷ command (Show 3) ∷ command (Cat 4 3 2)
    ∷ command (Show 4) ∷ []
  where
    command : Command → NumberedCommand
    command of = record { line = 1; command = of; path = []; codes = [] }

three_levels : levels three_texts ≡ 0 ∷ 0 ∷ 0 ∷ 1 ∷ 2 ∷ 2 ∷ 3 ∷ []
unfolding levels three_texts
three_levels = refl

-- what uses a name without a value has none
joined_to_nothing : cat_value (Some no_value) None ≡ None
joined_to_nothing = refl

-- a part may start at the end, and no later
part_reached : sub_value (Some no_value) 0 5 ≡ Some no_value
part_reached = refl

part_not_reached : sub_value (Some no_value) 1 0 ≡ None
part_not_reached = refl

-- a file that can't be read gives none, and neither does one that is not there
unread_value : load_value Utf8 (Failed ∷ []) ≡ None
unread_value = refl

absent_value : load_value Utf8 [] ≡ None
absent_value = refl

unread_name : values_of load_alone (Failed ∷ []) ≡ None ∷ []
unfolding values_of load_alone
unread_name = refl

-- each load takes one file
next_file : files_behind (Load 0 Utf8) (Failed ∷ Bytes [] ∷ []) ≡ Bytes [] ∷ []
next_file = refl
