-- More places change nothing of what a script gives, unless a line was refused for a full table.
use Rattle.std.proofs.Common.{◌≡◌, ◌≢◌, ℕ, ◌+◌, ◌*◌, ◌≤◌, Bool, true, false, bytes_eq, nat_lt, List, [], ◌∷◌, length, Option, Some, None, Result, Ok, Err, if◌then◌else◌, refl, ap, ◌∙◌, arith}
use Rattle.std.proofs.lemmas.Bool.{ltb-true, lt-ltb}
use Rattle.std.specs.Set.{distinct_count}
use Rattle.nfg_text.specs.Graphemes.{graphemes_of}
use Rattle.nfg_decode.specs.declared.encoding.Encoding.{Encoding}
use Rattle.nfg_decode.specs.Decoded.{Decoded}
use Rattle.nfg_decode.specs.Encoding.{decode}
use Rattle.nfg_syn.specs.Learned.{first_long}
use Rattle.nfg_script.specs.declared.command.Command.{Command}
use Rattle.nfg_script.specs.declared.command.Command.TheVariants.{Load, Text, Cat, Sub, Rep, Find, Rfind, Eq, Cmp, Len, Show, Shape, Put}
use Rattle.nfg_script.specs.Script.{NumberedCommand}
use Rattle.nfg_work.specs.declared.output.Cause.{Cause}
use Rattle.nfg_work.specs.declared.output.Cause.TheVariants.{StringTooLong, TableFull}
use Rattle.nfg_work.specs.declared.output.FileRead.{FileRead}
use Rattle.nfg_work.specs.declared.output.FileRead.TheVariants.{Bytes, TooLong, Failed}
use Rattle.nfg_work.specs.Values.{Value, flat, joined, repeated}
use Rattle.nfg_work.specs.Evaluation.{State, value_of, used_with, define, with_places, with_clusters, define_value, define_joined, join_limit, define_decoded, load, step, evaluate_from, evaluate, first_state}
use Rattle.nfg_work.specs.Laws.{HasEnoughPlaces, MorePlacesChangeNothing}
use Rattle.nfg_work.proofs.FailedReads.{output_of}

-- over more places comes what comes over fewer, unless these are full
abbrev Agrees : (fewer more : Result State Cause) → Type 0
Agrees fewer more = fewer ≢ Err TableFull → more ≡ fewer

full_agrees : (fewer more : Bool) (state : State) → (more ≡ true → fewer ≡ true)
    → Agrees (if fewer then Err TableFull else Ok state) (if more then Err TableFull else Ok state)
full_agrees true more state implies = λ room. absurd (room refl)
full_agrees false true state implies = let both = implies refl in cc
full_agrees false false state implies = λ room. refl

places_agree : (places more : ℕ) (used : List (List ℕ)) (state : State) → places ≤ more
    → Agrees (with_places places used state) (with_places more used state)
places_agree places more used state le =
    full_agrees (nat_lt places (distinct_count bytes_eq used)) (nat_lt more (distinct_count bytes_eq used)) (record state { used = used })
    (λ over. let above = ltb-true more (distinct_count bytes_eq used) over in
    lt-ltb places (distinct_count bytes_eq used) (omega (arith, le, above)))

clusters_agree : (places more : ℕ) (used : List (List ℕ)) (first : Option ℕ) (result : Result State Cause) → places ≤ more
    → Agrees (with_clusters places used first result) (with_clusters more used first result)
clusters_agree places more used first (Err cause) le = λ room. refl
clusters_agree places more used (Some at) (Ok state) le = λ room. refl
clusters_agree places more used None (Ok state) le = places_agree places more used state le

value_agrees : (places more : ℕ) (state : State) (cost : ℕ) (value : Value) → places ≤ more
    → Agrees (define_value places state cost value) (define_value more state cost value)
value_agrees places more state cost value le =
    clusters_agree places more (used_with state value.clusters) (first_long value.clusters) (define state cost value) le

unless_agrees : (refused : Bool) (cause : Cause) (fewer more : Result State Cause) → Agrees fewer more
    → Agrees (if refused then Err cause else fewer) (if refused then Err cause else more)
unless_agrees true cause fewer more agrees = λ room. refl
unless_agrees false cause fewer more agrees = agrees

joined_agrees : (places more : ℕ) (state : State) (count : ℕ) (value : Value) → places ≤ more
    → Agrees (define_joined places state count value) (define_joined more state count value)
joined_agrees places more state count value le =
    unless_agrees (nat_lt join_limit count) StringTooLong (define_value places state count value) (define_value more state count value)
    (value_agrees places more state count value le)

decoded_agrees : (places more : ℕ) (state : State) (cost : ℕ) (decoded : Decoded) → places ≤ more
    → Agrees (define_decoded places state cost decoded) (define_decoded more state cost decoded)
decoded_agrees places more state cost (Ok text) le = value_agrees places more state cost (flat (graphemes_of text)) le
decoded_agrees places more state cost (Err at) le = λ room. refl

load_agrees : (places more : ℕ) (state : State) (enc : Encoding) (reads : List FileRead) → places ≤ more
    → Agrees (load places state enc reads) (load more state enc reads)
load_agrees places more state enc [] le = λ room. refl
load_agrees places more state enc (Failed ∷ reads) le = λ room. refl
load_agrees places more state enc (TooLong ∷ reads) le = λ room. refl
load_agrees places more state enc (Bytes bytes ∷ reads) le =
    decoded_agrees places more (record state { reads = reads }) (length bytes) (decode enc bytes) le

step_agrees : (places more : ℕ) (state : State) (numbered : NumberedCommand) (command : Command) → places ≤ more
    → Agrees (step places state numbered command) (step more state numbered command)
step_agrees places more state numbered (Load name enc) le = load_agrees places more state enc state.reads le
step_agrees places more state numbered (Text name) le =
    value_agrees places more state (length numbered.codes) (flat (graphemes_of numbered.codes)) le
step_agrees places more state numbered (Cat name a b) le =
    let left = value_of state a in
    let right = value_of state b in
    joined_agrees places more state (length left.clusters + length right.clusters) (joined left right) le
step_agrees places more state numbered (Rep name a count) le =
    let value = value_of state a in joined_agrees places more state (length value.clusters * count) (repeated value count) le
step_agrees places more state numbered (Sub name a start count) le = λ room. refl
step_agrees places more state numbered (Find a b at) le = λ room. refl
step_agrees places more state numbered (Rfind a b at) le = λ room. refl
step_agrees places more state numbered (Eq a b) le = λ room. refl
step_agrees places more state numbered (Cmp a b) le = λ room. refl
step_agrees places more state numbered (Len a) le = λ room. refl
step_agrees places more state numbered (Show a) le = λ room. refl
step_agrees places more state numbered (Shape a) le = λ room. refl
step_agrees places more state numbered (Put a enc) le = λ room. refl

-- a line, and those behind it
line_agrees : (places more line : ℕ) (script : List NumberedCommand) (output : List ℕ) (fewer result : Result State Cause) → Agrees fewer result
    → ((next : State) → HasEnoughPlaces (evaluate_from places next script) → evaluate_from more next script ≡ evaluate_from places next script)
    → HasEnoughPlaces (output_of places line script output fewer)
    → output_of more line script output result ≡ output_of places line script output fewer
line_agrees places more line script output (Ok next) result agrees rest room =
    ap (output_of more line script output) (agrees (λ is. cc)) ∙ rest next room
line_agrees places more line script output (Err cause) result agrees rest room =
    ap (output_of more line script output) (agrees (λ is. room cc))

lines_agree : (places more : ℕ) (state : State) (script : List NumberedCommand) → places ≤ more → HasEnoughPlaces (evaluate_from places state script)
    → evaluate_from more state script ≡ evaluate_from places state script
lines_agree places more state [] le room = refl
lines_agree places more state (numbered ∷ script) le room =
    line_agrees places more numbered.line script state.output (step places state numbered numbered.command) (step more state numbered numbered.command)
    (step_agrees places more state numbered numbered.command le) (λ next there. lines_agree places more next script le there) room

pub more_places_change_nothing : MorePlacesChangeNothing
unfolding evaluate
more_places_change_nothing places more reads script le room = lines_agree places more (first_state reads) script le room
