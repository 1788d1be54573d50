-- The values of the evaluation are those that its names reach.
use Rattle.std.proofs.Common.{◌≡◌, ℕ, zero, suc, ◌+◌, ◌*◌, Bool, true, false, nat_lt, List, [], ◌∷◌, ◌++◌, map, length, bytes_eq, slice_index_or, Option, Some, None, Result, Ok, Err, IfOk, if◌then◌else◌, refl, sym, ap, ap₂, ◌∙◌, subst}
use Rattle.std.proofs.lemmas.List.{map-append}
use Rattle.std.specs.Set.{distinct_count}
use Rattle.nfg_text.specs.Graphemes.{graphemes_of}
use Rattle.nfg_decode.specs.declared.encoding.Encoding.{Encoding}
use Rattle.nfg_decode.specs.Decoded.{Decoded}
use Rattle.nfg_decode.specs.Encoding.{decode}
use Rattle.nfg_syn.specs.Learned.{first_long}
use Rattle.nfg_script.specs.declared.command.Command.{Command}
use Rattle.nfg_script.specs.declared.command.Command.TheVariants.{Load, Text, Cat, Sub, Rep, Find, Rfind, Eq, Cmp, Len, Show, Shape, Put}
use Rattle.nfg_script.specs.Script.{NumberedCommand}
use Rattle.nfg_work.specs.declared.output.Cause.{Cause}
use Rattle.nfg_work.specs.declared.output.Cause.TheVariants.{OutOfRange, StringTooLong, AllTooLong, TableFull, OutputTooLong}
use Rattle.nfg_work.specs.declared.output.FileRead.{FileRead}
use Rattle.nfg_work.specs.declared.output.FileRead.TheVariants.{Bytes, TooLong, Failed}
use Rattle.nfg_work.specs.Values.{Value, no_value, flat, part, joined, repeated}
use Rattle.nfg_work.specs.Evaluation as evaluation
use Rattle.nfg_work.specs.Evaluation.{State, join_limit, cost_limit, output_limit, used_with, with_clusters, define, define_value, define_joined, define_decoded, define_part, print, put, step, first_state}
use Rattle.nfg_work.specs.Laws.{state_after}
use Rattle.nfg_work.specs.Reach.{Reached, if_short, decoded_value, load_value, cat_value, rep_value, sub_value, value_of, files_behind, reach_step, reached_from, values_of, ValuesAreReached}

-- what the lines behind a step lead to
abbrev pub rest_of : (places : ℕ) → List NumberedCommand → Result State Cause → Result State Cause
rest_of places lines result = elim result [
  | Ok next ↦ state_after places next lines
  | Err cause ↦ Err cause
]

-- each value of the state is there
abbrev pub there : List Value → List (Option Value)
there values = map (λ value. Some value) values

-- the names have reached the values of the state, and the same files are left
pub record HasReached (reached : Reached) (state : State) : Type 0 where
  pub values : reached.values ≡ there state.values
  pub reads : reached.reads ≡ state.reads

pub there-at : (values : List Value) (name : ℕ) → slice_index_or (there values) name (Some no_value) ≡ Some (slice_index_or values name no_value)
there-at [] name = refl
there-at (v ∷ values) zero = refl
there-at (v ∷ values) (suc name) = there-at values name

-- the value of a name
value_at : (values : List (Option Value)) (state : State) (name : ℕ) → values ≡ there state.values → value_of values name ≡ Some (evaluation.value_of state name)
value_at values state name is = ap (λ v. slice_index_or v name (Some no_value)) is ∙ there-at state.values name

-- one value more, and the files that are left
next_reached : (values : List (Option Value)) (state next : State) (value : Value) (found : Option Value) (reads : List FileRead) → values ≡ there state.values
    → found ≡ Some value → next.values ≡ state.values ++ value ∷ [] → reads ≡ next.reads → HasReached (record { values = values ++ found ∷ []; reads = reads }) next
next_reached values state next value found reads is found_is next_is reads_are = record {
  values = (λ i. is i ++ found_is i ∷ []) ∙ sym (map-append (λ v. Some v) state.values (value ∷ [])) ∙ ap there (sym next_is);
  reads = reads_are;
}

unless : (refused : Bool) (cause : Cause) (result : Result State Cause) (P : State → Type 0) → IfOk result P → IfOk (if refused then Err cause else result) P
unless true cause result P all = tt
unless false cause result P all = all

unless_so : (refused : Bool) (cause : Cause) (result : Result State Cause) (P : State → Type 0) → (refused ≡ false → IfOk result P) → IfOk (if refused then Err cause else result) P
unless_so true cause result P all = tt
unless_so false cause result P all = all refl

placed : (places : ℕ) (used : List (List ℕ)) (first : Option ℕ) (over : Bool) (state : State) (P : State → Type 0) → (first ≡ None → P (record state { used = used }))
    → IfOk (with_clusters places used first (if over then Err AllTooLong else Ok state)) P
placed places used first true state P all = tt
placed places used (Some at) false state P all = tt
placed places used None false state P all =
    unless (nat_lt places (distinct_count bytes_eq used)) TableFull (Ok (record state { used = used })) P (all refl)

short_found : (value : Value) (first : Option ℕ) → first_long value.clusters ≡ first → first ≡ None → if_short value ≡ Some value
short_found value None is none = rw (if_short, is) refl
short_found value (Some at) is none = cc

-- a value that the step defines is the one that is reached
reached_value : (places : ℕ) (values : List (Option Value)) (state : State) (cost : ℕ) (value : Value) (found : Option Value) (reads : List FileRead)
    → values ≡ there state.values → reads ≡ state.reads → (first_long value.clusters ≡ None → found ≡ Some value)
    → IfOk (define_value places state cost value) (HasReached (record { values = values ++ found ∷ []; reads = reads }))
reached_value places values state cost value found reads is same found_is =
    placed places (used_with state value.clusters) (first_long value.clusters) (nat_lt cost_limit (state.spent + cost))
    (record state { values = state.values ++ value ∷ []; spent = state.spent + cost }) (HasReached (record { values = values ++ found ∷ []; reads = reads }))
    (λ short. next_reached values state _ value found reads is (found_is short) refl same)

flat_reached : (places : ℕ) (values : List (Option Value)) (state : State) (cost : ℕ) (text : List ℕ) (reads : List FileRead)
    → values ≡ there state.values → reads ≡ state.reads
    → IfOk (define_value places state cost (flat (graphemes_of text))) (HasReached (record { values = values ++ if_short (flat (graphemes_of text)) ∷ []; reads = reads }))
flat_reached places values state cost text reads is same =
    reached_value places values state cost (flat (graphemes_of text)) (if_short (flat (graphemes_of text))) reads is same
    (λ short. short_found (flat (graphemes_of text)) (first_long (graphemes_of text)) refl short)

decoded_reached : (places : ℕ) (values : List (Option Value)) (state : State) (cost : ℕ) (decoded : Decoded) (reads : List FileRead)
    → values ≡ there state.values → reads ≡ state.reads
    → IfOk (define_decoded places state cost decoded) (HasReached (record { values = values ++ decoded_value decoded ∷ []; reads = reads }))
decoded_reached places values state cost (Ok text) reads is same = flat_reached places values state cost text reads is same
decoded_reached places values state cost (Err at) reads is same = tt

load_reached : (places : ℕ) (values : List (Option Value)) (state : State) (name : ℕ) (e : Encoding) (reads : List FileRead) → values ≡ there state.values
    → IfOk (evaluation.load places state e reads) (HasReached (record { values = values ++ load_value e reads ∷ []; reads = files_behind (Load name e) reads }))
load_reached places values state name e [] is = tt
load_reached places values state name e (Failed ∷ rest) is = tt
load_reached places values state name e (TooLong ∷ rest) is = tt
load_reached places values state name e (Bytes bytes ∷ rest) is =
    decoded_reached places values (record state { reads = rest }) (length bytes) (decode e bytes) rest is refl

cat_found : (a b : Value) → nat_lt join_limit (length a.clusters + length b.clusters) ≡ false → first_long (joined a b).clusters ≡ None
    → cat_value (Some a) (Some b) ≡ Some (joined a b)
cat_found a b fits short = ap (λ over. if over then None else if_short (joined a b)) fits ∙ short_found (joined a b) (first_long (joined a b).clusters) refl short

rep_found : (a : Value) (count : ℕ) → nat_lt join_limit (length a.clusters * count) ≡ false → first_long (repeated a count).clusters ≡ None
    → rep_value (Some a) count ≡ Some (repeated a count)
rep_found a count fits short =
    ap (λ over. if over then None else if_short (repeated a count)) fits ∙ short_found (repeated a count) (first_long (repeated a count).clusters) refl short

joined_reached : (places : ℕ) (reached : Reached) (state : State) (count : ℕ) (value : Value) (found : Option Value) → HasReached reached state
    → (nat_lt join_limit count ≡ false → first_long value.clusters ≡ None → found ≡ Some value)
    → IfOk (define_joined places state count value) (HasReached (record { values = reached.values ++ found ∷ []; reads = reached.reads }))
joined_reached places reached state count value found has found_is =
    unless_so (nat_lt join_limit count) StringTooLong (define_value places state count value) (HasReached (record { values = reached.values ++ found ∷ []; reads = reached.reads }))
    (λ fits. reached_value places reached.values state count value found reached.reads has.values has.reads (found_is fits))

part_reached : (reached : Reached) (state : State) (value : Value) (found : Option Value) (start count : ℕ) → HasReached reached state
    → (nat_lt (length value.clusters) start ≡ false → found ≡ Some (part value start count))
    → IfOk (define_part state value start count) (HasReached (record { values = reached.values ++ found ∷ []; reads = reached.reads }))
part_reached reached state value found start count has found_is =
    unless_so (nat_lt (length value.clusters) start) OutOfRange (define state (length (part value start count).clusters) (part value start count))
    (HasReached (record { values = reached.values ++ found ∷ []; reads = reached.reads }))
    (λ inside. unless (nat_lt cost_limit (state.spent + length (part value start count).clusters)) AllTooLong
    (Ok (record state { values = state.values ++ part value start count ∷ []; spent = state.spent + length (part value start count).clusters }))
    (HasReached (record { values = reached.values ++ found ∷ []; reads = reached.reads }))
    (next_reached reached.values state _ (part value start count) found reached.reads has.values (found_is inside) refl has.reads))

printed_reached : (reached : Reached) (state : State) (bytes : List ℕ) → HasReached reached state → IfOk (print state bytes) (HasReached reached)
printed_reached reached state bytes has =
    unless (nat_lt output_limit (length (state.output ++ bytes))) OutputTooLong (Ok (record state { output = state.output ++ bytes })) (HasReached reached)
    (record { values = has.values; reads = has.reads })

put_reached : (reached : Reached) (state : State) (bytes : List ℕ) (first : Option ℕ) → HasReached reached state → IfOk (put state bytes first) (HasReached reached)
put_reached reached state bytes None has = printed_reached reached state bytes has
put_reached reached state bytes (Some at) has = tt

pub step_reached : (places : ℕ) (reached : Reached) (state : State) (numbered : NumberedCommand) (command : Command) → HasReached reached state
    → IfOk (step places state numbered command) (HasReached (reach_step reached numbered command))
step_reached places reached state numbered (Load name e) has =
    let P : List FileRead → Type 0 =
    λ rs. IfOk (evaluation.load places state e state.reads) (HasReached (record { values = reached.values ++ load_value e rs ∷ []; reads = files_behind (Load name e) rs })) in
    subst P (sym has.reads) (load_reached places reached.values state name e state.reads has.values)
step_reached places reached state numbered (Text name) has = flat_reached places reached.values state (length numbered.codes) numbered.codes reached.reads has.values has.reads
step_reached places reached state numbered (Cat name a b) has =
    joined_reached places reached state _ (joined (evaluation.value_of state a) (evaluation.value_of state b)) _ has
    (λ fits short. ap₂ cat_value (value_at reached.values state a has.values) (value_at reached.values state b has.values)
    ∙ cat_found (evaluation.value_of state a) (evaluation.value_of state b) fits short)
step_reached places reached state numbered (Sub name a start count) has =
    part_reached reached state (evaluation.value_of state a) _ start count has
    (λ inside. ap (λ v. sub_value v start count) (value_at reached.values state a has.values)
    ∙ ap (λ past. if past then None else Some (part (evaluation.value_of state a) start count)) inside)
step_reached places reached state numbered (Rep name a count) has =
    joined_reached places reached state _ (repeated (evaluation.value_of state a) count) _ has
    (λ fits short. ap (λ v. rep_value v count) (value_at reached.values state a has.values) ∙ rep_found (evaluation.value_of state a) count fits short)
step_reached places reached state numbered (Find a b at) has = printed_reached reached state _ has
step_reached places reached state numbered (Rfind a b at) has = printed_reached reached state _ has
step_reached places reached state numbered (Eq a b) has = printed_reached reached state _ has
step_reached places reached state numbered (Cmp a b) has = printed_reached reached state _ has
step_reached places reached state numbered (Len a) has = printed_reached reached state _ has
step_reached places reached state numbered (Show a) has = printed_reached reached state _ has
step_reached places reached state numbered (Shape a) has = printed_reached reached state _ has
step_reached places reached state numbered (Put a e) has = put_reached reached state _ _ has

rest_reached : (places : ℕ) (reached : Reached) (lines : List NumberedCommand) (result : Result State Cause) → IfOk result (HasReached reached)
    → ((next : State) → HasReached reached next → IfOk (state_after places next lines) (λ last. (reached_from reached lines).values ≡ there last.values))
    → IfOk (rest_of places lines result) (λ last. (reached_from reached lines).values ≡ there last.values)
rest_reached places reached lines (Ok next) has rest = rest next has
rest_reached places reached lines (Err cause) has rest = tt

lines_reached : (places : ℕ) (reached : Reached) (state : State) (lines : List NumberedCommand) → HasReached reached state
    → IfOk (state_after places state lines) (λ last. (reached_from reached lines).values ≡ there last.values)
lines_reached places reached state [] has = has.values
lines_reached places reached state (numbered ∷ lines) has =
    rest_reached places (reach_step reached numbered numbered.command) lines (step places state numbered numbered.command)
    (step_reached places reached state numbered numbered.command has)
    (λ next so. lines_reached places (reach_step reached numbered numbered.command) next lines so)

pub values_are_reached : ValuesAreReached
unfolding values_of
values_are_reached places reads lines =
    lines_reached places (record { values = []; reads = reads }) (first_state reads) lines (record { values = refl; reads = refl })
