-- Strings that were made are those of the values.
use Rattle.std.proofs.Common.{◌≡◌, ℕ, ◌+◌, ◌*◌, ◌<◌, ◌≤◌, false, nat_lt, List, length, Option, Some, None, Result, Ok, Err, if◌then◌else◌, refl, sym, ap, ap₂, ◌∙◌, subst}
use Rattle.std.proofs.lemmas.Bool.{lt-ltb, le-ltb}
use Rattle.nfg_text.specs.Operations.{concatenation, repetition}
use Rattle.nfg_text.specs.Graphemes.{graphemes_of}
use Rattle.nfg_decode.specs.Decoded.{Decoded}
use Rattle.nfg_syn.specs.Known.{Texts, IsKnowledge}
use Rattle.nfg_syn.specs.Learned.{first_long}
use Rattle.nfg_syn.specs.Seen.{Seen}
use Rattle.nfg_strand.specs.Value.{Rope}
use Rattle.nfg_stream.specs.declared.error.LoadError.{LoadError}
use Rattle.nfg_stream.specs.declared.error.LoadError.TheVariants.{Malformed, ClusterLong, RowFull as LoadedFull, NoPortion as NoLoadedPortion, OutOfMemory as NoMemory}
use Rattle.nfg_stream.specs.Load.{HasMade, HasLoaded}
use Rattle.nfg_seam.specs.ConcatPieces.{concat_pieces, repetition_pieces}
use Rattle.nfg_seam.specs.Made.{HasJoined}
use Rattle.nfg_seam.specs.declared.error.SeamError.{SeamError}
use Rattle.nfg_seam.specs.declared.error.SeamError.TheVariants.{TooLong as SeamTooLong, ClusterLong as JoinedLong, RowFull as JoinedFull, NoPortion as NoJoinedPortion, OutOfMemory as NoJoinedMemory}
use Rattle.nfg_work.specs.declared.output.Cause.{Cause}
use Rattle.nfg_work.specs.declared.output.Cause.TheVariants.{ClusterTooLong, StringTooLong, Malformed as TextMalformed}
use Rattle.nfg_work.specs.declared.stop.Stop.{Stop}
use Rattle.nfg_work.specs.Values.{Value, flat, joined, repeated}
use Rattle.nfg_work.specs.Evaluation.{join_limit}
use Rattle.nfg_work.specs.Holding.{IsStringOf, IsStopOf, IsSeamStop}
use Rattle.nfg_work.specs.Making.{IsMadeOf, unless_long, unless_many, cat_wanted, rep_wanted, file_value}
use Rattle.nfg_work.proofs.Narrow.{flat_same}

-- what a value without a long cluster is, and one with such a cluster
abbrev of_first : Option ℕ → Value → Result Value Cause
of_first first value = elim first [
  | None ↦ Ok value
  | Some at ↦ Err (ClusterTooLong at)
]

pub unless_long-none : (value : Value) → first_long value.clusters ≡ None → unless_long value ≡ Ok value
unless_long-none value short = ap (λ first. of_first first value) short

pub unless_long-some : (value : Value) (at : ℕ) → first_long value.clusters ≡ Some at → unless_long value ≡ Err (ClusterTooLong at)
unless_long-some value at long = ap (λ first. of_first first value) long

of_first-ok : (first : Option ℕ) (value v : Value) → of_first first value ≡ Ok v → (first ≡ None) × (value ≡ v)
of_first-ok None value v e = (refl, cc)
of_first-ok (Some at) value v e = cc

-- the value itself was wanted, and it has no long cluster
pub unless_long-ok : (value v : Value) → unless_long value ≡ Ok v → (first_long value.clusters ≡ None) × (value ≡ v)
unless_long-ok value v e = of_first-ok (first_long value.clusters) value v e

of_first-err : (first : Option ℕ) (value : Value) (cause : Cause) → of_first first value ≡ Err cause → (at : ℕ) × (first ≡ Some at) × (cause ≡ ClusterTooLong at)
of_first-err None value cause e = cc
of_first-err (Some at) value cause e = (at, refl, cc)

-- one of its clusters is too long
pub unless_long-err : (value : Value) (cause : Cause) → unless_long value ≡ Err cause → (at : ℕ) × (first_long value.clusters ≡ Some at) × (cause ≡ ClusterTooLong at)
unless_long-err value cause e = of_first-err (first_long value.clusters) value cause e

pub text_made : (places : ℕ) (pass after : Seen) (clusters : List (List ℕ)) (string : Rope) → IsKnowledge places after.known after.places
    → HasMade clusters pass after (Ok string) → IsMadeOf (unless_long (flat clusters)) pass after (Ok string)
text_made places pass after clusters string knows made = (
  flat clusters,
  unless_long-none (flat clusters) made.short,
  record {
    short = made.short;
    is = record {
      represents = made.represents;
      pieces = made.pieces ∙ flat_same places after.known after.places knows string.graphemes clusters made.represents;
    };
    learned = made.learned;
  },
)

pub text_stopped : (pass after : Seen) (clusters : List (List ℕ)) (error : LoadError) (stop : Stop) → HasMade clusters pass after (Err error) → IsStopOf error stop
    → IsMadeOf (unless_long (flat clusters)) pass after (Err stop)
text_stopped pass after clusters (Malformed at) stop made is = absurd made
text_stopped pass after clusters (ClusterLong at) stop made is = rw is (unless_long-some (flat clusters) at made.0, made.1)
text_stopped pass after clusters LoadedFull stop made is = rw is (flat clusters, unless_long-none (flat clusters) made.short, made)
text_stopped pass after clusters NoLoadedPortion stop made is = rw is (flat clusters, unless_long-none (flat clusters) made.short, made)
text_stopped pass after clusters NoMemory stop made is = rw is tt

pub file_made : (places : ℕ) (pass after : Seen) (decoded : Decoded) (string : Rope) → IsKnowledge places after.known after.places
    → HasLoaded decoded pass after (Ok string) → IsMadeOf (file_value decoded) pass after (Ok string)
file_made places pass after (Ok text) string knows loaded = text_made places pass after (graphemes_of text) string knows loaded
file_made places pass after (Err at) string knows loaded = absurd loaded

pub file_stopped : (pass after : Seen) (decoded : Decoded) (error : LoadError) (stop : Stop) → HasLoaded decoded pass after (Err error) → IsStopOf error stop
    → IsMadeOf (file_value decoded) pass after (Err stop)
file_stopped pass after (Ok text) error stop loaded is = text_stopped pass after (graphemes_of text) error stop loaded is
file_stopped pass after (Err place) (Malformed at) stop loaded is = rw is (ap (λ p. Err (TextMalformed p)) (sym loaded.0), loaded.1)
file_stopped pass after (Err place) (ClusterLong at) stop loaded is = absurd loaded
file_stopped pass after (Err place) LoadedFull stop loaded is = absurd loaded
file_stopped pass after (Err place) NoLoadedPortion stop loaded is = absurd loaded
file_stopped pass after (Err place) NoMemory stop loaded is = rw is tt

-- ---- joined strings

pub unless_many-few : (count : ℕ) (value : Value) → nat_lt join_limit count ≡ false → unless_many count value ≡ unless_long value
unless_many-few count value few = ap (λ over. if over then Err StringTooLong else unless_long value) few

unless_many-over : (count : ℕ) (value : Value) → join_limit < count → unless_many count value ≡ Err StringTooLong
unless_many-over count value over = ap (λ many. if many then Err StringTooLong else unless_long value) (lt-ltb join_limit count over)

few : (count : ℕ) → count ≤ join_limit → nat_lt join_limit count ≡ false
few count most = le-ltb join_limit count most

joined_made : (count : ℕ) (value : Value) (pass after : Seen) (string : Rope) → HasJoined count value.clusters value.pieces pass after (Ok string)
    → IsMadeOf (unless_many count value) pass after (Ok string)
joined_made count value pass after string made = (
  value,
  unless_many-few count value (few count made.0) ∙ unless_long-none value made.1.short,
  record { short = made.1.short; is = record { represents = made.1.represents; pieces = made.1.in_pieces }; learned = made.1.learned },
)

joined_stopped : (count : ℕ) (value : Value) (pass after : Seen) (error : SeamError) (stop : Stop) → HasJoined count value.clusters value.pieces pass after (Err error)
    → IsSeamStop error stop → IsMadeOf (unless_many count value) pass after (Err stop)
joined_stopped count value pass after SeamTooLong stop made is = rw is (unless_many-over count value made.0, made.1)
joined_stopped count value pass after (JoinedLong at) stop made is =
    rw is (unless_many-few count value (few count made.0) ∙ unless_long-some value at made.1, made.2)
joined_stopped count value pass after JoinedFull stop made is =
    rw is (value, unless_many-few count value (few count made.0) ∙ unless_long-none value made.1.short, made.1)
joined_stopped count value pass after NoJoinedPortion stop made is =
    rw is (value, unless_many-few count value (few count made.0) ∙ unless_long-none value made.1.short, made.1)
joined_stopped count value pass after NoJoinedMemory stop made is = rw is tt

-- the pieces of strings that stand for values are those of the values
cat_joined : (known : Texts) (a b : Rope) (left right : Value) (old new : Seen) (result : Result Rope SeamError) → IsStringOf known a left → IsStringOf known b right
    → HasJoined (length left.clusters + length right.clusters) (concatenation left.clusters right.clusters)
    (concat_pieces left.clusters right.clusters a.pieces b.pieces) old new result
    → HasJoined (length left.clusters + length right.clusters) (joined left right).clusters (joined left right).pieces old new result
cat_joined known a b left right old new result is_left is_right made =
    let pieces = ap₂ (concat_pieces left.clusters right.clusters) is_left.pieces is_right.pieces in
    subst (λ ps. HasJoined (length left.clusters + length right.clusters) (joined left right).clusters ps old new result) pieces made

rep_joined : (known : Texts) (a : Rope) (value : Value) (times : ℕ) (old new : Seen) (result : Result Rope SeamError) → IsStringOf known a value
    → HasJoined (length value.clusters * times) (repetition value.clusters times) (repetition_pieces value.clusters a.pieces times) old new result
    → HasJoined (length value.clusters * times) (repeated value times).clusters (repeated value times).pieces old new result
rep_joined known a value times old new result is made =
    let pieces = ap (λ ps. repetition_pieces value.clusters ps times) is.pieces in
    subst (λ ps. HasJoined (length value.clusters * times) (repeated value times).clusters ps old new result) pieces made

pub both_made : (known : Texts) (a b : Rope) (left right : Value) (pass after : Seen) (string : Rope) → IsStringOf known a left → IsStringOf known b right
    → HasJoined (length left.clusters + length right.clusters) (concatenation left.clusters right.clusters)
    (concat_pieces left.clusters right.clusters a.pieces b.pieces) pass after (Ok string) → IsMadeOf (cat_wanted left right) pass after (Ok string)
both_made known a b left right pass after string is_left is_right made =
    joined_made _ (joined left right) pass after string (cat_joined known a b left right pass after (Ok string) is_left is_right made)

pub both_stopped : (known : Texts) (a b : Rope) (left right : Value) (pass after : Seen) (error : SeamError) (stop : Stop) → IsStringOf known a left → IsStringOf known b right
    → HasJoined (length left.clusters + length right.clusters) (concatenation left.clusters right.clusters)
    (concat_pieces left.clusters right.clusters a.pieces b.pieces) pass after (Err error) → IsSeamStop error stop → IsMadeOf (cat_wanted left right) pass after (Err stop)
both_stopped known a b left right pass after error stop is_left is_right made is =
    joined_stopped _ (joined left right) pass after error stop (cat_joined known a b left right pass after (Err error) is_left is_right made) is

pub copies_made : (known : Texts) (a : Rope) (value : Value) (times : ℕ) (pass after : Seen) (string : Rope) → IsStringOf known a value
    → HasJoined (length value.clusters * times) (repetition value.clusters times) (repetition_pieces value.clusters a.pieces times) pass after (Ok string)
    → IsMadeOf (rep_wanted value times) pass after (Ok string)
copies_made known a value times pass after string is made =
    joined_made _ (repeated value times) pass after string (rep_joined known a value times pass after (Ok string) is made)

pub copies_stopped : (known : Texts) (a : Rope) (value : Value) (times : ℕ) (pass after : Seen) (error : SeamError) (stop : Stop) → IsStringOf known a value
    → HasJoined (length value.clusters * times) (repetition value.clusters times) (repetition_pieces value.clusters a.pieces times) pass after (Err error)
    → IsSeamStop error stop → IsMadeOf (rep_wanted value times) pass after (Err stop)
copies_stopped known a value times pass after error stop is made stops =
    joined_stopped _ (repeated value times) pass after error stop (rep_joined known a value times pass after (Err error) is made) stops
