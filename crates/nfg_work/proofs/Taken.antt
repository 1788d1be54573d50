-- What a job has given takes the place of what a command would make or find.
use Rattle.std.proofs.Common.{◌≡◌, ℕ, ◌+◌, ◌*◌, ◌≤◌, Bool, true, false, inl, inr, nat_lt, List, [], ◌∷◌, length, Option, Some, None, Result, Ok, Err, ℤ, pos, negsuc, if◌then◌else◌, refl, sym, ap, ap₂, ◌∙◌, cond, subst, arith}
use Rattle.std.proofs.lemmas.Bool.{lt-ltb, cases_lt}
use Rattle.nfg_text.specs.Graphemes.{graphemes_of}
use Rattle.nfg_text.specs.Operations.{first_place, last_place, text_order}
use Rattle.nfg_decode.specs.declared.encoding.Encoding.{Encoding}
use Rattle.nfg_decode.specs.Decoded.{Decoded}
use Rattle.nfg_decode.specs.Encoding.{decode}
use Rattle.nfg_syn.specs.Known.{Texts}
use Rattle.nfg_syn.specs.Learned.{HasLearned, several, is_several, first_long}
use Rattle.nfg_syn.specs.Represents.{Represents, spelling}
use Rattle.nfg_syn.specs.RepresentsLaws.{spelling-one, Represents-length}
use Rattle.nfg_syn.specs.Seen.{Seen}
use Rattle.nfg_strand.specs.Value.{Rope}
use Rattle.nfg_script.specs.declared.command.Command.TheVariants.{Load, Text, Cat, Sub, Rep, Find, Rfind, Eq, Cmp}
use Rattle.nfg_script.specs.Script.{NumberedCommand}
use Rattle.nfg_work.specs.declared.outcome.Outcome.{Outcome}
use Rattle.nfg_work.specs.declared.outcome.Outcome.TheVariants.{Nothing, Made, Found, Compared, Ordered}
use Rattle.nfg_work.specs.declared.output.Cause.{Cause}
use Rattle.nfg_work.specs.declared.output.Cause.TheVariants.{ClusterTooLong, StringTooLong, OutOfRange}
use Rattle.nfg_work.specs.declared.output.FileRead.{FileRead}
use Rattle.nfg_work.specs.declared.output.FileRead.TheVariants.{Bytes, TooLong, Failed}
use Rattle.nfg_work.specs.Values.{Value, flat, part, joined, repeated}
use Rattle.nfg_work.specs.Evaluation as evaluation
use Rattle.nfg_work.specs.Evaluation.{State, join_limit, are_equivalent}
use Rattle.nfg_work.specs.Holding.{IsStringOf}
use Rattle.nfg_work.specs.Making.{IsMadeOf, unless_long, unless_many, cat_wanted, rep_wanted, file_value}
use Rattle.nfg_work.specs.Reach.{if_short, decoded_value, load_value, cat_value, rep_value, sub_value, value_of}
use Rattle.nfg_work.specs.Outcomes.{IsOutcomeOf}
use Rattle.nfg_work.specs.Given.{reached_of, made_of, place_of, equivalence_of, order_of, IsAlreadyMade, IsAlreadyFound, part_wanted, load_wanted}
use Rattle.nfg_work.proofs.Reached.{there-at}
use Rattle.nfg_work.proofs.Wanted.{unless_long-ok}

-- ---- a pass learns nothing of clusters that it knows

one_more : (known : Texts) (c : List ℕ) (ts : List (List ℕ)) (n : ℤ) → spelling known n ≡ Some c → HasLearned known ts known
    → (test : Bool) → is_several c ≡ test → HasLearned known (cond test (c ∷ ts) ts) known
one_more known c ts n e learned false short = learned
one_more known c ts (pos p) e learned true long = let one = ap length (spelling-one known p c e).1 in absurd (let more : is_several c ≡ false = ap (nat_lt 1) one in cc)
one_more known c ts (negsuc m) e learned true long = (negsuc m, known, (e, λ k other. refl), λ k t at. at, learned)

pub learned_already : (known : Texts) (ns : List ℤ) (cs : List (List ℕ)) → Represents known ns cs → HasLearned known (several cs) known
learned_already known [] [] are = λ k. refl
learned_already known [] (c ∷ cs) are = absurd are
learned_already known (n ∷ ns) [] are = absurd are
learned_already known (n ∷ ns) (c ∷ cs) are = one_more known c (several cs) n are.0 (learned_already known ns cs are.1) (is_several c) refl

-- a string that was made already is one that is made, with nothing learned
pub already_made : (wanted : Result Value Cause) (pass : Seen) (string : Rope) → ((value : Value) → wanted ≡ Ok value → first_long value.clusters ≡ None)
    → IsAlreadyMade wanted pass.known (Some string) → IsMadeOf wanted pass pass (Ok string)
already_made wanted pass string short made = (
  made.0,
  made.1,
  record { short = short made.0 made.1; is = made.2; learned = learned_already pass.known string.graphemes made.0.clusters made.2.represents },
)

pub long_short : (value v : Value) → unless_long value ≡ Ok v → first_long v.clusters ≡ None
long_short value v e = let is = unless_long-ok value v e in subst (λ w. first_long w.clusters ≡ None) is.1 is.0

many_short_by : (over : Bool) (value v : Value) → (if over then Err StringTooLong else unless_long value) ≡ Ok v → first_long v.clusters ≡ None
many_short_by true value v e = cc
many_short_by false value v e = long_short value v e

pub many_short : (count : ℕ) (value v : Value) → unless_many count value ≡ Ok v → first_long v.clusters ≡ None
many_short count value v e = many_short_by (nat_lt join_limit count) value v e

pub file_short : (decoded : Decoded) (v : Value) → file_value decoded ≡ Ok v → first_long v.clusters ≡ None
file_short (Ok text) v e = long_short (flat (graphemes_of text)) v e
file_short (Err at) v e = cc

-- ---- a value that is reached is wanted

abbrev if_first : Option ℕ → Value → Option Value
if_first first value = elim first [
  | None ↦ Some value
  | Some at ↦ None
]

abbrev of_first : Option ℕ → Value → Result Value Cause
of_first first value = elim first [
  | None ↦ Ok value
  | Some at ↦ Err (ClusterTooLong at)
]

wanted_first : (first : Option ℕ) (value v : Value) → if_first first value ≡ Some v → of_first first value ≡ Ok v
wanted_first None value v e = let same : value ≡ v = cc in ap (λ w. Ok w) same
wanted_first (Some at) value v e = cc

short_wanted : (value v : Value) → if_short value ≡ Some v → unless_long value ≡ Ok v
short_wanted value v e = wanted_first (first_long value.clusters) value v e

many_wanted : (over : Bool) (value v : Value) → (if over then None else if_short value) ≡ Some v → (if over then Err StringTooLong else unless_long value) ≡ Ok v
many_wanted true value v e = cc
many_wanted false value v e = short_wanted value v e

decoded_wanted : (decoded : Decoded) (v : Value) → decoded_value decoded ≡ Some v → file_value decoded ≡ Ok v
decoded_wanted (Ok text) v e = short_wanted (flat (graphemes_of text)) v e
decoded_wanted (Err at) v e = cc

reads_wanted : (e : Encoding) (reads : List FileRead) (v : Value) → load_value e reads ≡ Some v → load_wanted e reads ≡ Ok v
reads_wanted e [] v is = cc
reads_wanted e (Bytes bytes ∷ reads) v is = decoded_wanted (decode e bytes) v is
reads_wanted e (TooLong ∷ reads) v is = cc
reads_wanted e (Failed ∷ reads) v is = cc

inside_wanted : (past : Bool) (value v : Value) → (if past then None else Some value) ≡ Some v → (if past then Err OutOfRange else Ok value) ≡ Ok v
inside_wanted true value v e = cc
inside_wanted false value v e = let same : value ≡ v = cc in ap (λ w. Ok w) same

-- the value of a name, which each name of a state has
pub value_is : (state : State) (name : ℕ) → value_of (reached_of state).values name ≡ Some (evaluation.value_of state name)
value_is state name = there-at state.values name

same_value : (state : State) (name : ℕ) (value : Value) → value_of (reached_of state).values name ≡ Some value → value ≡ evaluation.value_of state name
same_value state name value e = let found : Some value ≡ Some (evaluation.value_of state name) = sym e ∙ value_is state name in cc

-- ---- what a job has made is what the command wants

made_wanted : (known : Texts) (given : Option Value) (wanted : Result Value Cause) (string : Rope) → ((v : Value) → given ≡ Some v → wanted ≡ Ok v)
    → (value : Value) × (given ≡ Some value) × IsStringOf known string value → IsAlreadyMade wanted known (Some string)
made_wanted known given wanted string wants made = (made.0, wants made.0 made.1, made.2)

pub load_taken : (known : Texts) (state : State) (numbered : NumberedCommand) (name : ℕ) (e : Encoding) (outcome : Outcome)
    → IsOutcomeOf known (reached_of state) numbered (Load name e) outcome → IsAlreadyMade (load_wanted e state.reads) known (made_of outcome)
load_taken known state numbered name e (Made string) right = made_wanted known _ (load_wanted e state.reads) string (reads_wanted e state.reads) right
load_taken known state numbered name e Nothing right = tt
load_taken known state numbered name e (Found place) right = tt
load_taken known state numbered name e (Compared holds) right = tt
load_taken known state numbered name e (Ordered ordering) right = tt

pub text_taken : (known : Texts) (state : State) (numbered : NumberedCommand) (name : ℕ) (outcome : Outcome)
    → IsOutcomeOf known (reached_of state) numbered (Text name) outcome → IsAlreadyMade (unless_long (flat (graphemes_of numbered.codes))) known (made_of outcome)
text_taken known state numbered name (Made string) right =
    made_wanted known _ (unless_long (flat (graphemes_of numbered.codes))) string (short_wanted (flat (graphemes_of numbered.codes))) right
text_taken known state numbered name Nothing right = tt
text_taken known state numbered name (Found place) right = tt
text_taken known state numbered name (Compared holds) right = tt
text_taken known state numbered name (Ordered ordering) right = tt

pub cat_taken : (known : Texts) (state : State) (numbered : NumberedCommand) (name a b : ℕ) (outcome : Outcome)
    → IsOutcomeOf known (reached_of state) numbered (Cat name a b) outcome
    → IsAlreadyMade (cat_wanted (evaluation.value_of state a) (evaluation.value_of state b)) known (made_of outcome)
cat_taken known state numbered name a b (Made string) right =
    let x = evaluation.value_of state a in
    let y = evaluation.value_of state b in
    made_wanted known _ (cat_wanted x y) string
    (λ v e. many_wanted (nat_lt join_limit (length x.clusters + length y.clusters)) (joined x y) v (sym (ap₂ cat_value (value_is state a) (value_is state b)) ∙ e)) right
cat_taken known state numbered name a b Nothing right = tt
cat_taken known state numbered name a b (Found place) right = tt
cat_taken known state numbered name a b (Compared holds) right = tt
cat_taken known state numbered name a b (Ordered ordering) right = tt

pub rep_taken : (known : Texts) (state : State) (numbered : NumberedCommand) (name a count : ℕ) (outcome : Outcome)
    → IsOutcomeOf known (reached_of state) numbered (Rep name a count) outcome
    → IsAlreadyMade (rep_wanted (evaluation.value_of state a) count) known (made_of outcome)
rep_taken known state numbered name a count (Made string) right =
    let x = evaluation.value_of state a in
    made_wanted known _ (rep_wanted x count) string
    (λ v e. many_wanted (nat_lt join_limit (length x.clusters * count)) (repeated x count) v (sym (ap (λ o. rep_value o count) (value_is state a)) ∙ e)) right
rep_taken known state numbered name a count Nothing right = tt
rep_taken known state numbered name a count (Found place) right = tt
rep_taken known state numbered name a count (Compared holds) right = tt
rep_taken known state numbered name a count (Ordered ordering) right = tt

pub sub_taken : (known : Texts) (state : State) (numbered : NumberedCommand) (name a start count : ℕ) (outcome : Outcome)
    → IsOutcomeOf known (reached_of state) numbered (Sub name a start count) outcome
    → IsAlreadyMade (part_wanted (evaluation.value_of state a) start count) known (made_of outcome)
sub_taken known state numbered name a start count (Made string) right =
    let x = evaluation.value_of state a in
    made_wanted known _ (part_wanted x start count) string
    (λ v e. inside_wanted (nat_lt (length x.clusters) start) (part x start count) v (sym (ap (λ o. sub_value o start count) (value_is state a)) ∙ e)) right
sub_taken known state numbered name a start count Nothing right = tt
sub_taken known state numbered name a start count (Found place) right = tt
sub_taken known state numbered name a start count (Compared holds) right = tt
sub_taken known state numbered name a start count (Ordered ordering) right = tt

-- ---- what a job has found is the answer

pub find_taken : (known : Texts) (state : State) (numbered : NumberedCommand) (a b at : ℕ) (outcome : Outcome)
    → IsOutcomeOf known (reached_of state) numbered (Find a b at) outcome
    → IsAlreadyFound (first_place (evaluation.value_of state a).clusters (evaluation.value_of state b).clusters at) (place_of outcome)
find_taken known state numbered a b at (Found place) right =
    let first = same_value state a right.0 right.2 in
    let second = same_value state b right.1 right.3 in
    right.4 ∙ (λ i. first_place (first i).clusters (second i).clusters at)
find_taken known state numbered a b at Nothing right = tt
find_taken known state numbered a b at (Made string) right = tt
find_taken known state numbered a b at (Compared holds) right = tt
find_taken known state numbered a b at (Ordered ordering) right = tt

pub rfind_taken : (known : Texts) (state : State) (numbered : NumberedCommand) (a b at : ℕ) (outcome : Outcome)
    → IsOutcomeOf known (reached_of state) numbered (Rfind a b at) outcome
    → IsAlreadyFound (last_place (evaluation.value_of state a).clusters (evaluation.value_of state b).clusters at) (place_of outcome)
rfind_taken known state numbered a b at (Found place) right =
    let first = same_value state a right.0 right.2 in
    let second = same_value state b right.1 right.3 in
    right.4 ∙ (λ i. last_place (first i).clusters (second i).clusters at)
rfind_taken known state numbered a b at Nothing right = tt
rfind_taken known state numbered a b at (Made string) right = tt
rfind_taken known state numbered a b at (Compared holds) right = tt
rfind_taken known state numbered a b at (Ordered ordering) right = tt

pub eq_taken : (known : Texts) (state : State) (numbered : NumberedCommand) (a b : ℕ) (outcome : Outcome)
    → IsOutcomeOf known (reached_of state) numbered (Eq a b) outcome
    → IsAlreadyFound (are_equivalent (evaluation.value_of state a).clusters (evaluation.value_of state b).clusters) (equivalence_of outcome)
eq_taken known state numbered a b (Compared holds) right =
    let first = same_value state a right.0 right.2 in
    let second = same_value state b right.1 right.3 in
    right.4 ∙ (λ i. are_equivalent (first i).clusters (second i).clusters)
eq_taken known state numbered a b Nothing right = tt
eq_taken known state numbered a b (Made string) right = tt
eq_taken known state numbered a b (Found place) right = tt
eq_taken known state numbered a b (Ordered ordering) right = tt

pub cmp_taken : (known : Texts) (state : State) (numbered : NumberedCommand) (a b : ℕ) (outcome : Outcome)
    → IsOutcomeOf known (reached_of state) numbered (Cmp a b) outcome
    → IsAlreadyFound (text_order (evaluation.value_of state a).clusters (evaluation.value_of state b).clusters) (order_of outcome)
cmp_taken known state numbered a b (Ordered ordering) right =
    let first = same_value state a right.0 right.2 in
    let second = same_value state b right.1 right.3 in
    right.4 ∙ (λ i. text_order (first i).clusters (second i).clusters)
cmp_taken known state numbered a b Nothing right = tt
cmp_taken known state numbered a b (Made string) right = tt
cmp_taken known state numbered a b (Found place) right = tt
cmp_taken known state numbered a b (Compared holds) right = tt

-- ---- parts

-- the part that was made already is the part
pub part_taken : (known : Texts) (string made : Rope) (value : Value) (start count : ℕ) → IsStringOf known string value
    → IsAlreadyMade (part_wanted value start count) known (Some made) → (start ≤ length string.graphemes) × IsStringOf known made (part value start count)
part_taken known string made value start count is already =
    let long = Represents-length known string.graphemes value.clusters is.represents in
    by (nat_lt (length value.clusters) start) refl long already
  where
    by : (past : Bool) → nat_lt (length value.clusters) start ≡ past → length string.graphemes ≡ length value.clusters
        → (v : Value) × ((if past then Err OutOfRange else Ok (part value start count)) ≡ Ok v) × IsStringOf known made v
        → (start ≤ length string.graphemes) × IsStringOf known made (part value start count)
    by true e long already = let never = already.1 in cc
    by false e long already = elim (cases_lt (length value.clusters) start) [
      | inl past ↦ absurd (let over : nat_lt (length value.clusters) start ≡ true = lt-ltb _ _ past in cc)
      | inr inside ↦ (let same : already.0 ≡ part value start count = let is = already.1 in cc in (omega (arith, inside, long), subst (IsStringOf known made) same already.2))
    ]
