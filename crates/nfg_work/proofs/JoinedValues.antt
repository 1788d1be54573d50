-- Values that are joined or repeated, or refused, as the step says.
use Rattle.std.proofs.Common.{◌≡◌, ◌⊎◌, ℕ, ◌+◌, ◌*◌, ◌<◌, Bool, true, false, nat_lt, List, length, Some, None, Result, Ok, Err, OnOk, IfErr, if◌then◌else◌, inl, inr, refl, sym, ap, ap₂, ◌∙◌, subst}
use Rattle.std.proofs.lemmas.Bool.{lt-ltb}
use Rattle.nfg_syn.specs.Known.{Texts, IsKnowledge}
use Rattle.nfg_syn.specs.RepresentsLaws.{Represents-length}
use Rattle.nfg_syn.specs.Seen.{Seen, Keeps}
use Rattle.nfg_strand.specs.Value.{Rope}
use Rattle.nfg_work.specs.declared.evaluation.Evaluation.{Evaluation}
use Rattle.nfg_work.specs.declared.output.Cause.{Cause}
use Rattle.nfg_work.specs.declared.output.Cause.TheVariants.{StringTooLong, AllTooLong}
use Rattle.nfg_work.specs.declared.output.FileRead.{FileRead}
use Rattle.nfg_work.specs.declared.stop.Stop.{Stop}
use Rattle.nfg_work.specs.declared.stop.Stop.TheVariants.{Refused, OutOfMemory}
use Rattle.nfg_work.specs.Values.{Value, joined, repeated}
use Rattle.nfg_work.specs.Evaluation.{State, join_limit, cost_limit, define_value, define_joined, define_cat, define_rep}
use Rattle.nfg_work.specs.Holding.{IsStringOf, Holds, Follows, IsDefined, join_refusal}
use Rattle.nfg_work.specs.Making.{IsMadeOf, unless_many, cat_wanted, rep_wanted}
use Rattle.nfg_work.proofs.Wanted.{unless_many-few}
use Rattle.nfg_work.proofs.Defined.{spent_same, made_follows, stopped_follows}

-- the tests behind a refusal
pub by_tests : (over much : Bool) (cause : Cause)
    → (if over then Some StringTooLong else (if much then Some AllTooLong else None)) ≡ Some cause
    → ((over ≡ true) × (cause ≡ StringTooLong)) ⊎ ((over ≡ false) × (much ≡ true) × (cause ≡ AllTooLong))
by_tests true much cause e = inl (refl, cc)
by_tests false true cause e = inr (refl, refl, cc)
by_tests false false cause e = cc

by_no_test : (over much : Bool) → (if over then Some StringTooLong else (if much then Some AllTooLong else None)) ≡ None → (over ≡ false) × (much ≡ false)
by_no_test true much e = cc
by_no_test false true e = cc
by_no_test false false e = (refl, refl)

-- a refusal before anything is joined is that of the step
pub limit_follows : (places count : ℕ) (pass after : Seen) (reads : List FileRead) (old new : Evaluation) (value : Value) (state : State) (cause : Cause)
    → Holds pass.known reads old state → join_refusal old.spent count ≡ Some cause → new.output ≡ old.output
    → Follows places pass after reads state.used old new (Err (Refused cause)) (define_joined places state count value)
limit_follows places count pass after reads old new value state cause h refused same =
    elim (by_tests (nat_lt join_limit count) (nat_lt cost_limit (old.spent + count)) cause refused) [
      | inl over ↦ (let step : define_joined places state count value ≡ Err cause = rw over.0 (ap (λ c. Err c) (sym over.1)) in (step, same))
      | inr much ↦ (let step : define_joined places state count value ≡ Err cause =
          rw (much.0, spent_same count pass.known reads old state true h much.1) (ap (λ c. Err c) (sym much.2)) in (step, same))
    ]

-- what is joined is within the limits
pub within_limits : (spent count : ℕ) → join_refusal spent count ≡ None → (nat_lt join_limit count ≡ false) × (nat_lt cost_limit (spent + count) ≡ false)
within_limits spent count none = by_no_test (nat_lt join_limit count) (nat_lt cost_limit (spent + count)) none

-- a string that was joined is the next name's
pub joined_follows : (places count : ℕ) (pass after : Seen) (reads : List FileRead) (old new : Evaluation) (string : Rope) (result : Result (Unit {0}) Stop)
    (value : Value) (state : State) → Holds pass.known reads old state → join_refusal old.spent count ≡ None
    → IsKnowledge places after.known after.places → Keeps pass after → IsMadeOf (unless_many count value) pass after (Ok string)
    → OnOk result (IsDefined old new count string) → IfErr result (λ stop. stop ≡ OutOfMemory)
    → Follows places pass after reads state.used old new result (define_joined places state count value)
joined_follows places count pass after reads old new string result value state h none knows keeps made d memory =
    let limits = within_limits old.spent count none in
    let step : define_joined places state count value ≡ define_value places state count value = rw limits.0 refl in
    subst (Follows places pass after reads state.used old new result) (sym step)
    (made_follows places count pass after reads old new string result value state h limits.1 knows keeps
    (subst (λ wanted. IsMadeOf wanted pass after (Ok string)) (unless_many-few count value limits.0) made) d memory)

-- a string that was not joined
pub joined_stopped_follows : (places count : ℕ) (pass after : Seen) (reads : List FileRead) (old new : Evaluation) (stop : Stop)
    (value : Value) (state : State) → Holds pass.known reads old state → join_refusal old.spent count ≡ None
    → IsMadeOf (unless_many count value) pass after (Err stop) → new.output ≡ old.output
    → Follows places pass after reads state.used old new (Err stop) (define_joined places state count value)
joined_stopped_follows places count pass after reads old new stop value state h none made same =
    let limits = within_limits old.spent count none in
    let step : define_joined places state count value ≡ define_value places state count value = rw limits.0 refl in
    subst (Follows places pass after reads state.used old new (Err stop)) (sym step)
    (stopped_follows places count pass after reads old new stop value state h limits.1
    (subst (λ wanted. IsMadeOf wanted pass after (Err stop)) (unless_many-few count value limits.0) made) same)

len_of : (known : Texts) (string : Rope) (value : Value) (len : ℕ) → IsStringOf known string value → len ≡ length string.graphemes
    → len ≡ length value.clusters
len_of known string value len is e = e ∙ Represents-length known string.graphemes value.clusters is.represents

-- so many numbers as clusters are joined
pub cat_counted : (known : Texts) (a b : Rope) (left right : Value) (m n : ℕ) (pass after : Seen) (result : Result Rope Stop)
    → IsStringOf known a left → IsStringOf known b right → m ≡ length a.graphemes → n ≡ length b.graphemes
    → IsMadeOf (cat_wanted left right) pass after result → IsMadeOf (unless_many (m + n) (joined left right)) pass after result
cat_counted known a b left right m n pass after result is_left is_right m_is n_is made =
    let counts = ap₂ ◌+◌ (len_of known a left m is_left m_is) (len_of known b right n is_right n_is) in
    subst (λ count. IsMadeOf (unless_many count (joined left right)) pass after result) (sym counts) made

-- so it is the step
pub cat_step : (known : Texts) (a b : Rope) (left right : Value) (m n places : ℕ) (pass after : Seen) (reads : List FileRead) (old new : Evaluation) (state : State)
    (result : Result (Unit {0}) Stop) → IsStringOf known a left → IsStringOf known b right → m ≡ length a.graphemes → n ≡ length b.graphemes
    → Follows places pass after reads state.used old new result (define_joined places state (m + n) (joined left right))
    → Follows places pass after reads state.used old new result (define_cat places state left right)
cat_step known a b left right m n places pass after reads old new state result is_left is_right m_is n_is follows =
    subst (λ count. Follows places pass after reads state.used old new result (define_joined places state count (joined left right)))
    (ap₂ ◌+◌ (len_of known a left m is_left m_is) (len_of known b right n is_right n_is)) follows

-- and so many where one is repeated
pub rep_counted : (known : Texts) (a : Rope) (value : Value) (count len times : ℕ) (pass after : Seen) (result : Result Rope Stop)
    → IsStringOf known a value → len ≡ length a.graphemes → count ≡ len * times
    → IsMadeOf (rep_wanted value times) pass after result → IsMadeOf (unless_many count (repeated value times)) pass after result
rep_counted known a value count len times pass after result is len_is count_is made =
    let counts = count_is ∙ ap (λ n. n * times) (len_of known a value len is len_is) in
    subst (λ n. IsMadeOf (unless_many n (repeated value times)) pass after result) (sym counts) made

-- so it is the step
pub rep_step : (known : Texts) (a : Rope) (value : Value) (len times places : ℕ) (pass after : Seen) (reads : List FileRead) (old new : Evaluation) (state : State)
    (result : Result (Unit {0}) Stop) → IsStringOf known a value → len ≡ length a.graphemes
    → Follows places pass after reads state.used old new result (define_joined places state (len * times) (repeated value times))
    → Follows places pass after reads state.used old new result (define_rep places state value times)
rep_step known a value len times places pass after reads old new state result is len_is follows =
    subst (λ count. Follows places pass after reads state.used old new result (define_joined places state count (repeated value times)))
    (ap (λ n. n * times) (len_of known a value len is len_is)) follows

-- so many graphemes that no number of 64 bits counts them are too many
pub many_too_long : (spent count : ℕ) → 67108864 < count → join_refusal spent count ≡ Some StringTooLong
many_too_long spent count over = let more = lt-ltb join_limit count over in rw more refl
