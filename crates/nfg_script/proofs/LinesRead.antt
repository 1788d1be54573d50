-- What the lines of a script give, a line at a time.
use Rattle.std.proofs.Common.{◌≡◌, ◌≢◌, ℕ, suc, ◌+◌, ◌≤◌, true, false, nat_lt, List, [], ◌∷◌, ◌==◌, length, map, Result, Ok, Err, IfOk, IfErr, refl, sym, ap, arith, add-one}
use Rattle.std.specs.List.{slice_split}
use Rattle.std.specs.Str.{is_utf8, IsUtf8}
use Rattle.std.specs.Str.Lines.{strip_carriage_return}
use Rattle.std.specs.Str.Lossy.{utf8_valid_len}
use Rattle.std.proofs.lemmas.List.{length-map}
use Rattle.std.proofs.lemmas.Str.{IsUtf8-from_is_utf8, is_utf8-from_IsUtf8}
use Rattle.std.proofs.lemmas.Bool.{false_from_ne_true}
use Rattle.std.proofs.lemmas.Bool.Decides.{nat_tests}
use Rattle.nfg_script.specs.declared.error.ScriptError.{ScriptError}
use Rattle.nfg_script.specs.declared.error.ScriptError.TheVariants.{Malformed, OutOfMemory as NoMemory}
use Rattle.nfg_script.specs.Script.{NumberedCommand}
use Rattle.nfg_script.specs.Words.{◌>>=◌, words_of}
use Rattle.nfg_script.specs.Answer.{so_far, Answers}
use Rattle.nfg_script.specs.Grammar.{ReadSoFar, and_line, commands_from, lines_of, without_empty_end, byte_limit, line_limit, parse}
use Rattle.nfg_script.proofs.Lines.{not_empty}

pub commands_from-next : (old new : ReadSoFar) (n : ℕ) (line : List ℕ) (lines : List (List ℕ))
    → and_line old n (words_of line) ≡ Ok new → commands_from old n (line ∷ lines) ≡ commands_from new (n + 1) lines
unfolding commands_from
commands_from-next old new n line lines e =
    rw add-one (ap (λ answer. answer >>= λ next. commands_from next (suc n) lines) e)

pub commands_from-err : (old : ReadSoFar) (n : ℕ) (line : List ℕ) (lines : List (List ℕ)) (error : ScriptError)
    → and_line old n (words_of line) ≡ Err error → commands_from old n (line ∷ lines) ≡ Err error
unfolding commands_from
commands_from-err old n line lines error e = ap (λ answer. answer >>= λ next. commands_from next (suc n) lines) e

pub commands_from-end : (old : ReadSoFar) (n : ℕ) → commands_from old n [] ≡ Ok old.commands
unfolding commands_from
commands_from-end old n = refl

then_same : {A B E : Type 0} (answer : Result A E) (f g : A → Result B E) → ((x : A) → f x ≡ g x) → (answer >>= f) ≡ (answer >>= g)
then_same (Ok x) f g same = same x
then_same (Err refusal) f g same = refl

-- an empty last part gives nothing
pub empty_end : (parts : List (List ℕ)) (old : ReadSoFar) (n : ℕ)
    → commands_from old n (map strip_carriage_return (without_empty_end parts)) ≡ commands_from old n (map strip_carriage_return parts)
unfolding commands_from and_line words_of
empty_end [] old n = refl
empty_end ([] ∷ []) old n = refl
empty_end ((x ∷ xs) ∷ []) old n = rw (not_empty x xs) refl
empty_end (part ∷ next ∷ parts) old n =
    then_same (and_line old n (words_of (strip_carriage_return part))) _ _ (λ new. empty_end (next ∷ parts) new (suc n))

one_fewer : (parts : List (List ℕ)) → length parts ≤ length (without_empty_end parts) + 1
one_fewer [] = omega arith
one_fewer (part ∷ []) = omega arith
one_fewer (part ∷ next ∷ parts) = let rest = one_fewer (next ∷ parts) in omega (arith, rest)

-- there is at most one part more than lines
pub few_parts : (bytes : List ℕ) → length (slice_split (λ b. b == 10) bytes) ≤ length (lines_of bytes) + 1
unfolding lines_of
few_parts bytes =
    let parts = slice_split (λ (b : ℕ). b == 10) bytes in
    omega (arith, one_fewer parts, length-map (without_empty_end parts) strip_carriage_return)

-- reading the parts is reading the lines
pub parts_read : (bytes : List ℕ) (old : ReadSoFar) (n : ℕ)
    → commands_from old n (map strip_carriage_return (slice_split (λ b. b == 10) bytes)) ≡ commands_from old n (lines_of bytes)
unfolding lines_of
parts_read bytes old n = sym (empty_end (slice_split (λ b. b == 10) bytes) old n)

-- a script that isn't too long and is UTF-8 is read by its lines
pub parse-text : (bytes : List ℕ) → length bytes ≤ byte_limit → length (lines_of bytes) ≤ line_limit → IsUtf8 bytes
    → parse bytes ≡ commands_from (so_far [] []) 1 (lines_of bytes)
unfolding parse
parse-text bytes short few text =
    let e : nat_lt byte_limit (length bytes) ≡ false = grind (arith, nat_tests) in
    let f : nat_lt line_limit (length (lines_of bytes)) ≡ false = grind (arith, nat_tests) in
    let g : is_utf8 bytes ≡ true = is_utf8-from_IsUtf8 bytes text in
    rw (e, f, g) refl

pub parse-malformed : (bytes : List ℕ) → length bytes ≤ byte_limit → length (lines_of bytes) ≤ line_limit → ¬ (IsUtf8 bytes)
    → parse bytes ≡ Err (Malformed (utf8_valid_len bytes))
unfolding parse
parse-malformed bytes short few no_text =
    let e : nat_lt byte_limit (length bytes) ≡ false = grind (arith, nat_tests) in
    let f : nat_lt line_limit (length (lines_of bytes)) ≡ false = grind (arith, nat_tests) in
    let g : is_utf8 bytes ≡ false = false_from_ne_true (is_utf8 bytes) (λ yes. no_text (IsUtf8-from_is_utf8 bytes yes)) in
    rw (e, f, g) refl

-- the two outcomes of a reader of lines
pub answers-ok : (answer read : Result (List NumberedCommand) ScriptError) → Answers answer read → IfOk answer (λ script. read ≡ Ok script)
answers-ok (Ok script) read e = e
answers-ok (Err error) read e = tt

pub answers-err : (answer read : Result (List NumberedCommand) ScriptError) → Answers answer read
    → IfErr answer (λ error. error ≢ NoMemory → read ≡ Err error)
answers-err (Ok script) read e = tt
answers-err (Err error) read e = e
