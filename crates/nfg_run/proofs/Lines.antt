-- What the texts of the command line say, and what they ask for.
use Rattle.std.proofs.Common.{◌≡◌, ℕ, zero, suc, ◌+◌, ◌≤◌, ◌^◌, Bool, true, false, ◌||◌, ◌==◌, List, [], ◌∷◌, length, Option, Some, None, IfSome, option_map, refl, sym, ap, subst, arith, lit≤, if◌then◌else◌, slice_index_or, ◌≢◌}
use Rattle.std.proofs.lemmas.Bool.Decides.{nat_tests}
use Rattle.nfg_syn.specs.Known.{IsRowSize}
use Rattle.nfg_run.specs.declared.said.Said.{Said}
use Rattle.nfg_run.specs.CommandLine.{OptionName, Workers, Table, IsWorkerCount, is_worker_count, number_of, if_passes, is_power_from, is_table_size, option_number, places_of, or_default, run_of, gen_of, gen_by, path_of, is_seed, is_count, workers_of, Run}
use Rattle.nfg_run.specs.WordTexts.{given_number}
use Rattle.nfg_run.proofs.ClapRows.{some≢none}
use Rattle.nfg_run.proofs.GatheredWords.{inner}

-- a power of two is a size of the table
power_size : (exponent number : ℕ) → 4 ≤ exponent → exponent ≤ 20 → (number == 2 ^ exponent) ≡ true → IsRowSize number
power_size exponent number low high is =
    let same : number ≡ 2 ^ exponent = grind (arith, nat_tests) in
    record { exponent = exponent; power = same; at_least_16 = low; at_most_2_20 = high }

either : (a b : Bool) (P : Type 0) → (a ≡ true → P) → (b ≡ true → P) → (a || b) ≡ true → P
either true b P left right e = left refl
either false b P left right e = right e

-- one of the powers of two is a size of the table
pub IsRowSize-power : (exponent more number : ℕ) → 4 ≤ exponent → exponent + more ≤ 20
    → is_power_from exponent more number ≡ true → IsRowSize number
IsRowSize-power exponent zero number low high is = power_size exponent number low (omega (arith, high)) is
IsRowSize-power exponent (suc more) number low high is =
    either (number == 2 ^ exponent) (is_power_from (suc exponent) more number) (IsRowSize number)
    (λ here. power_size exponent number low (omega (arith, high)) here)
    (λ later. IsRowSize-power (suc exponent) more number (omega (arith, low)) (omega (arith, high)) later) is

pub IsRowSize-of : (number : ℕ) → is_table_size number ≡ true → IsRowSize number
IsRowSize-of number is = IsRowSize-power 4 16 number (lit≤ tt) (lit≤ tt) is

passes : (test : ℕ → Bool) (P : ℕ → Type 0) → ((n : ℕ) → test n ≡ true → P n) → (n : ℕ) (b : Bool) → test n ≡ b
    → IfSome (if b then Some n else None) P
passes test P f n true e = f n e
passes test P f n false e = tt

-- what holds of all numbers that pass
IfSome-if_passes : (test : ℕ → Bool) (P : ℕ → Type 0) → ((n : ℕ) → test n ≡ true → P n) → (number : Option ℕ)
    → IfSome (if_passes test number) P
IfSome-if_passes test P f None = tt
IfSome-if_passes test P f (Some n) = passes test P f n (test n) refl

holds-number : (P : ℕ → Type 0) (number given : Option ℕ) → IfSome number P → option_map (λ n. Some n) number ≡ Some given → IfSome given P
holds-number P None given holds e = absurd (some≢none given (sym e))
holds-number P (Some number) None holds e = tt
holds-number P (Some number) (Some given) holds e = subst (λ o. IfSome o P) (ap inner e) holds

-- what holds of all numbers of an option holds of the one that is given
holds-given : (P : ℕ → Type 0) (name : OptionName) → ((word : List ℕ) → IfSome (option_number name word) P)
    → (text : Option (List ℕ)) (given : Option ℕ) → given_number name text ≡ Some given → IfSome given P
holds-given P name holds None None e = tt
holds-given P name holds None (Some given) e = absurd (some≢none given (sym (ap inner e)))
holds-given P name holds (Some text) given e = holds-number P (option_number name text) given (holds text) e

default_size : IsRowSize 262144
default_size = IsRowSize-of 262144 refl

places_sized : (places : Option ℕ) → IfSome places IsRowSize → IsRowSize (or_default places 262144)
places_sized None size = default_size
places_sized (Some number) size = size

sized-word : (word : List ℕ) → IfSome (option_number Table word) IsRowSize
sized-word word = IfSome-if_passes is_table_size IsRowSize IsRowSize-of (number_of word)

-- the places, where their text is lawful or not given, are a size of the table
pub IsRowSize-given : (text : Option (List ℕ)) (places : Option ℕ) → given_number Table text ≡ Some places → IsRowSize (or_default places 262144)
IsRowSize-given text places e = places_sized places (holds-given IsRowSize Table sized-word text places e)

IsWorkerCount-of : (number : ℕ) → is_worker_count number ≡ true → IsWorkerCount number
IsWorkerCount-of number is = grind (arith, nat_tests)

counted-word : (word : List ℕ) → IfSome (option_number Workers word) IsWorkerCount
counted-word word = IfSome-if_passes is_worker_count IsWorkerCount IsWorkerCount-of (number_of word)

workers_counted : (workers : Option ℕ) → IfSome workers IsWorkerCount → IsWorkerCount (or_default workers 4)
workers_counted None count = (lit≤ tt, lit≤ tt)
workers_counted (Some number) count = count

-- the workers, where their text is lawful or not given, are 1 to 64
pub IsWorkerCount-given : (text : Option (List ℕ)) (workers : Option ℕ) → given_number Workers text ≡ Some workers → IsWorkerCount (or_default workers 4)
IsWorkerCount-given text workers e = workers_counted workers (holds-given IsWorkerCount Workers counted-word text workers e)

-- `run` has no other count of plain words
pub run_of-none : (said : Said) (plain : List (List ℕ)) → length plain ≢ 1 → run_of said plain ≡ None
run_of-none said [] other = refl
run_of-none said (path ∷ []) other = absurd (other refl)
run_of-none said (path ∷ more ∷ plain) other = refl

pub run_of-one : (said : Said) (plain : List (List ℕ)) → length plain ≡ 1
    → run_of said plain ≡ Some (Run (workers_of said) (places_of said) (slice_index_or plain 0 []))
run_of-one said [] one = cc
run_of-one said (path ∷ []) one = refl
run_of-one said (path ∷ more ∷ plain) one = absurd (omega (arith, one))

-- `gen` has no other count of plain words
pub gen_of-none : (said : Said) (plain : List (List ℕ)) → length plain ≢ 2 → gen_of said plain ≡ None
gen_of-none said [] other = refl
gen_of-none said (seed ∷ []) other = refl
gen_of-none said (seed ∷ count ∷ []) other = absurd (other refl)
gen_of-none said (seed ∷ count ∷ more ∷ plain) other = refl

pub gen_of-two : (said : Said) (plain : List (List ℕ)) → length plain ≡ 2 → gen_of said plain
    ≡ gen_by said (if_passes is_seed (number_of (slice_index_or plain 0 []))) (if_passes is_count (number_of (slice_index_or plain 1 [])))
gen_of-two said [] two = absurd (omega (arith, two))
gen_of-two said (seed ∷ []) two = absurd (omega (arith, two))
gen_of-two said (seed ∷ count ∷ []) two = refl
gen_of-two said (seed ∷ count ∷ more ∷ plain) two = absurd (omega (arith, two))

-- without a lawful seed
pub gen_by-none : (said : Said) (seed count : Option ℕ) → seed ≡ None → gen_by said seed count ≡ None
gen_by-none said seed count e = rw e refl

-- `gen` names no script
pub path_of-gen_by : (said : Said) (seed count : Option ℕ) → path_of (gen_by said seed count) ≡ None
path_of-gen_by said None count = refl
path_of-gen_by said (Some seed) None = refl
path_of-gen_by said (Some seed) (Some count) = refl

pub path_of-gen_of : (said : Said) (plain : List (List ℕ)) → path_of (gen_of said plain) ≡ None
path_of-gen_of said [] = refl
path_of-gen_of said (seed ∷ []) = refl
path_of-gen_of said (seed ∷ count ∷ []) = path_of-gen_by said (if_passes is_seed (number_of seed)) (if_passes is_count (number_of count))
path_of-gen_of said (seed ∷ count ∷ more ∷ plain) = refl
