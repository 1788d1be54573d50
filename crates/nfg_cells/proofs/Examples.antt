-- Worked rows: hashes, probe sequences, and two texts with one hash in a row of 16 places.
use Rattle.std.proofs.Common.{◌≡◌, ◌≢◌, ℕ, suc, List, [], ◌∷◌, Some, None, if◌then◌else◌, nat_eq, refl, ap, get_or, arith}
use Rattle.nfg_syn.specs.Known.{Texts, crlf}
use Rattle.nfg_cells.specs.Notes.{known_of}
use Rattle.nfg_cells.specs.Probe.{hash_from, probed, IsFound}

-- q with a combining grave, and with an inverted breve, whose hash is 16 more
abbrev q_grave : List ℕ
q_grave = 0x71 ∷ 0x300 ∷ []

abbrev q_breve : List ℕ
q_breve = 0x71 ∷ 0x310 ∷ []

hash_of_none : hash_from 0 [] ≡ 0
hash_of_none = refl

hash_of_one : hash_from 0 (0x10FFFF ∷ []) ≡ 1114111
hash_of_one = refl

hash_of_two : hash_from 0 q_grave ≡ 4271
hash_of_two = refl

-- the fourth step is taken modulo 2^32
hash_of_three : hash_from 0 (0x10FFFF ∷ 0x10FFFF ∷ 0x10FFFF ∷ []) ≡ 1106312223
hash_of_three = refl

hash_of_four : hash_from 0 (0x10FFFF ∷ 0x10FFFF ∷ 0x10FFFF ∷ 0x10FFFF ∷ []) ≡ 4232021952
hash_of_four = refl

first_probed : probed 16 q_grave 0 ≡ 15
first_probed = refl

-- after the last place comes the first
then_around : probed 16 q_grave 1 ≡ 0
then_around = refl

last_probed : probed 16 q_grave 15 ≡ 14
last_probed = refl

-- a row in which both stand, the second behind the first and around the row
abbrev row : Texts
row k = if nat_eq k 15 then Some q_grave else if nat_eq k 0 then Some q_breve else None

other_text : q_grave ≢ q_breve
other_text same = let code = ap (λ (t : List ℕ). get_or t 1 0) same in absurd (omega arith)

found_first : IsFound 16 row 15 q_grave
found_first = record { here = refl; step = 0; within = omega arith; reached = refl; passed = λ step less. absurd (omega arith) }

found_around : IsFound 16 row 0 q_breve
found_around = record {
  here = refl;
  step = 1;
  within = omega arith;
  reached = refl;
  passed = λ step less. let first : step ≡ 0 = omega arith in (q_grave, ap (λ i. row (probed 16 q_breve i)) first, other_text);
}

no_notes_know_crlf : known_of [] 0 ≡ Some crlf
no_notes_know_crlf = refl

no_notes_know_more : (k : ℕ) → known_of [] (suc k) ≡ None
no_notes_know_more k = refl
