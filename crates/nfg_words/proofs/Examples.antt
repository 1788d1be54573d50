-- Worked rows: hashes and probe sequences, and the run in which one text is put past another.
use Rattle.std.proofs.Common.{◌≡◌, ℕ, [], ◌∷◌, Some, None, refl, ap, ◌∙◌, get_or, arith}
use Rattle.nfg_syn.specs.Known.{IsInternable, nothing}
use Rattle.nfg_words.specs.ProbeTable.{Insert, IsAllowed, IsRun, IsStorable, after, after_all, probe_hash, probe_sequence}

one_code_point : probe_hash (0x71 ∷ []) ≡ 113
unfolding probe_hash
one_code_point = refl

two_code_points : probe_hash (0x71 ∷ 0x323 ∷ []) ≡ 4306
unfolding probe_hash
two_code_points = refl

three_code_points : probe_hash (0x71 ∷ 0x323 ∷ 0x307 ∷ []) ≡ 134261
unfolding probe_hash
three_code_points = refl

-- 4306 is 2 modulo 16
first_of_16 : probe_sequence 16 (0x71 ∷ 0x323 ∷ []) 0 ≡ 2
unfolding probe_sequence probe_hash
first_of_16 = refl

-- after the last place comes the first one
around_the_end : probe_sequence 16 (0x71 ∷ 0x323 ∷ []) 14 ≡ 0
unfolding probe_sequence probe_hash
around_the_end = refl

-- the hash is taken modulo 2^32
long_hash : probe_hash (0x10FFFF ∷ 0x10FFFF ∷ 0x10FFFF ∷ 0x10FFFF ∷ []) ≡ 4232021952
unfolding probe_hash
long_hash = refl

-- two texts whose hashes differ by 16 start at one place of 16, and the second goes on to the next place
abbrev dot_below : Insert
dot_below = record { place = 2; text = 0x71 ∷ 0x323 ∷ [] }

abbrev sixteen_on : Insert
sixteen_on = record { place = 3; text = 0x71 ∷ 0x333 ∷ [] }

same_start : probe_sequence 16 (0x71 ∷ 0x333 ∷ []) 0 ≡ 2
unfolding probe_sequence probe_hash
same_start = refl

next_place : probe_sequence 16 (0x71 ∷ 0x333 ∷ []) 1 ≡ 3
unfolding probe_sequence probe_hash
next_place = refl

stays_in_place : after_all nothing (dot_below ∷ sixteen_on ∷ []) 2 ≡ Some (0x71 ∷ 0x323 ∷ [])
stays_in_place = refl

put_past : after_all nothing (dot_below ∷ sixteen_on ∷ []) 3 ≡ Some (0x71 ∷ 0x333 ∷ [])
put_past = refl

rest_is_empty : after_all nothing (dot_below ∷ sixteen_on ∷ []) 4 ≡ None
rest_is_empty = refl

pair_is_storable : (mark : ℕ) → IsInternable (0x71 ∷ mark ∷ []) → IsStorable (0x71 ∷ mark ∷ [])
pair_is_storable mark internable = record { internable = internable; no_line_end = λ same. absurd cc }

first_allowed : IsAllowed 16 nothing dot_below
first_allowed = record {
  storable = pair_is_storable 0x323 (record { text = refl; several = omega arith; within_limit = omega arith });
  index = 0;
  on_sequence = omega arith;
  reaches = first_of_16;
  empty = refl;
  passed = λ earlier below. absurd (omega arith);
}

second_allowed : IsAllowed 16 (after nothing dot_below) sixteen_on
second_allowed = record {
  storable = pair_is_storable 0x333 (record { text = refl; several = omega arith; within_limit = omega arith });
  index = 1;
  on_sequence = omega arith;
  reaches = next_place;
  empty = refl;
  passed = λ earlier below. let first : earlier ≡ 0 = omega arith in
      let at_start : probe_sequence 16 (0x71 ∷ 0x333 ∷ []) earlier ≡ 2 = ap (probe_sequence 16 (0x71 ∷ 0x333 ∷ [])) first ∙ same_start in
      (0x71 ∷ 0x323 ∷ [], ap (after nothing dot_below) at_start, λ same. let marks : 0x323 ≡ 0x333 = ap (λ text. get_or text 1 0) same in absurd (omega arith));
}

two_events : IsRun 16 (dot_below ∷ sixteen_on ∷ [])
two_events = (first_allowed, (second_allowed, tt))
