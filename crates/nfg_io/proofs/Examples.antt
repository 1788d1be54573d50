-- Worked rows of the definitions.
use Rattle.std.proofs.Common.{◌≡◌, ℕ, ◌-◌, ◌^◌, ◌<◌, true, false, if◌then◌else◌, List, [], ◌∷◌, Some, None, refl, arith, rules}
use Rattle.std.specs.FinMap as map
use Rattle.std.specs.FinSet as set
use Rattle.std.specs.Str.{bytes_eq}
use Rattle.nfg_io.specs.Causes.{one_more, Rose}
use Rattle.nfg_io.specs.Files.{Contents, opened_bytes, ReadsAt}
use Rattle.nfg_io.specs.Sink.{grown}
use Rattle.nfg_io.specs.Calls.{Calls, no_calls, fails_next, after_call}
use Rattle.nfg_io.specs.Entries.{paths_of}
use Rattle.nfg_io.specs.Memory.{SinkInMemory, room_left}

-- a count of two faults takes one more, and the greatest count stands still
counted : one_more 2 ≡ 3
counted = refl

stands_still : one_more (2 ^ 64 - 1) ≡ 2 ^ 64 - 1
stands_still = refl

-- to rise is to be greater, or to stand at the greatest count
Rose-greater : (before after : ℕ) → before < after → Rose before after
Rose-greater before after greater = omega arith

Rose-stands : (before after : ℕ) → after ≡ 2 ^ 64 - 1 → Rose before after
Rose-stands before after stands = omega arith

Rose-only : (before after : ℕ) → Rose before after → after < 2 ^ 64 - 1 → before < after
Rose-only before after rose low = omega arith

-- the file f is 61 62 63, and there is no other
abbrev one_file : Contents
one_file path = if bytes_eq path (102 ∷ []) then Some (97 ∷ 98 ∷ 99 ∷ []) else None

told : opened_bytes (Some one_file) (Some (102 ∷ [])) ≡ Some (97 ∷ 98 ∷ 99 ∷ [])
told = refl

not_there : opened_bytes (Some one_file) (Some (103 ∷ [])) ≡ None
not_there = refl

nothing_open : opened_bytes (Some one_file) None ≡ None
nothing_open = refl

not_told : opened_bytes None (Some (102 ∷ [])) ≡ None
not_told = refl

-- from position 1 on a read into four bytes may give one, or both, and must not give none
one_byte : ReadsAt (97 ∷ 98 ∷ 99 ∷ []) 1 1 (98 ∷ 0 ∷ 0 ∷ 0 ∷ [])
one_byte = record { bytes = refl; within = omega arith; end = search rules }

two_bytes : ReadsAt (97 ∷ 98 ∷ 99 ∷ []) 1 2 (98 ∷ 99 ∷ 0 ∷ 0 ∷ [])
two_bytes = record { bytes = refl; within = omega arith; end = search rules }

at_the_end : ReadsAt (97 ∷ 98 ∷ 99 ∷ []) 3 0 (0 ∷ 0 ∷ 0 ∷ 0 ∷ [])
at_the_end = record { bytes = refl; within = omega arith; end = search rules }

-- output grows at its end, where it is told
grows : grown (Some (51 ∷ [])) (10 ∷ 69 ∷ []) ≡ Some (51 ∷ 10 ∷ 69 ∷ [])
grows = refl

grows_untold : grown None (10 ∷ 69 ∷ []) ≡ None
grows_untold = refl

-- each call is counted, and each fault
two_calls : after_call true (after_call false no_calls) ≡ record { failing = set.empty; made = 2; faults = 1 }
two_calls = refl

-- call 1 is to fail: it is the next once one call was made
abbrev one_fails : ℕ → Calls
one_fails made = record { failing = set.insert set.empty 1; made = made; faults = 0 }

not_the_first : fails_next (one_fails 0) ≡ false
not_the_first = grind (set.members, rules)

the_second : fails_next (one_fails 1) ≡ true
the_second = grind (set.members, rules)

-- the bytes that were added last are those of the path
added_twice : map.get (paths_of ((102 ∷ [], 97 ∷ []) ∷ (103 ∷ [], []) ∷ (102 ∷ [], 98 ∷ []) ∷ [])) (102 ∷ []) ≡ Some (98 ∷ [])
added_twice = grind (map.gets, rules)

never_added : map.get (paths_of ((102 ∷ [], 97 ∷ []) ∷ [])) (103 ∷ []) ≡ None
never_added = grind (map.gets, rules)

-- there is room for three bytes more, and then for none
abbrev output : List ℕ → SinkInMemory
output taken = record { taken = taken; step = 4; room = 5; calls = no_calls }

three_more : room_left (output (97 ∷ 98 ∷ [])) ≡ 3
three_more = refl

full : room_left (output (97 ∷ 98 ∷ 99 ∷ 100 ∷ 101 ∷ [])) ≡ 0
full = refl
