-- Worked rows of the definitions that the kernels cite.
use Rattle.std.proofs.Common.{◌≡◌, pos, negsuc, true, false, [], ◌∷◌, int_eq, refl}
use Rattle.std.specs.Char.{is_ascii}
use Rattle.std.specs.List.{common_prefix_len, list_all, position_or_len, prefix_len}
use Rattle.nfg_lanes.specs.Lanes.{common_suffix_len, is_narrow_grapheme}

-- NUL, DEL and CR LF fit 8 bits
fits : list_all is_narrow_grapheme (pos 0 ∷ pos 127 ∷ negsuc 0 ∷ []) ≡ true
fits = refl

-- the first code point past ASCII does not, and no synthetic does
past_ascii : is_narrow_grapheme (pos 128) ≡ false
past_ascii = refl

synthetic : is_narrow_grapheme (negsuc 1) ≡ false
synthetic = refl

none_is_wide : list_all is_narrow_grapheme [] ≡ true
none_is_wide = refl

one_is_wide : list_all is_narrow_grapheme (pos 97 ∷ pos 233 ∷ pos 98 ∷ []) ≡ false
one_is_wide = refl

-- a, b and the first byte of a letter with two bytes
ascii_front : prefix_len is_ascii (97 ∷ 98 ∷ 195 ∷ 97 ∷ []) ≡ 2
ascii_front = refl

found : position_or_len (λ y. int_eq y (pos 6)) (pos 5 ∷ pos 5 ∷ pos 6 ∷ pos 6 ∷ []) ≡ 2
found = refl

not_found : position_or_len (λ y. int_eq y (pos 7)) (pos 5 ∷ pos 6 ∷ []) ≡ 2
not_found = refl

-- equal in the low 8 bits alone
low_bits : common_prefix_len int_eq (pos 97 ∷ pos 353 ∷ []) (pos 97 ∷ pos 97 ∷ []) ≡ 1
low_bits = refl

suffix : common_suffix_len int_eq (pos 1 ∷ pos 2 ∷ pos 3 ∷ []) (pos 2 ∷ pos 3 ∷ []) ≡ 2
suffix = refl

no_suffix : common_suffix_len int_eq (pos 1 ∷ pos 2 ∷ []) (pos 1 ∷ pos 3 ∷ []) ≡ 0
no_suffix = refl

empty_suffix : common_suffix_len int_eq [] (pos 1 ∷ []) ≡ 0
empty_suffix = refl
