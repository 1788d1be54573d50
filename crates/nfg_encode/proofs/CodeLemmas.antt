-- The bytes of one code point, as code writes them.
use Rattle.std.proofs.Common.{◌≡◌, ℕ, ◌+◌, ◌-◌, ◌/◌, ◌%◌, ◌<◌, ◌≤◌, List, [], ◌∷◌, length, set, take, refl, arith, lt-ltb, le-ltb}
use Rattle.std.specs.Char.Escape.{encode_utf16}
use lib.Utf8.{encode}

-- the front of what was written
pub set_one : (out : List ℕ) (a : ℕ) → 4 ≤ length out → take 1 (set out 0 a) ≡ a ∷ []
set_one [] a l = absurd (omega arith)
set_one (x ∷ out) a l = refl

pub set_two : (out : List ℕ) (a b : ℕ) → 4 ≤ length out → take 2 (set (set out 0 a) 1 b) ≡ a ∷ b ∷ []
set_two [] a b l = absurd (omega arith)
set_two (x ∷ []) a b l = absurd (omega arith)
set_two (x ∷ y ∷ out) a b l = refl

pub set_three : (out : List ℕ) (a b c : ℕ) → 4 ≤ length out → take 3 (set (set (set out 0 a) 1 b) 2 c) ≡ a ∷ b ∷ c ∷ []
set_three [] a b c l = absurd (omega arith)
set_three (x ∷ []) a b c l = absurd (omega arith)
set_three (x ∷ y ∷ []) a b c l = absurd (omega arith)
set_three (x ∷ y ∷ z ∷ out) a b c l = refl

pub set_four : (out : List ℕ) (a b c d : ℕ) → 4 ≤ length out → take 4 (set (set (set (set out 0 a) 1 b) 2 c) 3 d) ≡ a ∷ b ∷ c ∷ d ∷ []
set_four [] a b c d l = absurd (omega arith)
set_four (x ∷ []) a b c d l = absurd (omega arith)
set_four (x ∷ y ∷ []) a b c d l = absurd (omega arith)
set_four (x ∷ y ∷ z ∷ []) a b c d l = absurd (omega arith)
set_four (x ∷ y ∷ z ∷ w ∷ out) a b c d l = refl

-- UTF-8 by the number of bytes
pub utf8_two : (c : ℕ) → 128 ≤ c → c < 2048 → encode c ≡ (192 + c / 64) ∷ (128 + c % 64) ∷ []
unfolding encode
utf8_two c l h = rw (le-ltb c 128 l, lt-ltb c 2048 h)

pub utf8_three : (c : ℕ) → 2048 ≤ c → c < 65536 → encode c ≡ (224 + c / 4096) ∷ (128 + c / 64 % 64) ∷ (128 + c % 64) ∷ []
unfolding encode
utf8_three c l h = rw (le-ltb c 128 (omega arith), le-ltb c 2048 l, lt-ltb c 65536 h)

pub utf8_four : (c : ℕ) → 65536 ≤ c → encode c ≡ (240 + c / 262144) ∷ (128 + c / 4096 % 64) ∷ (128 + c / 64 % 64) ∷ (128 + c % 64) ∷ []
unfolding encode
utf8_four c l = rw (le-ltb c 128 (omega arith), le-ltb c 2048 (omega arith), le-ltb c 65536 l)

-- UTF-16 by the number of units
pub utf16_one : (c : ℕ) → c < 0x1_0000 → encode_utf16 c ≡ c ∷ []
utf16_one c h = rw (lt-ltb c 0x1_0000 h) refl

pub utf16_two : (c : ℕ) → 0x1_0000 ≤ c → encode_utf16 c ≡ (0xD800 + (c - 0x1_0000) / 0x400) ∷ (0xDC00 + (c - 0x1_0000) % 0x400) ∷ []
utf16_two c l = rw (le-ltb c 0x1_0000 l) refl
