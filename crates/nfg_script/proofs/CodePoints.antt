-- Code points that are read one at a time.
use Rattle.std.proofs.Common.{◌≡◌, ℕ, Bool, true, false, ◌&&◌, List, [], ◌∷◌, ◌++◌, Result, Ok, Err, refl, sym, ap, length, append_assoc, append-nil, cond, nat_le, subst}
use Rattle.std.specs.Str.{all_scalars}
use Rattle.nfg_decode.specs.Text.{IsText}
use Rattle.nfg_script.specs.declared.error.Reason.{Reason}
use Rattle.nfg_script.specs.declared.error.Reason.TheVariants.{BadCodePoint}
use Rattle.nfg_script.specs.Words.{◌>>=◌, code_point_of, code_points_of}
use Rattle.nfg_script.proofs.Digits.{both}
use Rattle.std.specs.Cmp.Derive.{both_true}
use Rattle.std.specs.List.{list_all}
use Rattle.std.specs.Char.{is_ascii_hexdigit}
use Rattle.std.specs.Str.Parse.{digits_value}
use Rattle.std.proofs.Math.Utf8.{scalar}

-- the code points so far, and then those that reading gives
abbrev pub after_codes : List ℕ → Result (List ℕ) Reason → Result (List ℕ) Reason
after_codes codes read = read >>= λ rest. Ok (codes ++ rest)

pub after_codes-cons : (codes word : List ℕ) (words : List (List ℕ)) (c : ℕ) → code_point_of word ≡ Ok c
    → after_codes codes (code_points_of (word ∷ words)) ≡ after_codes (codes ++ c ∷ []) (code_points_of words)
unfolding code_points_of
after_codes-cons codes word words c e = rw e (push codes c (code_points_of words)) where
  push : (codes : List ℕ) (c : ℕ) (read : Result (List ℕ) Reason)
      → after_codes codes (read >>= λ rest. Ok (c ∷ rest)) ≡ after_codes (codes ++ c ∷ []) read
  push codes c (Ok rest) = ap Ok (sym (append_assoc codes (c ∷ []) rest))
  push codes c (Err reason) = refl

pub after_codes-err : (codes word : List ℕ) (words : List (List ℕ)) (reason : Reason) → code_point_of word ≡ Err reason
    → after_codes codes (code_points_of (word ∷ words)) ≡ Err reason
unfolding code_points_of
after_codes-err codes word words reason e = rw e refl

pub after_codes-nil : (read : Result (List ℕ) Reason) → after_codes [] read ≡ read
after_codes-nil (Ok rest) = refl
after_codes-nil (Err reason) = refl

pub after_codes-end : (codes : List ℕ) → after_codes codes (code_points_of []) ≡ Ok codes
unfolding code_points_of
after_codes-end codes = ap Ok (append-nil codes)

picked : (b : Bool) (c d : ℕ) (reason : Reason) → cond b (Ok c) (Err reason) ≡ Ok d → (b ≡ true) × (c ≡ d)
picked true c d reason e = (refl, cc)
picked false c d reason e = cc

fourth : (a b c d : Bool) → (a && b && c && d) ≡ true → d ≡ true
fourth true true true d e = e
fourth true true false d e = cc
fourth true false c d e = cc
fourth false b c d e = cc

-- a code point is a scalar value
code_point-scalar : (word : List ℕ) (c : ℕ) → code_point_of word ≡ Ok c → all_scalars (c ∷ []) ≡ true
unfolding code_point_of
code_point-scalar word c e =
    let chosen = picked _ _ c BadCodePoint e in
    let value = digits_value 16 word in
    let scalar : all_scalars (value ∷ []) ≡ true =
    fourth (nat_le 1 (length word)) (nat_le (length word) 6) (list_all is_ascii_hexdigit word) _ chosen.0 in
    subst (λ d. all_scalars (d ∷ []) ≡ true) chosen.1 scalar

scalars-cons : (c : ℕ) (codes : List ℕ) → all_scalars (c ∷ []) ≡ true → all_scalars codes ≡ true → all_scalars (c ∷ codes) ≡ true
scalars-cons c codes head tail = both_true (both (scalar c) true head).0 tail

-- code points are a text
pub code_points-text : (words : List (List ℕ)) (codes : List ℕ) → code_points_of words ≡ Ok codes → IsText codes
unfolding code_points_of
code_points-text [] codes e = let same : [] ≡ codes = cc in rw (← same) refl
code_points-text (word ∷ words) codes e =
    first (λ rest. code_points-text words rest) (code_point_of word) (code_points_of words) refl refl e where
      first : ((rest : List ℕ) → code_points_of words ≡ Ok rest → IsText rest) → (head : Result ℕ Reason) (tail : Result (List ℕ) Reason) → code_point_of word ≡ head → code_points_of words ≡ tail
          → (head >>= λ c. tail >>= λ rest. Ok (c ∷ rest)) ≡ Ok codes → IsText codes
      first later (Ok c) (Ok rest) f g e =
          let same : c ∷ rest ≡ codes = cc in
          subst IsText same (scalars-cons c rest (code_point-scalar word c f) (later rest g))
      first later (Ok c) (Err reason) f g e = cc
      first later (Err reason) tail f g e = cc
