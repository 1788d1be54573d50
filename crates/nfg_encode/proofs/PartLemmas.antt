-- The bytes of code points that all have as many.
use Rattle.std.proofs.Common.{◌≡◌, ℕ, suc, ◌<◌, ◌≤◌, ◌⊎◌, inl, inr, List, [], ◌∷◌, ◌++◌, refl, sym, ap, ◌∙◌, arith, append-nil, All}
use Rattle.std.proofs.lemmas.Str.{encode_ascii}
use Rattle.std.specs.Prelude.{flat_map}
use Rattle.std.specs.Char.Escape.{encode_utf16}
use Rattle.nfg_decode.specs.declared.encoding.Encoding.{Encoding}
use Rattle.nfg_decode.specs.declared.encoding.Encoding.TheVariants.{Utf8, Utf16, Utf16Le, Utf16Be, Latin1}
use Rattle.nfg_decode.specs.declared.utf16.ByteOrder.{ByteOrder}
use Rattle.nfg_decode.specs.declared.utf16.ByteOrder.TheVariants.{Little, Big}
use Rattle.nfg_decode.specs.Encoding.{encode_code}
use Rattle.nfg_decode.specs.Utf16.{unit_bytes}
use Rattle.nfg_encode.proofs.CodeLemmas.{utf16_one}

tail_small : (n c : ℕ) (codes : List ℕ) → All (λ x. x < n) (c ∷ codes) → All (λ x. x < n) codes
tail_small n c codes small k d l = small (suc k) d (omega (arith, l))

head_small : (n c : ℕ) (codes : List ℕ) → All (λ x. x < n) (c ∷ codes) → c < n
head_small n c codes small = small 0 0 (omega arith)

-- what is at most a small number is small
pub small_below : (greatest n : ℕ) (codes : List ℕ) → All (λ x. x ≤ greatest) codes → greatest < n → All (λ x. x < n) codes
small_below greatest n codes most less k d l = let here = most k d l in omega (arith, here, less)

-- each is its own byte in Latin-1
latin1_bytes : (codes : List ℕ) → flat_map (encode_code Latin1) codes ≡ codes
latin1_bytes [] = refl
latin1_bytes (c ∷ codes) = ap (λ l. c ∷ l) (latin1_bytes codes)

-- and in UTF-8, below 80
ascii_bytes : (codes : List ℕ) → All (λ x. x < 128) codes → flat_map (encode_code Utf8) codes ≡ codes
ascii_bytes [] small = refl
ascii_bytes (c ∷ codes) small =
    let rest = ascii_bytes codes (tail_small 128 c codes small) in
    (λ i. encode_ascii c (head_small 128 c codes small) i ++ rest i)

-- and its own unit in UTF-16, below 10000
unit_each : (o : ByteOrder) (codes : List ℕ) → All (λ x. x < 65536) codes
    → flat_map (λ c. flat_map (unit_bytes o) (encode_utf16 c)) codes ≡ flat_map (unit_bytes o) codes
unit_each o [] small = refl
unit_each o (c ∷ codes) small =
    let rest = unit_each o codes (tail_small 65536 c codes small) in
    let one = ap (flat_map (unit_bytes o)) (utf16_one c (head_small 65536 c codes small)) ∙ append-nil (unit_bytes o c) in
    (λ i. one i ++ rest i)

pub is_latin1 : (e : Encoding) (codes front : List ℕ) → e ≡ Latin1 → front ≡ codes → front ≡ flat_map (encode_code e) codes
is_latin1 e codes front is bytes = bytes ∙ sym (latin1_bytes codes) ∙ ap (λ v. flat_map (encode_code v) codes) (sym is)

pub is_ascii : (e : Encoding) (codes front : List ℕ) → e ≡ Utf8 → All (λ x. x < 128) codes → front ≡ codes → front ≡ flat_map (encode_code e) codes
is_ascii e codes front is small bytes = bytes ∙ sym (ascii_bytes codes small) ∙ ap (λ v. flat_map (encode_code v) codes) (sym is)

pub is_big : (e : Encoding) (codes front : List ℕ) → (e ≡ Utf16) ⊎ (e ≡ Utf16Be) → All (λ x. x < 65536) codes → front ≡ flat_map (unit_bytes Big) codes
    → front ≡ flat_map (encode_code e) codes
is_big e codes front (inl is) small bytes = bytes ∙ sym (unit_each Big codes small) ∙ ap (λ v. flat_map (encode_code v) codes) (sym is)
is_big e codes front (inr is) small bytes = bytes ∙ sym (unit_each Big codes small) ∙ ap (λ v. flat_map (encode_code v) codes) (sym is)

pub is_little : (e : Encoding) (codes front : List ℕ) → e ≡ Utf16Le → All (λ x. x < 65536) codes → front ≡ flat_map (unit_bytes Little) codes
    → front ≡ flat_map (encode_code e) codes
is_little e codes front is small bytes = bytes ∙ sym (unit_each Little codes small) ∙ ap (λ v. flat_map (encode_code v) codes) (sym is)
