-- Hashes of texts, and the chains by which the places of a hash are found (this project's own).
use Rattle.std.specs.Prelude.{◌≡◌, ◌≢◌, ℕ, zero, suc, ◌+◌, ◌-◌, ◌*◌, ◌/◌, ◌%◌, ◌^◌, ◌<◌, ◌≤◌, ◌==◌, List, length, slice_index, fold, bit_and, Option, MatchOption, if◌then◌else◌}

-- one more code point: it is added, and the sum multiplied by 2^64 over the golden ratio, modulo 2^64
unfoldable pub hash_step : ℕ → ℕ → ℕ
hash_step hash code = (((hash + code) % 2 ^ 64) * 0x9E37_79B9_7F4A_7C15) % 2 ^ 64

-- the hash of a text: the upper half of the last product
unfoldable pub hash_of : List ℕ → ℕ
hash_of text = fold hash_step 0 text / 2 ^ 32

-- Nothing, where no place below n has the hash; else the last such place.
abbrev pub IsLastBefore : List ℕ → ℕ → ℕ → Option ℕ → Type 0
IsLastBefore hashes n hash found = MatchOption found
    ((k : ℕ) → k < n → slice_index hashes k ≢ hash)
    (λ k. (k < n) × (slice_index hashes k ≡ hash) × ((j : ℕ) → k < j → j < n → slice_index hashes j ≢ hash))

-- the bucket of a hash, where there are `count` buckets
unfoldable pub bucket_of : ℕ → ℕ → ℕ
bucket_of count hash = bit_and hash (count - 1)

-- one more than the last place below n whose hash falls into the bucket, or 0 where there is none
abbrev pub last_in : ℕ → List ℕ → ℕ → ℕ → ℕ
last_in count hashes bucket zero = 0
last_in count hashes bucket (suc n) =
    if bucket_of count (slice_index hashes n) == bucket then suc n else last_in count hashes bucket n

-- The first n places are linked: each bucket has its last place, and each place the one before it in
-- its bucket.
pub record AreLinked (hashes heads links : List ℕ) (n : ℕ) : Type 0 where
  pub last : (bucket : ℕ) → bucket < length heads → slice_index heads bucket ≡ last_in (length heads) hashes bucket n
  pub before : (k : ℕ) → k < n → slice_index links k ≡ last_in (length heads) hashes (bucket_of (length heads) (slice_index hashes k)) k

-- all places are linked, and there are as many buckets as places at least
pub record AreChains (hashes heads links : List ℕ) : Type 0 where
  pub linked : AreLinked hashes heads links (length hashes)
  pub room : length hashes ≤ length heads
  pub as_long : length links ≡ length heads
  pub few : length hashes ≤ 1048576
