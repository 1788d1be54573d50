-- The layout of a table's words: buckets, then chunk words, then code words (this project's own).
use Rattle.std.specs.Prelude.{ℕ, zero, suc, ◌+◌, ◌*◌, ◌/◌, ◌%◌, ◌^◌, List, [], ◌∷◌, slice_index, Option, Some, None}

-- how many chunks a table of n buckets has; each has 512 code words
abbrev pub chunk_count : ℕ → ℕ
chunk_count n = n / 64 + 64

-- Bucket k is the word k. The word of chunk p is 1 where the chunk is taken, and 0 where it is free.
abbrev pub chunk_word : ℕ → ℕ → ℕ
chunk_word n p = n + p

-- the word of the code word c, where the code words of all chunks are counted from 0
abbrev pub code_word : ℕ → ℕ → ℕ
code_word n c = n + chunk_count n + c

-- how many words there are
abbrev pub word_count : ℕ → ℕ
word_count n = n + chunk_count n + 512 * chunk_count n

-- the bucket word of a text of so many code points that begins at the code word `start`; an empty bucket is 0
abbrev pub bucket_word : ℕ → ℕ → ℕ
bucket_word start length = start * 65536 + length

-- the first code word that a bucket word names
abbrev pub start_of : ℕ → ℕ
start_of word = word / 65536

-- how many code points it names
abbrev pub length_of : ℕ → ℕ
length_of word = word % 65536

-- the code word after the last one that it names
abbrev pub stop_of : ℕ → ℕ
stop_of word = start_of word + (length_of word + 1) / 2

-- the code word of two code points, the second of which is 0 where there is none
abbrev pub code_pair : ℕ → ℕ → ℕ
code_pair first second = second * 2 ^ 32 + first

-- the code points of a code word
abbrev pub first_code : ℕ → ℕ
first_code word = word % 2 ^ 32

abbrev pub second_code : ℕ → ℕ
second_code word = word / 2 ^ 32

-- the code word at an index of a text, where 0 stands past its end
abbrev pub pair_at : List ℕ → ℕ → ℕ
pair_at text k = code_pair (slice_index text (2 * k)) (slice_index text (2 * k + 1))

-- the last code point of a text, from a code word that is known
abbrev pub last_of : Option ℕ → Option (List ℕ)
last_of None = None
last_of (Some word) = Some (first_code word ∷ [])

-- the two code points of a code word that is known, before the rest of a text that is known
abbrev pub both_before : Option ℕ → Option (List ℕ) → Option (List ℕ)
both_before None rest = None
both_before (Some word) None = None
both_before (Some word) (Some rest) = Some (first_code word ∷ second_code word ∷ rest)

-- The text of so many code points from a code word on, where each code word that it needs is known. The first argument
-- is what is known of the code words.
abbrev pub read_codes : (ℕ → Option ℕ) → ℕ → ℕ → Option (List ℕ)
read_codes codes start zero = Some []
read_codes codes start (suc zero) = last_of (codes start)
read_codes codes start (suc (suc count)) = both_before (codes start) (read_codes codes (suc start) count)

-- the text that a bucket word names, if it is known; an empty bucket names none
abbrev pub text_named : (ℕ → Option ℕ) → Option ℕ → Option (List ℕ)
text_named codes None = None
text_named codes (Some zero) = None
text_named codes (Some (suc less)) = read_codes codes (start_of (suc less)) (length_of (suc less))
