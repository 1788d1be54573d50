-- What a concatenation keeps of both sides, and what it makes anew between them (this project's own).
use Rattle.std.specs.Prelude.{ℕ, ◌-◌, min, List, length, take, drop, reverse, bytes_eq}
use Rattle.std.specs.List.{common_prefix_len}
use Rattle.nfg_text.specs.Operations.{concatenation}

-- the number of graphemes kept from the left side, the new ones, and the number kept from the right side
pub record Splice : Type 0 where
  pub front : ℕ
  pub middle : List (List ℕ)
  pub back : ℕ

-- how many graphemes both lists begin with
abbrev pub shared_front : List (List ℕ) → List (List ℕ) → ℕ
shared_front a b = common_prefix_len bytes_eq a b

-- how many graphemes both lists end with
abbrev pub shared_back : List (List ℕ) → List (List ℕ) → ℕ
shared_back a b = shared_front (reverse a) (reverse b)

-- the concatenation keeps what it begins with of a, then what it ends with of b, as far as that lies behind
unfoldable pub splice : List (List ℕ) → List (List ℕ) → Splice
splice a b =
    let joined = concatenation a b in
    let front = shared_front a joined in
    let back = min (shared_back b joined) (length joined - front) in
    record { front = front; middle = take (length joined - front - back) (drop front joined); back = back }
