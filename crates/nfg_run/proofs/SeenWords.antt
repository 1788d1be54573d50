-- What `clap` sees in a word of each kind.
use Rattle.std.proofs.Common.{◌≡◌, ◌+◌, ℕ, suc, Bool, true, false, cond, not, ◌&&◌, ◌||◌, ◌==◌, List, [], ◌∷◌, ◌++◌, length, take, drop, Option, Some, None, bytes_eq, nat_eq, codes, chars, slice_get, IsUtf8, encode_utf8_all, refl, sym, ap, subst, ◌∙◌, true≢false, arith, one-add, append-nil}
use Rattle.std.proofs.Math.ListN.{take-append-drop}
use Rattle.std.proofs.lemmas.Str.{IsUtf8-past_char, encodes-chars}
use Rattle.std.specs.Char.{encode_utf8}
use Rattle.std.specs.List.{starts_with, prefix_len, before_first, after_first}
use Rattle.std.proofs.lemmas.Bool.Decides.{nat_tests}
use Rattle.std.proofs.lemmas.Slice.Eq.{bytes_eq-Decides}
use Rattle.clap.specs.Lexer.{long_of, short_of, name_and_value, has_byte}
use Rattle.clap.specs.Walk.{Text, arg_by_long}
use Rattle.nfg_run.specs.CommandLine.{OptionName, Workers, Table, PlainWord, Unknown, kind_of, is_plain_word}
use Rattle.nfg_run.proofs.BuiltCommand.{name_of, rules}

-- the byte is `=`
abbrev is_equals : ℕ → Bool
is_equals x = x == 61

-- ---- a name and its value

module _ where
  abbrev rest_of : Bool → Text → Text
  rest_of true value = 61 ∷ value
  rest_of false value = []

-- a text is what stands before its first `=`, and the rest
parted : (text : Text) → text ≡ before_first is_equals text ++ rest_of (has_byte 61 text) (after_first is_equals text)
parted [] = refl
parted (x ∷ xs) = go (x == 61) refl (parted xs)
  where
    go : (b : Bool) → (x == 61) ≡ b
        → xs ≡ before_first is_equals xs ++ rest_of (has_byte 61 xs) (after_first is_equals xs)
        → x ∷ xs ≡ take (cond (not b) (1 + prefix_len (λ y. not (is_equals y)) xs) 0) (x ∷ xs)
        ++ rest_of (b || has_byte 61 xs) (drop (cond (not b) (1 + prefix_len (λ y. not (is_equals y)) xs) 0 + 1) (x ∷ xs))
    go true e more = ap (λ c. c ∷ xs) (grind (arith, nat_tests))
    go false e more =
        let n = prefix_len (λ y. not (is_equals y)) xs in
        let next : suc n + 1 ≡ suc (n + 1) = omega arith in
        rw (one-add, next) (ap (λ rest. x ∷ rest) more)

-- what a word is, and what `clap` sees in it
pub data Seen (word : Text) : Type 0 where
  mark : word ≡ codes "--" → Seen word
  plain : is_plain_word word ≡ true → kind_of word ≡ PlainWord → bytes_eq word (codes "--") ≡ false → long_of word ≡ None
      → short_of word ≡ None → Seen word
  named : (name : OptionName) → word ≡ 45 ∷ 45 ∷ name_of name → Seen word
  valued : (name : OptionName) (value : Text) → word ≡ 45 ∷ 45 ∷ (name_of name ++ 61 ∷ value) → Seen word
  unknown : (parts : Text × Option Text) → is_plain_word word ≡ false → kind_of word ≡ Unknown → bytes_eq word (codes "--") ≡ false
      → long_of word ≡ Some parts → arg_by_long rules parts.0 ≡ None → Seen word
  short : (x : ℕ) (flags : Text) (c : ℕ) → is_plain_word word ≡ false → kind_of word ≡ Unknown
      → bytes_eq word (codes "--") ≡ false → long_of word ≡ None → short_of word ≡ Some (x ∷ flags)
      → slice_get (chars (x ∷ flags)) 0 ≡ Some c → Seen word

-- ---- each word is seen

numbers_same : (x y : ℕ) → nat_eq x y ≡ true → x ≡ y
numbers_same x y e = grind (arith, nat_tests)

both : (a b : Bool) → (a && b) ≡ true → (a ≡ true) × (b ≡ true)
both true b e = (refl, e)
both false b e = absurd (true≢false (sym e))

-- a text that begins with another is that and more
begun : (start word : Text) → starts_with nat_eq word start ≡ true → word ≡ start ++ drop (length start) word
begun start word e =
    sym (take-append-drop (length start) word)
    ∙ ap (λ front. front ++ drop (length start) word) (sym ((bytes_eq-Decides start (take (length start) word)).0 e))

-- a text with another name isn't this name
not_alone : (name text : Text) → before_first is_equals name ≡ name → bytes_eq name (before_first is_equals text) ≡ false
    → bytes_eq text name ≡ false
not_alone name text whole other = go (bytes_eq text name) refl
  where
    go : (b : Bool) → bytes_eq text name ≡ b → b ≡ false
    go false e = refl
    go true e =
        let is : text ≡ name = (bytes_eq-Decides text name).0 e in
        let same : bytes_eq name (before_first is_equals text) ≡ true =
        (bytes_eq-Decides name _).1 (sym (ap (before_first is_equals) is ∙ whole)) in
        absurd (true≢false (sym same ∙ other))

-- and it isn't this name with a value
not_valued : (name start text : Text) → ((value : Text) → before_first is_equals (start ++ value) ≡ name)
    → bytes_eq name (before_first is_equals text) ≡ false → starts_with nat_eq text start ≡ false
not_valued name start text front other = go (starts_with nat_eq text start) refl
  where
    go : (b : Bool) → starts_with nat_eq text start ≡ b → b ≡ false
    go false e = refl
    go true e =
        let is : before_first is_equals text ≡ name = ap (before_first is_equals) (begun start text e) ∙ front _ in
        absurd (true≢false (sym ((bytes_eq-Decides name _).1 (sym is)) ∙ other))

-- the name of an option, alone or with a value
of_name : (name : OptionName) (y : ℕ) (ys : Text) (has_value : Bool) → before_first is_equals (y ∷ ys) ≡ name_of name
    → has_byte 61 (y ∷ ys) ≡ has_value → Seen (45 ∷ 45 ∷ y ∷ ys)
of_name name y ys true is has =
    valued name (after_first is_equals (y ∷ ys)) (ap (λ rest. 45 ∷ 45 ∷ rest)
    (parted (y ∷ ys) ∙ λ i. is i ++ rest_of (has i) (after_first is_equals (y ∷ ys))))
of_name name y ys false is has =
    named name (ap (λ rest. 45 ∷ 45 ∷ rest)
    (parted (y ∷ ys) ∙ (λ i. is i ++ rest_of (has i) (after_first is_equals (y ∷ ys))) ∙ append-nil (name_of name)))

-- what stands behind `--`
seen_name : (y : ℕ) (ys : Text) → Seen (45 ∷ 45 ∷ y ∷ ys)
seen_name y ys =
    go (bytes_eq (codes "workers") front) (bytes_eq (codes "table") front) (has_byte 61 (y ∷ ys)) refl refl refl
  where
    front : Text
    front = before_first is_equals (y ∷ ys)

    go : (is_workers is_table has_value : Bool) → bytes_eq (codes "workers") (before_first is_equals (y ∷ ys)) ≡ is_workers
        → bytes_eq (codes "table") (before_first is_equals (y ∷ ys)) ≡ is_table → has_byte 61 (y ∷ ys) ≡ has_value
        → Seen (45 ∷ 45 ∷ y ∷ ys)
    go true is_table has_value e f g = of_name Workers y ys has_value (sym ((bytes_eq-Decides _ _).0 e)) g
    go false true has_value e f g = of_name Table y ys has_value (sym ((bytes_eq-Decides _ _).0 f)) g
    go false false has_value e f g =
        unknown (name_and_value (y ∷ ys)) refl
        (rw (
          not_alone (codes "workers") (y ∷ ys) refl e,
          not_alone (codes "table") (y ∷ ys) refl f,
          not_valued (codes "workers") (codes "workers=") (y ∷ ys) (λ value. refl) e,
          not_valued (codes "table") (codes "table=") (y ∷ ys) (λ value. refl) f,
        ) refl)
        refl refl (rw (e, f) refl)

-- the first character behind one hyphen
first_flag : (x : ℕ) (flags : Text) → IsUtf8 (45 ∷ x ∷ flags) → (c : ℕ) × (slice_get (chars (x ∷ flags)) 0 ≡ Some c)
unfolding encode_utf8
first_flag x flags utf8 = go (chars (x ∷ flags)) (encodes-chars (x ∷ flags) (IsUtf8-past_char _ (x ∷ flags) 45 utf8 refl))
  where
    go : (cs : List ℕ) → encode_utf8_all cs ≡ x ∷ flags → (c : ℕ) × (slice_get cs 0 ≡ Some c)
    go [] e = absurd (omega (arith, ap length e))
    go (c ∷ cs) e = (c, refl)

marked : (word : Text) → Seen (45 ∷ 45 ∷ word)
marked [] = mark refl
marked (y ∷ ys) = seen_name y ys

seen_hyphen : (word : Text) → IsUtf8 (45 ∷ word) → Seen (45 ∷ word)
seen_hyphen [] utf8 = plain refl refl refl refl refl
seen_hyphen (x ∷ word) utf8 = go (nat_eq x 45) refl
  where
    flag : (c : ℕ) × (slice_get (chars (x ∷ word)) 0 ≡ Some c)
    flag = first_flag x word utf8

    go : (b : Bool) → nat_eq x 45 ≡ b → Seen (45 ∷ x ∷ word)
    go true e = subst (λ n. Seen (45 ∷ n ∷ word)) (sym (numbers_same x 45 e)) (marked word)
    go false e =
        let turned : nat_eq 45 x ≡ false = grind (arith, nat_tests) in
        short x word flag.0 refl (rw (e, turned) refl) (rw e refl) (rw e refl) (rw e refl) flag.1

-- what `clap` sees in a word
pub seen : (word : Text) → IsUtf8 word → Seen word
seen [] utf8 = plain refl refl refl refl refl
seen (x ∷ word) utf8 = go (nat_eq x 45) refl
  where
    go : (b : Bool) → nat_eq x 45 ≡ b → Seen (x ∷ word)
    go true e =
        let is : x ≡ 45 = numbers_same x 45 e in
        subst (λ n. Seen (n ∷ word)) (sym is) (seen_hyphen word (subst (λ n. IsUtf8 (n ∷ word)) is utf8))
    go false e =
        let turned : nat_eq 45 x ≡ false = grind (arith, nat_tests) in
        plain (rw (e, turned) refl) (rw (e, turned) refl) (rw e refl) (rw e refl) (rw e refl)
