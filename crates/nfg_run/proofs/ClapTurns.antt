-- What the walk of `clap` makes of one word, by what stands before it.
use Rattle.std.proofs.Common.{◌≡◌, ℕ, Bool, true, false, cond, ◌&&◌, List, [], ◌∷◌, ◌++◌, Option, Some, None, bytes_eq, codes, chars, slice_get, refl, sym, ap, subst}
use Rattle.clap.specs.Kinds.{Kinds, or_else}
use Rattle.clap.specs.Lexer.{long_of, short_of}
use Rattle.clap.specs.Walk.{Held, Row, Text, Waiting, Walk, idle, option, positional, arg_by_long, is_pending, pushed, settled, settled_rows, used, walked}
use Rattle.clap.specs.Faults.{settle_fault, turn_fault, use_fault, word_fault, flags_fault}
use Rattle.clap.specs.declared.error.kind.ErrorKind.TheVariants as kind
use Rattle.nfg_run.specs.CommandLine.{OptionName, Workers, Table}
use Rattle.nfg_run.proofs.BuiltCommand.{name_of, built_option, built_plain, built_shape, rules}

-- ---- kinds of error

-- there is a kind of error
abbrev pub Fails : Kinds → Type 0
Fails [] = ⊥
Fails (k ∷ kinds) = Unit {0}

pub Fails-first : (first next : Kinds) → Fails first → Fails (or_else first next)
Fails-first [] next h = absurd h
Fails-first (k ∷ kinds) next h = tt

pub Fails-is : (one other : Kinds) → one ≡ other → Fails other → Fails one
Fails-is one other e h = subst Fails (sym e) h

-- ---- where the walk stands

abbrev held_with : List Row → Option (Text × List Text) → Held
held_with rows pending = record { rows = rows; pending = pending; skip = 0 }

abbrev pub standing : List Row → Option (Text × List Text) → Waiting → Bool → Walk
standing rows pending waiting is_trailing = record {
  held = held_with rows pending;
  waiting = waiting;
  position = 1;
  is_trailing = is_trailing;
  stopped = None;
}

-- what is pending fails so when it is used
abbrev pub settles : List Row → Option (Text × List Text) → Kinds
settles rows pending = settle_fault rules false (held_with rows pending)

-- no option waits for its value
abbrev pub Rests : Waiting → Type 0
Rests (option id) = ⊥
Rests waiting = Unit {0}

abbrev pub turn : Walk → Text → Kinds
turn w word = turn_fault built_shape [] w word

cond-and-false : {X : Type 0} (b : Bool) (x y : X) → cond (b && false) x y ≡ y
cond-and-false true x y = refl
cond-and-false false x y = refl

-- the plain word that is pending
abbrev pub plain_pending : Text → Option (Text × List Text)
plain_pending word = Some (codes "plain", word ∷ [])

-- the option that is pending, with its value or without
abbrev pub value_pending : OptionName → List Text → Option (Text × List Text)
value_pending name values = Some (name_of name, values)

-- ---- behind the mark

pub turn-behind : (rows : List Row) (pending : Option (Text × List Text)) (waiting : Waiting) (word : Text)
    → turn (standing rows pending waiting true) word ≡ settles rows pending
turn-behind rows pending waiting word = cond-and-false (is_pending built_plain pending) [] (settles rows pending)

pub walked-behind : (rows : List Row) (pending : Option (Text × List Text)) (waiting : Waiting) (word : Text)
    → walked rules [] (standing rows pending waiting true) word
    ≡ standing (settled_rows rules pending rows) (plain_pending word) positional true
unfolding walked
walked-behind rows pending waiting word =
    ap (λ h. record { held = pushed (codes "plain") word h; waiting = positional; position = 1; is_trailing = true; stopped = None })
    (cond-and-false (is_pending built_plain pending) (held_with rows pending) (settled rules (held_with rows pending)))

-- ---- the mark

pub turn-mark : (rows : List Row) (pending : Option (Text × List Text)) (waiting : Waiting)
    → turn (standing rows pending waiting false) (codes "--") ≡ []
turn-mark rows pending idle = refl
turn-mark rows pending (option id) = refl
turn-mark rows pending positional = refl

pub walked-mark : (rows : List Row) (pending : Option (Text × List Text)) (waiting : Waiting)
    → walked rules [] (standing rows pending waiting false) (codes "--") ≡ standing rows pending waiting true
unfolding walked
walked-mark rows pending idle = refl
walked-mark rows pending (option id) = refl
walked-mark rows pending positional = refl

-- ---- a plain word

module _ (rows : List Row) (pending : Option (Text × List Text)) (word : Text) (no_mark : bytes_eq word (codes "--") ≡ false) (no_long : long_of word ≡ None) (no_short : short_of word ≡ None) where
  pub turn-plain : (waiting : Waiting) → Rests waiting → turn (standing rows pending waiting false) word ≡ settles rows pending
  turn-plain idle rests = rw (no_mark, no_long, no_short) (cond-and-false (is_pending built_plain pending) [] (settles rows pending))
  turn-plain (option id) rests = absurd rests
  turn-plain positional rests =
      rw (no_mark, no_long, no_short) (cond-and-false (is_pending built_plain pending) [] (settles rows pending))

  pub walked-plain : (waiting : Waiting) → Rests waiting → walked rules [] (standing rows pending waiting false) word
      ≡ standing (settled_rows rules pending rows) (plain_pending word) positional false
  unfolding walked
  walked-plain idle rests =
      rw (no_mark, no_long, no_short)
      (ap (λ h. record { held = pushed (codes "plain") word h; waiting = positional; position = 1; is_trailing = false; stopped = None })
      (cond-and-false (is_pending built_plain pending) (held_with rows pending) (settled rules (held_with rows pending))))
  walked-plain (option id) rests = absurd rests
  walked-plain positional rests =
      rw (no_mark, no_long, no_short)
      (ap (λ h. record { held = pushed (codes "plain") word h; waiting = positional; position = 1; is_trailing = false; stopped = None })
      (cond-and-false (is_pending built_plain pending) (held_with rows pending) (settled rules (held_with rows pending))))

  -- it is the value of the option that waits
  pub turn-value : (id : Text) → turn (standing rows pending (option id) false) word ≡ []
  turn-value id = rw (no_mark, no_long, no_short) refl

  pub walked-value : (name : OptionName)
      → walked rules [] (standing rows (value_pending name []) (option (name_of name)) false) word
      ≡ standing rows (value_pending name (word ∷ [])) idle false
  unfolding walked
  walked-value Workers = rw (no_mark, no_long, no_short) refl
  walked-value Table = rw (no_mark, no_long, no_short) refl

-- ---- an option

pub turn-named : (name : OptionName) (rows : List Row) (pending : Option (Text × List Text)) (waiting : Waiting)
    → turn (standing rows pending waiting false) (45 ∷ 45 ∷ name_of name) ≡ or_else (settles rows pending) []
turn-named Workers rows pending idle = refl
turn-named Workers rows pending (option id) = refl
turn-named Workers rows pending positional = refl
turn-named Table rows pending idle = refl
turn-named Table rows pending (option id) = refl
turn-named Table rows pending positional = refl

pub walked-named : (name : OptionName) (rows : List Row) (pending : Option (Text × List Text)) (waiting : Waiting)
    → walked rules [] (standing rows pending waiting false) (45 ∷ 45 ∷ name_of name)
    ≡ standing (settled_rows rules pending rows) (value_pending name []) (option (name_of name)) false
unfolding walked
walked-named Workers rows pending idle = refl
walked-named Workers rows pending (option id) = refl
walked-named Workers rows pending positional = refl
walked-named Table rows pending idle = refl
walked-named Table rows pending (option id) = refl
walked-named Table rows pending positional = refl

pub turn-valued : (name : OptionName) (value : Text) (rows : List Row) (pending : Option (Text × List Text)) (waiting : Waiting)
    → turn (standing rows pending waiting false) (45 ∷ 45 ∷ (name_of name ++ 61 ∷ value))
    ≡ or_else (or_else (settles rows pending) (use_fault false (built_option name) (value ∷ []) (settled_rows rules pending rows))) []
turn-valued Workers value rows pending idle = refl
turn-valued Workers value rows pending (option id) = refl
turn-valued Workers value rows pending positional = refl
turn-valued Table value rows pending idle = refl
turn-valued Table value rows pending (option id) = refl
turn-valued Table value rows pending positional = refl

pub walked-valued : (name : OptionName) (value : Text) (rows : List Row) (pending : Option (Text × List Text)) (waiting : Waiting)
    → walked rules [] (standing rows pending waiting false) (45 ∷ 45 ∷ (name_of name ++ 61 ∷ value))
    ≡ standing (used (built_option name) (value ∷ []) (settled_rows rules pending rows)) None idle false
unfolding walked
walked-valued Workers value rows pending idle = refl
walked-valued Workers value rows pending (option id) = refl
walked-valued Workers value rows pending positional = refl
walked-valued Table value rows pending idle = refl
walked-valued Table value rows pending (option id) = refl
walked-valued Table value rows pending positional = refl

-- ---- other words that begin with `-`

pub word-unknown : (rows : List Row) (pending : Option (Text × List Text)) (waiting : Waiting) (word : Text) (parts : Text × Option Text)
    → bytes_eq word (codes "--") ≡ false → long_of word ≡ Some parts → arg_by_long rules parts.0 ≡ None
    → word_fault built_shape [] false waiting word (held_with rows pending) ≡ kind.UnknownArgument ∷ []
word-unknown rows pending idle word parts no_mark long none = rw (no_mark, long, none) refl
word-unknown rows pending (option id) word parts no_mark long none = rw (no_mark, long, none) refl
word-unknown rows pending positional word parts no_mark long none = rw (no_mark, long, none) refl

pub word-short : (rows : List Row) (pending : Option (Text × List Text)) (waiting : Waiting) (word : Text) (x : ℕ) (flags : Text) (c : ℕ)
    → bytes_eq word (codes "--") ≡ false → long_of word ≡ None → short_of word ≡ Some (x ∷ flags)
    → slice_get (chars (x ∷ flags)) 0 ≡ Some c
    → word_fault built_shape [] false waiting word (held_with rows pending) ≡ kind.UnknownArgument ∷ []
unfolding flags_fault
word-short rows pending idle word x flags c no_mark long flag first = rw (no_mark, long, flag, first) refl
word-short rows pending (option id) word x flags c no_mark long flag first = rw (no_mark, long, flag, first) refl
word-short rows pending positional word x flags c no_mark long flag first = rw (no_mark, long, flag, first) refl
