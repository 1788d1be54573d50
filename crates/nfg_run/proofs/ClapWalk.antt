-- The walk of `clap` over the words gathers the same texts, and fails where they aren't gathered.
use Rattle.std.proofs.Common.{◌≡◌, suc, Bool, true, false, List, [], ◌∷◌, ◌++◌, Option, Some, None, All, IsUtf8, arith, fold, codes, refl, sym, ap, subst, ◌∙◌}
use Rattle.clap.specs.Kinds.{Kinds, or_else}
use Rattle.clap.specs.Walk.{Row, Text, Waiting, Walk, idle, option, positional, settled, settled_rows, used, walked}
use Rattle.clap.specs.Faults.{settle_fault, use_fault, walk_fault}
use Rattle.nfg_run.specs.CommandLine.{OptionName, Workers, Table, WordKind, Mark, PlainWord, Named, NamedWith, Unknown, Next, Free, Value, Plain, kind_of, is_plain_word, then_free}
use Rattle.nfg_run.specs.WordTexts.{WordTexts}
use Rattle.nfg_run.proofs.BuiltCommand.{name_of, built_option, built_shape, rules}
use Rattle.nfg_run.proofs.GatheredWords.{gathered, gathered_kind, gathered_value, gathered_word, plain_text, with_text}
use Rattle.nfg_run.proofs.SeenWords.{Seen, mark, plain, named, valued, unknown, short, seen}
use Rattle.nfg_run.proofs.ClapTurns.{Fails, Fails-first, Fails-is, Rests, plain_pending, settles, standing, turn, turn-behind, turn-mark, turn-named, turn-plain, turn-value, turn-valued, value_pending, walked-behind, walked-mark, walked-named, walked-plain, walked-value, walked-valued, word-short, word-unknown}
use Rattle.nfg_run.proofs.ClapUses.{Shows, again-use, first-use, one, put, settled-option, settles-empty, settles-option, shown, shows-plain, shows-put, text_at, with_text-again, with_text-first}

-- ---- the walk from where it stands

abbrev pub at_end : Walk → List Text → Walk
at_end w words = fold (walked rules []) w words

-- how the walk over these words fails, and what is pending at its end
abbrev pub fault_from : Walk → List Text → Kinds
fault_from w words =
    or_else (walk_fault built_shape [] w words) (or_else (settle_fault rules false (at_end w words).held) [])

abbrev pub rows_from : Walk → List Text → List Row
rows_from w words = (settled rules (at_end w words).held).rows

fails-here : (w : Walk) (word : Text) (words : List Text) → Fails (turn w word) → Fails (fault_from w (word ∷ words))
unfolding walk_fault
fails-here w word words h = Fails-first _ _ (Fails-first _ _ h)

fault-on : (w next : Walk) (word : Text) (words : List Text) → turn w word ≡ [] → walked rules [] w word ≡ next
    → fault_from w (word ∷ words) ≡ fault_from next words
unfolding walk_fault
fault-on w next word words none to =
    (λ i. or_else (or_else (none i) (walk_fault built_shape [] (walked rules [] w word) words))
    (or_else (settle_fault rules false (at_end (walked rules [] w word) words).held) []))
    ∙ ap (λ v. fault_from v words) to

fails-on : (w next : Walk) (word : Text) (words : List Text) → turn w word ≡ [] → walked rules [] w word ≡ next
    → Fails (fault_from next words) → Fails (fault_from w (word ∷ words))
fails-on w next word words none to h = Fails-is _ _ (fault-on w next word words none to) h

-- ---- what is pending fails

module _ (rows : List Row) (pending : Option (Text × List Text)) (bad : Fails (settles rows pending)) where
  bad-behind : (waiting : Waiting) (words : List Text) → Fails (fault_from (standing rows pending waiting true) words)
  unfolding walk_fault
  bad-behind waiting [] = Fails-first _ _ bad
  bad-behind waiting (word ∷ words) =
      fails-here (standing rows pending waiting true) word words (Fails-is _ _ (turn-behind rows pending waiting word) bad)

  -- and where it isn't settled by a first mark, it is by the word
  bad-resting : (waiting : Waiting) → Rests waiting → (words : List Text) → All IsUtf8 words
      → Fails (fault_from (standing rows pending waiting false) words)
  unfolding walk_fault
  bad-resting waiting rests [] utf8 = Fails-first _ _ bad
  bad-resting waiting rests (word ∷ words) utf8 = go (seen word (utf8 0 [] (omega arith)))
    where
      go : Seen word → Fails (fault_from (standing rows pending waiting false) (word ∷ words))
      go (mark e) =
          subst (λ v. Fails (fault_from (standing rows pending waiting false) (v ∷ words))) (sym e)
          (fails-on (standing rows pending waiting false) (standing rows pending waiting true) (codes "--") words (turn-mark rows pending waiting) (walked-mark rows pending waiting) (bad-behind waiting words))
      go (plain is_plain kind no_mark no_long no_short) =
          fails-here (standing rows pending waiting false) word words (Fails-is _ _ (turn-plain rows pending word no_mark no_long no_short waiting rests) bad)
      go (named name e) =
          subst (λ v. Fails (fault_from (standing rows pending waiting false) (v ∷ words))) (sym e)
          (fails-here (standing rows pending waiting false) (45 ∷ 45 ∷ name_of name) words (Fails-is _ _ (turn-named name rows pending waiting) (Fails-first _ _ bad)))
      go (valued name value e) =
          subst (λ v. Fails (fault_from (standing rows pending waiting false) (v ∷ words))) (sym e)
          (fails-here (standing rows pending waiting false) (45 ∷ 45 ∷ (name_of name ++ 61 ∷ value)) words (Fails-is _ _ (turn-valued name value rows pending waiting) (Fails-first _ _ (Fails-first _ _ bad))))
      go (unknown parts is_plain kind no_mark long none) =
          fails-here (standing rows pending waiting false) word words (Fails-first _ _ (Fails-is _ _ (word-unknown rows pending waiting word parts no_mark long none) tt))
      go (short x flags c is_plain kind no_mark no_long flag first) =
          fails-here (standing rows pending waiting false) word words (Fails-first _ _ (Fails-is _ _ (word-short rows pending waiting word x flags c no_mark no_long flag first) tt))

-- ---- the walk gathers the same

-- the walk fails where no texts are gathered; else it doesn't, and its rows hold them
abbrev pub Agrees : Option WordTexts → Kinds → List Row → Type 0
Agrees None kinds rows = Fails kinds
Agrees (Some texts) kinds rows = (kinds ≡ []) × Shows texts rows

abbrev pub AgreesFrom : Option WordTexts → Walk → List Text → Type 0
AgreesFrom texts w words = Agrees texts (fault_from w words) (rows_from w words)

agrees-on : (texts : Option WordTexts) (w next : Walk) (word : Text) (words : List Text) → turn w word ≡ [] → walked rules [] w word ≡ next
    → AgreesFrom texts next words → AgreesFrom texts w (word ∷ words)
agrees-on texts w next word words none to h =
    subst (λ kinds. Agrees texts kinds (rows_from w (word ∷ words))) (sym (fault-on w next word words none to))
    (subst (λ v. Agrees texts (fault_from next words) (rows_from v words)) (sym to) h)

agrees-is : (one other : Option WordTexts) (w : Walk) (words : List Text) → one ≡ other → AgreesFrom other w words → AgreesFrom one w words
agrees-is one other w words e h = subst (λ o. AgreesFrom o w words) (sym e) h

-- what is pending is used without failing, and then the rows hold the texts
abbrev Stands : WordTexts → List Row → Option (Text × List Text) → Type 0
Stands texts rows pending = (settles rows pending ≡ []) × Shows texts (settled_rows rules pending rows)

ends-well : (texts : WordTexts) (rows : List Row) (pending : Option (Text × List Text)) → Stands texts rows pending
    → (or_else (settles rows pending) [] ≡ []) × Shows texts (settled_rows rules pending rows)
ends-well texts rows pending stands = (ap (λ kinds. or_else kinds []) stands.0, stands.1)

agrees-behind : (texts : WordTexts) (rows : List Row) (pending : Option (Text × List Text)) (waiting : Waiting) (words : List Text)
    → Stands texts rows pending → AgreesFrom (gathered Plain texts words) (standing rows pending waiting true) words
unfolding gathered walk_fault
agrees-behind texts rows pending waiting [] stands = ends-well texts rows pending stands
agrees-behind texts rows pending waiting (word ∷ words) stands =
    agrees-on (gathered Plain (plain_text texts word) words) (standing rows pending waiting true)
    (standing (settled_rows rules pending rows) (plain_pending word) positional true) word words
    (turn-behind rows pending waiting word ∙ stands.0) (walked-behind rows pending waiting word)
    (agrees-behind (plain_text texts word) (settled_rows rules pending rows) (plain_pending word) positional words
    (refl, shows-plain texts word (settled_rows rules pending rows) stands.1))

-- the texts that are gathered behind a step
abbrev gathered_from : Option (WordTexts × Next) → List Text → Option WordTexts
gathered_from step words = elim step [ None ↦ None | Some more ↦ gathered more.1 more.0 words ]

gathered-word : (next : Next) (texts : WordTexts) (word : Text) (words : List Text) (step : Option (WordTexts × Next))
    → gathered_word next texts word ≡ step → gathered next texts (word ∷ words) ≡ gathered_from step words
unfolding gathered
gathered-word next texts word words step e = ap (λ o. gathered_from o words) e

gathered-kind : (texts : WordTexts) (word : Text) (words : List Text) (kind : WordKind) → kind_of word ≡ kind
    → gathered Free texts (word ∷ words) ≡ gathered_from (gathered_kind kind texts word) words
gathered-kind texts word words kind e =
    gathered-word Free texts word words _ (ap (λ k. gathered_kind k texts word) e)

gathered-value : (name : OptionName) (texts : WordTexts) (word : Text) (words : List Text) (is_plain : Bool) → is_plain_word word ≡ is_plain
    → gathered (Value name) texts (word ∷ words) ≡ gathered_from (gathered_value is_plain texts name word) words
gathered-value name texts word words is_plain e =
    gathered-word (Value name) texts word words _ (ap (λ b. gathered_value b texts name word) e)

kind-named : (name : OptionName) → kind_of (45 ∷ 45 ∷ name_of name) ≡ Named name
kind-named Workers = refl
kind-named Table = refl

kind-valued : (name : OptionName) (value : Text) → kind_of (45 ∷ 45 ∷ (name_of name ++ 61 ∷ value)) ≡ NamedWith name value
kind-valued Workers value = refl
kind-valued Table value = refl

hyphens : (rest : Text) → is_plain_word (45 ∷ 45 ∷ rest) ≡ false
hyphens rest = refl

-- the walk that goes on from here agrees, whatever stands there
abbrev Resumes : List Text → Type 0
Resumes words = (texts : WordTexts) (rows : List Row) (pending : Option (Text × List Text)) (waiting : Waiting) → Rests waiting
    → Stands texts rows pending → AgreesFrom (gathered Free texts words) (standing rows pending waiting false) words

abbrev Awaits : List Text → Type 0
Awaits words = (name : OptionName) (texts : WordTexts) (rows : List Row) → Shows texts rows
    → AgreesFrom (gathered (Value name) texts words) (standing rows (value_pending name []) (option (name_of name)) false) words

-- behind an option with its value
module _ (words : List Text) (resumes : Resumes words) where
  valued-first : (name : OptionName) (value : Text) (texts : WordTexts) (rows : List Row) (pending : Option (Text × List Text)) (waiting : Waiting)
      → Stands texts rows pending → text_at name texts ≡ None
      → AgreesFrom (gathered_from (then_free (with_text texts name value)) words) (standing rows pending waiting false)
      ((45 ∷ 45 ∷ (name_of name ++ 61 ∷ value)) ∷ words)
  valued-first name value texts rows pending waiting stands none =
      let before = settled_rows rules pending rows in
      agrees-is _ (gathered Free (put name value texts) words) (standing rows pending waiting false)
      ((45 ∷ 45 ∷ (name_of name ++ 61 ∷ value)) ∷ words)
      (ap (λ o. gathered_from (then_free o) words) (with_text-first texts name value none))
      (agrees-on _ (standing rows pending waiting false) (standing (used (built_option name) (value ∷ []) before) None idle false)
      (45 ∷ 45 ∷ (name_of name ++ 61 ∷ value)) words
      (turn-valued name value rows pending waiting ∙ (λ i. or_else (or_else (stands.0 i)
      (first-use name value before (shown name texts before stands.1 ∙ ap one none) i)) []))
      (walked-valued name value rows pending waiting)
      (resumes (put name value texts) (used (built_option name) (value ∷ []) before) None idle tt
      (refl, shows-put name value texts before stands.1 none)))

  valued-again : (name : OptionName) (value given : Text) (texts : WordTexts) (rows : List Row) (pending : Option (Text × List Text)) (waiting : Waiting)
      → Stands texts rows pending → text_at name texts ≡ Some given
      → AgreesFrom (gathered_from (then_free (with_text texts name value)) words) (standing rows pending waiting false)
      ((45 ∷ 45 ∷ (name_of name ++ 61 ∷ value)) ∷ words)
  valued-again name value given texts rows pending waiting stands some =
      let before = settled_rows rules pending rows in
      agrees-is _ None (standing rows pending waiting false) ((45 ∷ 45 ∷ (name_of name ++ 61 ∷ value)) ∷ words)
      (ap (λ o. gathered_from (then_free o) words) (with_text-again texts name value given some))
      (fails-here (standing rows pending waiting false) (45 ∷ 45 ∷ (name_of name ++ 61 ∷ value)) words
      (Fails-is _ _ (turn-valued name value rows pending waiting ∙ ap (λ kinds. or_else (or_else kinds (use_fault false (built_option name) (value ∷ []) before)) []) stands.0)
      (Fails-first (use_fault false (built_option name) (value ∷ []) before) [] (again-use name value (given ∷ []) before (shown name texts before stands.1 ∙ ap one some)))))

  valued-agrees : (name : OptionName) (value : Text) (texts : WordTexts) (rows : List Row) (pending : Option (Text × List Text)) (waiting : Waiting)
      → Stands texts rows pending
      → AgreesFrom (gathered_from (then_free (with_text texts name value)) words) (standing rows pending waiting false)
      ((45 ∷ 45 ∷ (name_of name ++ 61 ∷ value)) ∷ words)
  valued-agrees name value texts rows pending waiting stands = go (text_at name texts) refl
    where
      go : (o : Option Text) → text_at name texts ≡ o
          → AgreesFrom (gathered_from (then_free (with_text texts name value)) words) (standing rows pending waiting false)
          ((45 ∷ 45 ∷ (name_of name ++ 61 ∷ value)) ∷ words)
      go None none = valued-first name value texts rows pending waiting stands none
      go (Some given) some = valued-again name value given texts rows pending waiting stands some

-- a word where no option waits
module _ (texts : WordTexts) (rows : List Row) (pending : Option (Text × List Text)) (waiting : Waiting) (rests : Rests waiting) (stands : Stands texts rows pending) (words : List Text) (resumes : Resumes words) (awaits : Awaits words) where
  free-agrees : (word : Text) → Seen word → AgreesFrom (gathered Free texts (word ∷ words)) (standing rows pending waiting false) (word ∷ words)
  free-agrees word (mark e) =
      subst (λ v. AgreesFrom (gathered Free texts (v ∷ words)) (standing rows pending waiting false) (v ∷ words)) (sym e)
      (agrees-is _ _ (standing rows pending waiting false) (codes "--" ∷ words) (gathered-kind texts (codes "--") words Mark refl)
      (agrees-on (gathered Plain texts words) (standing rows pending waiting false) (standing rows pending waiting true) (codes "--") words
      (turn-mark rows pending waiting) (walked-mark rows pending waiting) (agrees-behind texts rows pending waiting words stands)))
  free-agrees word (plain is_plain kind no_mark no_long no_short) =
      agrees-is _ _ (standing rows pending waiting false) (word ∷ words) (gathered-kind texts word words PlainWord kind)
      (agrees-on (gathered Free (plain_text texts word) words) (standing rows pending waiting false)
      (standing (settled_rows rules pending rows) (plain_pending word) positional false) word words
      (turn-plain rows pending word no_mark no_long no_short waiting rests ∙ stands.0)
      (walked-plain rows pending word no_mark no_long no_short waiting rests)
      (resumes (plain_text texts word) (settled_rows rules pending rows) (plain_pending word) positional tt
      (refl, shows-plain texts word (settled_rows rules pending rows) stands.1)))
  free-agrees word (named name e) =
      subst (λ v. AgreesFrom (gathered Free texts (v ∷ words)) (standing rows pending waiting false) (v ∷ words)) (sym e)
      (agrees-is _ _ (standing rows pending waiting false) ((45 ∷ 45 ∷ name_of name) ∷ words)
      (gathered-kind texts (45 ∷ 45 ∷ name_of name) words (Named name) (kind-named name))
      (agrees-on (gathered (Value name) texts words) (standing rows pending waiting false)
      (standing (settled_rows rules pending rows) (value_pending name []) (option (name_of name)) false) (45 ∷ 45 ∷ name_of name) words
      (turn-named name rows pending waiting ∙ ap (λ kinds. or_else kinds []) stands.0) (walked-named name rows pending waiting)
      (awaits name texts (settled_rows rules pending rows) stands.1)))
  free-agrees word (valued name value e) =
      subst (λ v. AgreesFrom (gathered Free texts (v ∷ words)) (standing rows pending waiting false) (v ∷ words)) (sym e)
      (agrees-is _ _ (standing rows pending waiting false) ((45 ∷ 45 ∷ (name_of name ++ 61 ∷ value)) ∷ words)
      (gathered-kind texts (45 ∷ 45 ∷ (name_of name ++ 61 ∷ value)) words (NamedWith name value) (kind-valued name value))
      (valued-agrees words resumes name value texts rows pending waiting stands))
  free-agrees word (unknown parts is_plain kind no_mark long none) =
      agrees-is _ None (standing rows pending waiting false) (word ∷ words) (gathered-kind texts word words Unknown kind)
      (fails-here (standing rows pending waiting false) word words
      (Fails-first _ _ (Fails-is _ _ (word-unknown rows pending waiting word parts no_mark long none) tt)))
  free-agrees word (short x flags c is_plain kind no_mark no_long flag first) =
      agrees-is _ None (standing rows pending waiting false) (word ∷ words) (gathered-kind texts word words Unknown kind)
      (fails-here (standing rows pending waiting false) word words
      (Fails-first _ _ (Fails-is _ _ (word-short rows pending waiting word x flags c no_mark no_long flag first) tt)))

-- a word where an option waits
module _ (name : OptionName) (texts : WordTexts) (rows : List Row) (shows : Shows texts rows) (words : List Text) (utf8 : All IsUtf8 words) (resumes : Resumes words) where
  -- it isn't a plain word
  value-fails : (word : Text) → is_plain_word word ≡ false
      → Fails (fault_from (standing rows (value_pending name []) (option (name_of name)) false) (word ∷ words))
      → AgreesFrom (gathered (Value name) texts (word ∷ words)) (standing rows (value_pending name []) (option (name_of name)) false)
      (word ∷ words)
  value-fails word other h =
      agrees-is _ None (standing rows (value_pending name []) (option (name_of name)) false) (word ∷ words)
      (gathered-value name texts word words false other) h

  value-first : (word : Text) → text_at name texts ≡ None
      → AgreesFrom (gathered_from (then_free (with_text texts name word)) words) (standing rows (value_pending name (word ∷ [])) idle false) words
  value-first word none =
      agrees-is _ (gathered Free (put name word texts) words) (standing rows (value_pending name (word ∷ [])) idle false) words
      (ap (λ o. gathered_from (then_free o) words) (with_text-first texts name word none))
      (resumes (put name word texts) rows (value_pending name (word ∷ [])) idle tt (
        settles-option name word rows ∙ first-use name word rows (shown name texts rows shows ∙ ap one none),
        subst (Shows (put name word texts)) (sym (settled-option name word rows)) (shows-put name word texts rows shows none),
      ))

  value-again : (word given : Text) → text_at name texts ≡ Some given
      → AgreesFrom (gathered_from (then_free (with_text texts name word)) words) (standing rows (value_pending name (word ∷ [])) idle false) words
  value-again word given some =
      agrees-is _ None (standing rows (value_pending name (word ∷ [])) idle false) words
      (ap (λ o. gathered_from (then_free o) words) (with_text-again texts name word given some))
      (bad-resting rows (value_pending name (word ∷ [])) (Fails-is _ _ (settles-option name word rows)
      (again-use name word (given ∷ []) rows (shown name texts rows shows ∙ ap one some))) idle tt words utf8)

  value-plain : (word : Text) → AgreesFrom (gathered_from (then_free (with_text texts name word)) words)
      (standing rows (value_pending name (word ∷ [])) idle false) words
  value-plain word = go (text_at name texts) refl
    where
      go : (o : Option Text) → text_at name texts ≡ o → AgreesFrom (gathered_from (then_free (with_text texts name word)) words)
          (standing rows (value_pending name (word ∷ [])) idle false) words
      go None none = value-first word none
      go (Some given) some = value-again word given some

  value-agrees : (word : Text) → Seen word → AgreesFrom (gathered (Value name) texts (word ∷ words))
      (standing rows (value_pending name []) (option (name_of name)) false) (word ∷ words)
  value-agrees word (mark e) =
      value-fails word (ap is_plain_word e)
      (subst (λ v. Fails (fault_from (standing rows (value_pending name []) (option (name_of name)) false) (v ∷ words))) (sym e)
      (fails-on (standing rows (value_pending name []) (option (name_of name)) false)
      (standing rows (value_pending name []) (option (name_of name)) true) (codes "--") words
      (turn-mark rows (value_pending name []) (option (name_of name))) (walked-mark rows (value_pending name []) (option (name_of name)))
      (bad-behind rows (value_pending name []) (settles-empty name rows) (option (name_of name)) words)))
  value-agrees word (plain is_plain kind no_mark no_long no_short) =
      agrees-is _ _ (standing rows (value_pending name []) (option (name_of name)) false) (word ∷ words)
      (gathered-value name texts word words true is_plain)
      (agrees-on _ (standing rows (value_pending name []) (option (name_of name)) false)
      (standing rows (value_pending name (word ∷ [])) idle false) word words
      (turn-value rows (value_pending name []) word no_mark no_long no_short (name_of name))
      (walked-value rows (value_pending name []) word no_mark no_long no_short name)
      (value-plain word))
  value-agrees word (named other e) =
      value-fails word (ap is_plain_word e)
      (subst (λ v. Fails (fault_from (standing rows (value_pending name []) (option (name_of name)) false) (v ∷ words))) (sym e)
      (fails-here (standing rows (value_pending name []) (option (name_of name)) false) (45 ∷ 45 ∷ name_of other) words
      (Fails-is _ _ (turn-named other rows (value_pending name []) (option (name_of name))) (Fails-first _ _ (settles-empty name rows)))))
  value-agrees word (valued other value e) =
      value-fails word (ap is_plain_word e)
      (subst (λ v. Fails (fault_from (standing rows (value_pending name []) (option (name_of name)) false) (v ∷ words))) (sym e)
      (fails-here (standing rows (value_pending name []) (option (name_of name)) false) (45 ∷ 45 ∷ (name_of other ++ 61 ∷ value)) words
      (Fails-is _ _ (turn-valued other value rows (value_pending name []) (option (name_of name)))
      (Fails-first _ _ (Fails-first _ _ (settles-empty name rows))))))
  value-agrees word (unknown parts is_plain kind no_mark long none) =
      value-fails word is_plain
      (fails-here (standing rows (value_pending name []) (option (name_of name)) false) word words
      (Fails-first _ _ (Fails-is _ _ (word-unknown rows (value_pending name []) (option (name_of name)) word parts no_mark long none) tt)))
  value-agrees word (short x flags c is_plain kind no_mark no_long flag first) =
      value-fails word is_plain
      (fails-here (standing rows (value_pending name []) (option (name_of name)) false) word words
      (Fails-first _ _ (Fails-is _ _ (word-short rows (value_pending name []) (option (name_of name)) word x flags c no_mark no_long flag first) tt)))

tail-utf8 : (word : Text) (words : List Text) → All IsUtf8 (word ∷ words) → All IsUtf8 words
tail-utf8 word words utf8 k d lt = utf8 (suc k) d (omega (arith, lt))

-- wherever it stands, the walk over these words agrees
pub agrees : (words : List Text) → All IsUtf8 words → Resumes words × Awaits words
unfolding gathered walk_fault
agrees [] utf8 = (
  λ texts rows pending waiting rests stands. ends-well texts rows pending stands,
  λ name texts rows shows. Fails-first _ _ (settles-empty name rows),
)
agrees (word ∷ words) utf8 =
    let more = agrees words (tail-utf8 word words utf8) in
    let is_seen : Seen word = seen word (utf8 0 [] (omega arith)) in (
      λ texts rows pending waiting rests stands. free-agrees texts rows pending waiting rests stands words more.0 more.1 word is_seen,
      λ name texts rows shows. value-agrees name texts rows shows words (tail-utf8 word words utf8) more.0 word is_seen,
    )

-- nothing is gathered
abbrev pub no_texts : WordTexts
no_texts = record { workers = None; places = None; plain = [] }

-- from the first word on
pub agrees-from_start : (words : List Text) → All IsUtf8 words
    → AgreesFrom (gathered Free no_texts words) (standing [] None idle false) words
agrees-from_start words utf8 =
    (agrees words utf8).0 no_texts [] None idle tt (refl, record { workers = refl; places = refl; plain = refl })
