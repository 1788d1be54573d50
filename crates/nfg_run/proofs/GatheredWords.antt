-- Words are gathered as texts first, and their numbers read at the end.
use Rattle.std.proofs.Common.{◌≡◌, ℕ, Bool, true, false, cond, List, [], ◌∷◌, ◌++◌, Option, Some, None, option_map, option_and_then, refl, sym, ap, subst, ◌∙◌, length, nat_le, nat_lt, ◌^◌, ◌&&◌, ◌||◌, not, bytes_eq, codes, nat_eq, true≢false, arith}
use Rattle.std.proofs.lemmas.Bool.Decides.{nat_tests}
use Rattle.std.specs.Str.Parse.{digits_value}
use Rattle.nfg_run.specs.declared.said.Said.{Said}
use Rattle.nfg_run.specs.CommandLine.{OptionName, Workers, Table, WordKind, Mark, PlainWord, Named, NamedWith, Unknown, Next, Free, Value, Plain, kind_of, is_plain_word, number_of, option_number, if_passes, if_first, is_table_size, is_worker_count, with_number, with_value, with_plain, with_kind, with_word, with_words, with_no_word, then_free}
use Rattle.nfg_run.specs.WordTexts.{WordTexts, given_number, said_with, said_in}
use Rattle.nfg_run.proofs.ClapRows.{some≢none}

-- the option has this text, where it has none yet
abbrev pub with_text : WordTexts → OptionName → List ℕ → Option WordTexts
with_text texts Workers text =
    if_first texts.workers (record { workers = Some text; places = texts.places; plain = texts.plain })
with_text texts Table text =
    if_first texts.places (record { workers = texts.workers; places = Some text; plain = texts.plain })

abbrev pub plain_text : WordTexts → List ℕ → WordTexts
plain_text texts word = record { workers = texts.workers; places = texts.places; plain = texts.plain ++ word ∷ [] }

abbrev pub gathered_kind : WordKind → WordTexts → List ℕ → Option (WordTexts × Next)
gathered_kind Mark texts word = Some (texts, Plain)
gathered_kind PlainWord texts word = Some (plain_text texts word, Free)
gathered_kind (Named name) texts word = Some (texts, Value name)
gathered_kind (NamedWith name value) texts word = then_free (with_text texts name value)
gathered_kind Unknown texts word = None

-- no other word is a number
abbrev pub gathered_value : (is_plain : Bool) → WordTexts → OptionName → List ℕ → Option (WordTexts × Next)
gathered_value true texts name word = then_free (with_text texts name word)
gathered_value false texts name word = None

abbrev pub gathered_word : Next → WordTexts → List ℕ → Option (WordTexts × Next)
gathered_word Free texts word = gathered_kind (kind_of word) texts word
gathered_word (Value name) texts word = gathered_value (is_plain_word word) texts name word
gathered_word Plain texts word = Some (plain_text texts word, Plain)

unfoldable pub gathered : Next → WordTexts → List (List ℕ) → Option WordTexts
gathered next texts [] = with_no_word next texts
gathered next texts (word ∷ words) = elim (gathered_word next texts word) [
  | None ↦ None
  | Some more ↦ gathered more.1 more.0 words
]

-- ---- a number that isn't lawful stays

-- behind this step, a number isn't lawful
abbrev IsBadStep : Option (WordTexts × Next) → Type 0
IsBadStep None = Unit {0}
IsBadStep (Some more) = said_in more.0 ≡ None

said_with-plain : (workers places : Option (Option ℕ)) (plain other : List (List ℕ)) → said_with workers places plain ≡ None
    → said_with workers places other ≡ None
said_with-plain None places plain other e = refl
said_with-plain (Some workers) None plain other e = refl
said_with-plain (Some workers) (Some places) plain other e = absurd (some≢none _ e)

said_with-no_places : (workers : Option (Option ℕ)) (plain : List (List ℕ)) → said_with workers None plain ≡ None
said_with-no_places None plain = refl
said_with-no_places (Some workers) plain = refl

no_places : (workers : Option ℕ) (places : Option (Option ℕ)) (plain : List (List ℕ)) → said_with (Some workers) places plain ≡ None
    → places ≡ None
no_places workers None plain e = refl
no_places workers (Some places) plain e = absurd (some≢none _ e)

no_workers : (workers : Option (Option ℕ)) (places : Option ℕ) (plain : List (List ℕ)) → said_with workers (Some places) plain ≡ None
    → workers ≡ None
no_workers None places plain e = refl
no_workers (Some workers) places plain e = absurd (some≢none _ e)

bad-workers : (texts : WordTexts) (given : Option (List ℕ)) (text : List ℕ) → said_in (record texts { workers = given }) ≡ None
    → IsBadStep (then_free (with_text (record texts { workers = given }) Workers text))
bad-workers texts (Some given) text e = tt
bad-workers texts None text e =
    ap (λ o. said_with (given_number Workers (Some text)) o texts.plain)
    (no_places None (given_number Table texts.places) texts.plain e)
    ∙ said_with-no_places (given_number Workers (Some text)) texts.plain

bad-places : (texts : WordTexts) (given : Option (List ℕ)) (text : List ℕ) → said_in (record texts { places = given }) ≡ None
    → IsBadStep (then_free (with_text (record texts { places = given }) Table text))
bad-places texts (Some given) text e = tt
bad-places texts None text e =
    ap (λ o. said_with o (given_number Table (Some text)) texts.plain)
    (no_workers (given_number Workers texts.workers) None texts.plain e)

bad-text : (texts : WordTexts) (name : OptionName) (text : List ℕ) → said_in texts ≡ None
    → IsBadStep (then_free (with_text texts name text))
bad-text texts Workers text e = bad-workers texts texts.workers text e
bad-text texts Table text e = bad-places texts texts.places text e

bad-plain : (texts : WordTexts) (word : List ℕ) → said_in texts ≡ None → said_in (plain_text texts word) ≡ None
bad-plain texts word e =
    said_with-plain (given_number Workers texts.workers) (given_number Table texts.places) texts.plain _ e

bad-kind : (kind : WordKind) (texts : WordTexts) (word : List ℕ) → said_in texts ≡ None → IsBadStep (gathered_kind kind texts word)
bad-kind Mark texts word e = e
bad-kind PlainWord texts word e = bad-plain texts word e
bad-kind (Named name) texts word e = e
bad-kind (NamedWith name value) texts word e = bad-text texts name value e
bad-kind Unknown texts word e = tt

bad-value : (b : Bool) (texts : WordTexts) (name : OptionName) (word : List ℕ) → said_in texts ≡ None
    → IsBadStep (gathered_value b texts name word)
bad-value true texts name word e = bad-text texts name word e
bad-value false texts name word e = tt

bad-word : (next : Next) (texts : WordTexts) (word : List ℕ) → said_in texts ≡ None → IsBadStep (gathered_word next texts word)
bad-word Free texts word e = bad-kind (kind_of word) texts word e
bad-word (Value name) texts word e = bad-value (is_plain_word word) texts name word e
bad-word Plain texts word e = bad-plain texts word e

bad-last : (next : Next) (texts : WordTexts) → said_in texts ≡ None → option_and_then said_in (with_no_word next texts) ≡ None
bad-last Free texts e = e
bad-last (Value name) texts e = refl
bad-last Plain texts e = e

-- behind a number that isn't lawful, nothing is said
bad : (next : Next) (texts : WordTexts) (words : List (List ℕ)) → said_in texts ≡ None
    → option_and_then said_in (gathered next texts words) ≡ None
unfolding gathered
bad next texts [] e = bad-last next texts e
bad next texts (word ∷ words) e =
    go (gathered_word next texts word) (bad-word next texts word e) (λ more h. bad more.1 more.0 words h)
  where
    go : (step : Option (WordTexts × Next)) → IsBadStep step
        → ((more : WordTexts × Next) → said_in more.0 ≡ None → option_and_then said_in (gathered more.1 more.0 words) ≡ None)
        → option_and_then said_in (elim step [ None ↦ None | Some more ↦ gathered more.1 more.0 words ]) ≡ None
    go None h rest = refl
    go (Some more) h rest = rest more h

-- ---- lawful numbers

-- the texts give these numbers
pub record Gives (texts : WordTexts) (said : Said) : Type 0 where
  pub workers : given_number Workers texts.workers ≡ Some said.workers
  pub places : given_number Table texts.places ≡ Some said.places
  pub plain : texts.plain ≡ said.plain

Gives-said_in : (texts : WordTexts) (said : Said) → Gives texts said → said_in texts ≡ Some said
Gives-said_in texts said gives = λ i. said_with (gives.workers i) (gives.places i) (gives.plain i)

-- the same step of both, or one that ends both
abbrev IsSameStep : Option (Said × Next) → Option (WordTexts × Next) → Type 0
IsSameStep None None = Unit {0}
IsSameStep None (Some more) = said_in more.0 ≡ None
IsSameStep (Some said) None = ⊥
IsSameStep (Some said) (Some more) = Gives more.0 said.0 × (said.1 ≡ more.1)

same-plain : (texts : WordTexts) (said : Said) (word : List ℕ) → Gives texts said → Gives (plain_text texts word) (with_plain said word)
same-plain texts said word gives = record {
  workers = gives.workers;
  places = gives.places;
  plain = ap (λ plain. plain ++ word ∷ []) gives.plain;
}

abbrev pub inner : Option (Option ℕ) → Option ℕ
inner None = None
inner (Some o) = o

-- no value has no number
none_given : (n : ℕ) → ◌≡◌ {A = Option (Option ℕ)} (Some None) (Some (Some n)) → ⊥
none_given n e = some≢none n (sym (ap inner e))

-- a value that is given has a number
given-some : (number said : Option ℕ) → option_map (λ n. Some n) number ≡ Some said → said ≡ None → ⊥
given-some None said e none = some≢none said (sym e)
given-some (Some n) said e none = some≢none n (ap inner e ∙ none)

same-workers : (texts : WordTexts) (said : Said) (value : List ℕ) (number : Option ℕ) (given : Option (List ℕ)) (earlier : Option ℕ)
    → option_number Workers value ≡ number → Gives (record texts { workers = given }) (record said { workers = earlier })
    → IsSameStep (then_free (with_number (record said { workers = earlier }) Workers number))
    (then_free (with_text (record texts { workers = given }) Workers value))
same-workers texts said value None None earlier e gives =
    ap (λ o. said_with (option_map (λ n. Some n) o) (given_number Table texts.places) texts.plain) e
same-workers texts said value None (Some given) earlier e gives = tt
same-workers texts said value (Some number) None None e gives =
    (record { workers = ap (option_map (λ n. Some n)) e; places = gives.places; plain = gives.plain }, refl)
same-workers texts said value (Some number) None (Some earlier) e gives = absurd (none_given earlier gives.workers)
same-workers texts said value (Some number) (Some given) None e gives =
    absurd (given-some (option_number Workers given) None gives.workers refl)
same-workers texts said value (Some number) (Some given) (Some earlier) e gives = tt

same-places : (texts : WordTexts) (said : Said) (value : List ℕ) (number : Option ℕ) (given : Option (List ℕ)) (earlier : Option ℕ)
    → option_number Table value ≡ number → Gives (record texts { places = given }) (record said { places = earlier })
    → IsSameStep (then_free (with_number (record said { places = earlier }) Table number))
    (then_free (with_text (record texts { places = given }) Table value))
same-places texts said value None None earlier e gives =
    ap (λ o. said_with (given_number Workers texts.workers) (option_map (λ n. Some n) o) texts.plain) e
    ∙ said_with-no_places (given_number Workers texts.workers) texts.plain
same-places texts said value None (Some given) earlier e gives = tt
same-places texts said value (Some number) None None e gives =
    (record { workers = gives.workers; places = ap (option_map (λ n. Some n)) e; plain = gives.plain }, refl)
same-places texts said value (Some number) None (Some earlier) e gives = absurd (none_given earlier gives.places)
same-places texts said value (Some number) (Some given) None e gives =
    absurd (given-some (option_number Table given) None gives.places refl)
same-places texts said value (Some number) (Some given) (Some earlier) e gives = tt

same-value : (texts : WordTexts) (said : Said) (name : OptionName) (value : List ℕ) → Gives texts said
    → IsSameStep (then_free (with_value said name value)) (then_free (with_text texts name value))
same-value texts said Workers value gives =
    same-workers texts said value (option_number Workers value) texts.workers said.workers refl gives
same-value texts said Table value gives =
    same-places texts said value (option_number Table value) texts.places said.places refl gives

same-kind : (kind : WordKind) (texts : WordTexts) (said : Said) (word : List ℕ) → Gives texts said
    → IsSameStep (with_kind kind said word) (gathered_kind kind texts word)
same-kind Mark texts said word gives = (gives, refl)
same-kind PlainWord texts said word gives = (same-plain texts said word gives, refl)
same-kind (Named name) texts said word gives = (gives, refl)
same-kind (NamedWith name value) texts said word gives = same-value texts said name value gives
same-kind Unknown texts said word gives = tt

or-true : (b : Bool) → (b || true) ≡ true
or-true true = refl
or-true false = refl

hyphen : (word : List ℕ) → number_of (45 ∷ word) ≡ None
unfolding number_of
hyphen word = none (nat_le 1 (length (45 ∷ word))) (nat_lt (digits_value 10 (45 ∷ word)) (2 ^ 64))
  where
    none : (a b : Bool) → cond (a && false && b) (Some (digits_value 10 (45 ∷ word))) None ≡ None
    none true b = refl
    none false b = refl

-- a word that begins with `-` is no number
no_number : (word : List ℕ) → is_plain_word word ≡ false → number_of word ≡ None
unfolding number_of
no_number [] e = absurd (true≢false e)
no_number (x ∷ word) e = go (nat_eq 45 x) refl e
  where
    go : (b : Bool) → nat_eq 45 x ≡ b → (bytes_eq (x ∷ word) (codes "-") || not (b && true)) ≡ false → number_of (x ∷ word) ≡ None
    go true same h =
        let is : x ≡ 45 = grind (arith, nat_tests) in
        ap (λ n. number_of (n ∷ word)) is ∙ hyphen word
    go false other h = absurd (true≢false (sym (or-true (bytes_eq (x ∷ word) (codes "-"))) ∙ h))

no_value : (said : Said) (name : OptionName) (word : List ℕ) → number_of word ≡ None → with_value said name word ≡ None
no_value said Workers word e = ap (λ o. with_number said Workers (if_passes is_worker_count o)) e
no_value said Table word e = ap (λ o. with_number said Table (if_passes is_table_size o)) e

same-given : (b : Bool) (texts : WordTexts) (said : Said) (name : OptionName) (word : List ℕ) → is_plain_word word ≡ b → Gives texts said
    → IsSameStep (then_free (with_value said name word)) (gathered_value b texts name word)
same-given true texts said name word e gives = same-value texts said name word gives
same-given false texts said name word e gives =
    subst (λ o. IsSameStep (then_free o) None) (sym (no_value said name word (no_number word e))) tt

same-word : (next : Next) (texts : WordTexts) (said : Said) (word : List ℕ) → Gives texts said
    → IsSameStep (with_word next said word) (gathered_word next texts word)
same-word Free texts said word gives = same-kind (kind_of word) texts said word gives
same-word (Value name) texts said word gives = same-given (is_plain_word word) texts said name word refl gives
same-word Plain texts said word gives = (same-plain texts said word gives, refl)

same-last : (next : Next) (texts : WordTexts) (said : Said) → Gives texts said
    → with_no_word next said ≡ option_and_then said_in (with_no_word next texts)
same-last Free texts said gives = sym (Gives-said_in texts said gives)
same-last (Value name) texts said gives = refl
same-last Plain texts said gives = sym (Gives-said_in texts said gives)

-- what is said is what the texts say
pub with_words-gathered : (next : Next) (texts : WordTexts) (said : Said) (words : List (List ℕ)) → Gives texts said
    → with_words next said words ≡ option_and_then said_in (gathered next texts words)
unfolding with_words gathered
with_words-gathered next texts said [] gives = same-last next texts said gives
with_words-gathered next texts said (word ∷ words) gives =
    go (with_word next said word) (gathered_word next texts word) (same-word next texts said word gives)
    (λ some more h. with_words-gathered more.1 more.0 some.0 words h)
  where
    go : (step : Option (Said × Next)) (texts_step : Option (WordTexts × Next)) → IsSameStep step texts_step
        → ((some : Said × Next) (more : WordTexts × Next) → Gives more.0 some.0
        → with_words more.1 some.0 words ≡ option_and_then said_in (gathered more.1 more.0 words))
        → elim step [ None ↦ None | Some more ↦ with_words more.1 more.0 words ]
        ≡ option_and_then said_in (elim texts_step [ None ↦ None | Some more ↦ gathered more.1 more.0 words ])
    go None None h rest = refl
    go None (Some more) h rest = sym (bad more.1 more.0 words h)
    go (Some some) None h rest = absurd h
    go (Some some) (Some more) h rest = ap (λ n. with_words n some.0 words) h.1 ∙ rest some more h.0
