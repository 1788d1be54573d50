-- What clap's rows hold of an argument behind a use of it, and behind a use of another.
use Rattle.std.proofs.Common.{◌≡◌, Bool, true, false, cond, ◌||◌, List, [], ◌∷◌, ◌++◌, Option, Some, None, find, option_map, bytes_eq, is_some, refl, sym, ap, ◌∙◌, true≢false}
use Rattle.std.proofs.lemmas.Slice.Eq.{bytes_eq-Decides}
use Rattle.clap.specs.Walk.{Row, Text, all_of, has_row, more_values, without, with_values}
use Rattle.clap.specs.declared.builder.value_parser.Reading.{Reading}
use Rattle.clap.specs.declared.parser.matches.ValueSource.{ValueSource}

pub some≢none : {X : Type 0} (x : X) → Some x ≡ None → ⊥
some≢none x e = true≢false (ap is_some e)

-- the first row decides
all_of-cons : (id : Text) (r : Row) (rows : List Row)
    → all_of id (r ∷ rows) ≡ cond (bytes_eq r.id id) (Some r.values) (all_of id rows)
all_of-cons id r rows = go (bytes_eq r.id id)
  where
    go : (b : Bool) → option_map (λ (x : Row). x.values) (cond b (Some r) (find (λ x. bytes_eq x.id id) rows))
        ≡ cond b (Some r.values) (all_of id rows)
    go true = refl
    go false = refl

pub without-none : (id : Text) (rows : List Row) → all_of id rows ≡ None → without id rows ≡ rows
without-none id [] e = refl
without-none id (r ∷ rows) e = go (bytes_eq r.id id) (sym (all_of-cons id r rows) ∙ e) (without-none id rows)
  where
    go : (b : Bool) → cond b (Some r.values) (all_of id rows) ≡ None → (all_of id rows ≡ None → without id rows ≡ rows)
        → cond b rows (r ∷ without id rows) ≡ r ∷ rows
    go true e more = absurd (some≢none r.values e)
    go false e more = ap (λ rest. r ∷ rest) (more e)

pub has_row-none : (id : Text) (rows : List Row) → all_of id rows ≡ None → has_row id rows ≡ false
has_row-none id [] e = refl
has_row-none id (r ∷ rows) e = go (bytes_eq r.id id) (sym (all_of-cons id r rows) ∙ e) (has_row-none id rows)
  where
    go : (b : Bool) → cond b (Some r.values) (all_of id rows) ≡ None → (all_of id rows ≡ None → has_row id rows ≡ false)
        → (b || has_row id rows) ≡ false
    go true e more = absurd (some≢none r.values e)
    go false e more = more e

pub has_row-some : (id : Text) (values : List Text) (rows : List Row) → all_of id rows ≡ Some values → has_row id rows ≡ true
has_row-some id values [] e = absurd (some≢none values (sym e))
has_row-some id values (r ∷ rows) e =
    go (bytes_eq r.id id) (sym (all_of-cons id r rows) ∙ e) (has_row-some id values rows)
  where
    go : (b : Bool) → cond b (Some r.values) (all_of id rows) ≡ Some values
        → (all_of id rows ≡ Some values → has_row id rows ≡ true) → (b || has_row id rows) ≡ true
    go true e more = refl
    go false e more = more e

-- the values so far
abbrev pub earlier : Option (List Text) → List Text
earlier None = []
earlier (Some values) = values

pub all_of-same : (id : Text) (how : Reading) (source : ValueSource) (values : List Text) (rows : List Row)
    → bytes_eq id id ≡ true
    → all_of id (with_values id how source values rows) ≡ Some (earlier (all_of id rows) ++ values)
all_of-same id how source values [] same = all_of-cons id _ [] ∙ ap (λ b. cond b (Some values) None) same
all_of-same id how source values (r ∷ rows) same =
    go (bytes_eq r.id id) refl (all_of-same id how source values rows same)
    ∙ ap (λ o. Some (earlier o ++ values)) (sym (all_of-cons id r rows))
  where
    go : (b : Bool) → bytes_eq r.id id ≡ b
        → all_of id (with_values id how source values rows) ≡ Some (earlier (all_of id rows) ++ values)
        → all_of id (cond b (more_values source values r ++ rows) (r ∷ with_values id how source values rows))
        ≡ Some (earlier (cond b (Some r.values) (all_of id rows)) ++ values)
    go true e more = all_of-cons id _ rows ∙ ap (λ b. cond b (Some (r.values ++ values)) (all_of id rows)) e
    go false e more =
        all_of-cons id r (with_values id how source values rows)
        ∙ ap (λ b. cond b (Some r.values) (all_of id (with_values id how source values rows))) e ∙ more

-- a name that is one id isn't another
pub apart : (id other name : Text) → bytes_eq id other ≡ false → bytes_eq name id ≡ true → bytes_eq name other ≡ false
apart id other name differ same = ap (λ n. bytes_eq n other) ((bytes_eq-Decides name id).0 same) ∙ differ

pub all_of-other : (id other : Text) (how : Reading) (source : ValueSource) (values : List Text) (rows : List Row)
    → bytes_eq id other ≡ false → all_of other (with_values id how source values rows) ≡ all_of other rows
all_of-other id other how source values [] differ =
    all_of-cons other _ [] ∙ ap (λ b. cond b (Some values) None) differ
all_of-other id other how source values (r ∷ rows) differ =
    go (bytes_eq r.id id) refl (all_of-other id other how source values rows differ) ∙ sym (all_of-cons other r rows)
  where
    go : (b : Bool) → bytes_eq r.id id ≡ b → all_of other (with_values id how source values rows) ≡ all_of other rows
        → all_of other (cond b (more_values source values r ++ rows) (r ∷ with_values id how source values rows))
        ≡ cond (bytes_eq r.id other) (Some r.values) (all_of other rows)
    go true e more =
        let not_other : bytes_eq r.id other ≡ false = apart id other r.id differ e in
        all_of-cons other _ rows ∙ ap (λ b. cond b (Some (r.values ++ values)) (all_of other rows)) not_other
        ∙ sym (ap (λ b. cond b (Some r.values) (all_of other rows)) not_other)
    go false e more =
        all_of-cons other r (with_values id how source values rows)
        ∙ ap (λ o. cond (bytes_eq r.id other) (Some r.values) o) more
