-- What the atomic table asks of each step: that the rule is kept, whatever the words are.
use Rattle.std.proofs.Common.{◌≡◌, ◌≢◌, ℕ, zero, suc, ◌+◌, ◌-◌, ◌*◌, ◌<◌, ◌≤◌, inl, inr, ⊎_elim, List, [], ◌∷◌, ◌++◌, length, get_or, set, eqb, eq-eqb, ne_eqb, refl, sym, ap, ◌∙◌, subst, arith, length-set, get_or-set_other, get_or-set_same}
use mathlib.Core.Logic.{dite}
use mathlib.Core.Option as maybe
use mathlib.Core.Option.{some-injective, some-ne-none}
use native.Mathlib.Decide.{ℕ_discrete}
use lib.ListN.{get_elem?}
use lib.Seq.{set-get_or}
use prog.Atomic.{either}
use Rattle.atomic_table.proofs.Lists.{at_set, set_else, set_again, at_longer, at_last}
use Rattle.atomic_table.specs.Seated.{TableId}
use Rattle.atomic_table.specs.Table.{State, Me, step, keeps, Allows, Splits, Joins}
use Rattle.atomic_table.specs.declared.shared.Seat.{Seat}
use Rattle.nfg_words.proofs.KeepsChunks.{chunk_taken_keeps, chunk_found_keeps, codes_written_keeps}
use Rattle.nfg_words.proofs.Entries.{cons_keeps}
use Rattle.nfg_words.proofs.KeepsPublish.{bucket_published_keeps, more_buckets, more_codes}
use Rattle.nfg_words.proofs.KeepsViews.{read_keeps, codes_read_keeps, number_read_keeps, split_keeps, split_off_keeps, joined_keeps, emptied_keeps}
use Rattle.nfg_words.proofs.Opening.{opening_rule}
use Rattle.nfg_words.specs.Kinds.{Changes, OneMoves}
use Rattle.nfg_words.specs.Rule.{Rule, AreRecordsTrue, IsJustified}
use Rattle.nfg_words.specs.Layout.{chunk_count, chunk_word, code_word, word_count}
use Rattle.nfg_words.specs.Steps.{CanPublish, IsNamed, bucket_read, bucket_published, chunk_taken, chunk_found, codes_written, codes_read, number_read, split, split_off, joined}
use Rattle.nfg_words.specs.View.{Grows, SaysAll, IsAmong, emptied, entry, fresh_view}
use Rattle.nfg_words.specs.Words.{IsKept, IsSeatOf, IsSound, Stays, TellsBucket, TellsChunk, TellsCodes, TellsNumber, TellsPublishing, TellsSight, TellsWriting}
use Rattle.nfg_words.specs.declared.view.View.{View}
use Rattle.nfg_words.specs.SoundLaws.{same_word, says_in}

abbrev word_at : List ℕ → ℕ → ℕ
word_at words index = get_or words index 0

set_changes : (words : List ℕ) (index value : ℕ) → index < length words → Changes (word_at words) (word_at (set words index value)) index value
set_changes words index value inside = record {
  here = get_or-set_same words index value 0 inside;
  elsewhere = λ other differ. get_or-set_other words index other value 0 differ;
}

set_moves : (views : List View) (id : ℕ) (view : View) → OneMoves (get_elem? views) (get_elem? (set views id view)) id view
set_moves views id view other its at = at_set views id other view its at

-- a list with one more element: the new one stands at its end
snoc_moves : (views : List View) (view : View) → OneMoves (get_elem? views) (get_elem? (views ++ view ∷ [])) (length views) view
snoc_moves [] view zero its at = inl (refl, some-injective view its at)
snoc_moves [] view (suc other) its at = absurd (some-ne-none its (sym at))
snoc_moves (first ∷ rest) view zero its at = inr ((λ same. omega arith), at)
snoc_moves (first ∷ rest) view (suc other) its at = ⊎_elim
    (λ new. inl (ap suc new.0, new.1))
    (λ old. let differ = old.0 in inr ((λ same. differ (omega arith)), old.1))
    (snoc_moves rest view other its at)

set_at : (views : List View) (id : ℕ) (view old : View) → get_elem? views id ≡ maybe.some old → get_elem? (set views id view) id ≡ maybe.some view
set_at [] id view old at = absurd (some-ne-none old (sym at))
set_at (first ∷ rest) zero view old at = refl
set_at (first ∷ rest) (suc id) view old at = set_at rest id view old at

-- a step that changes no word
word_stays : (n : ℕ) (state : State ℕ View) (index id : ℕ) (view : View) → length state.words ≡ word_count n → Rule n (word_at state.words) (get_elem? (set state.views id view))
    → IsKept n record { words = set state.words index (word_at state.words index); homes = state.homes; views = set state.views id view }
word_stays n state index id view long rule =
    subst (λ (words : List ℕ). IsKept n record { words = words; homes = state.homes; views = set state.views id view }) (sym (set-get_or state.words index 0)) (long, rule)

-- what a step leaves, where the rule is kept after it
stays : (n id : ℕ) (state : State ℕ View) (words : List ℕ) (me : Me ℕ View) (later : View) → me.0.size ≡ n → get_elem? state.views id ≡ maybe.some me.0
    → IsKept n record { words = words; homes = state.homes; views = set state.views id later } → later.size ≡ me.0.size → Grows me.0 later → Stays me (later, me.1)
stays n id state words me later size at kept same grows = record {
  slots = refl;
  size = same;
  grows = grows;
  sound = subst (λ m. IsSound m later) (sym size) (record {
    state = record { words = words; homes = state.homes; views = set state.views id later };
    kept = kept;
    pass = id;
    at = set_at state.views id later me.0 at;
  });
}

-- a view that records the same bucket words and code words, and no fewer chunks
same_records : (old new : View) → new.buckets ≡ old.buckets → new.codes ≡ old.codes → ((chunk : ℕ) → IsAmong old.chunks chunk → IsAmong new.chunks chunk) → Grows old new
same_records old new buckets codes chunks = record {
  buckets = λ index word says. ap (λ pairs. entry pairs index) buckets ∙ says;
  codes = λ index word says. ap (λ pairs. entry pairs index) codes ∙ says;
  chunks = chunks;
}

module _ (n slots id : ℕ) (me : Me ℕ View) (size : me.0.size ≡ n) where
  pub takes : (chunk : ℕ) → chunk < chunk_count n
      → Allows (IsKept n) slots id me (chunk_word n chunk) (λ found. either (eqb found 0) 1 found) (TellsChunk (step slots (chunk_word n chunk) 0 1 maybe.none) me)
  takes chunk fits state kept homes at bounded =
      let found : ℕ = word_at state.words (chunk_word n chunk) in
      let named : chunk ≡ chunk_word n chunk - me.0.size = omega arith in
      let long = kept.0 in
      dite (ℕ_discrete found 0)
      (λ free.
      let seen : View = chunk_taken me.0 chunk in
      let now : IsKept n record { words = set state.words (chunk_word n chunk) 1; homes = state.homes; views = set state.views id seen } = (
        length-set state.words (chunk_word n chunk) 1 ∙ kept.0,
        chunk_taken_keeps n (word_at state.words) (get_elem? state.views) kept.1 id me.0 at size (word_at (set state.words (chunk_word n chunk) 1)) (get_elem? (set state.views id seen))
            chunk fits free (set_changes state.words (chunk_word n chunk) 1 (omega arith)) (set_moves state.views id seen),
      ) in (
        seen,
        keeps,
        tt,
        subst (λ b. IsKept n record { words = set state.words (chunk_word n chunk) (either b 1 found); homes = state.homes; views = set state.views id seen }) (sym (eq-eqb found 0 free)) now,
        (
          (λ is_free. ap (chunk_taken me.0) named),
          (λ taken. absurd (taken free)),
          stays n id state (set state.words (chunk_word n chunk) 1) me seen size at now refl (same_records me.0 seen refl refl (λ other among. inr among)),
        ),
      ))
      (λ taken.
      let seen : View = chunk_found me.0 chunk in
      let rule = chunk_found_keeps n (word_at state.words) (get_elem? state.views) kept.1 id me.0 at size (word_at state.words) (get_elem? (set state.views id seen))
      chunk fits taken (set_moves state.views id seen) in (
        seen,
        keeps,
        tt,
        subst (λ b. IsKept n record { words = set state.words (chunk_word n chunk) (either b 1 found); homes = state.homes; views = set state.views id seen }) (sym (ne_eqb found 0 taken))
            (word_stays n state (chunk_word n chunk) id seen kept.0 rule),
        (
          (λ free. absurd (taken free)),
          (λ is_taken. ap (chunk_found me.0) named),
          stays n id state state.words me seen size at (kept.0, rule) refl (same_records me.0 seen refl refl (λ other among. inr among)),
        ),
      ))

  pub writes : (c value : ℕ) → me.0.unspent ≤ c → c < me.0.end → c < 512 * chunk_count n
      → Allows (IsKept n) slots id me (code_word n c) (λ found. value) (λ found. TellsWriting (step slots (code_word n c) value 0 maybe.none) me value)
  writes c value low high inside state kept homes at bounded =
      let same : me.0.size + chunk_count me.0.size ≡ n + chunk_count n = ap (λ m. m + chunk_count m) size in
      let named : c ≡ code_word n c - (me.0.size + chunk_count me.0.size) = omega arith in
      let long = kept.0 in
      let seen : View = codes_written me.0 c value in
      let now : IsKept n record { words = set state.words (code_word n c) value; homes = state.homes; views = set state.views id seen } = (
        length-set state.words (code_word n c) value ∙ kept.0,
        codes_written_keeps n (word_at state.words) (get_elem? state.views) kept.1 id me.0 at size (word_at (set state.words (code_word n c) value)) (get_elem? (set state.views id seen))
            c value low high (set_changes state.words (code_word n c) value (omega arith)) (set_moves state.views id seen),
      ) in (
        seen,
        keeps,
        tt,
        now,
        (
          ap (λ m. codes_written me.0 m value) named,
          stays n id state (set state.words (code_word n c) value) me seen size at now refl (same_records me.0 seen refl refl (λ other among. among)),
        ),
      )

  -- a load that records more
  module _ (state : State ℕ View) (kept : IsKept n state) (at : get_elem? state.views id ≡ maybe.some me.0) where
    records : AreRecordsTrue n (word_at state.words) me.0
    records = kept.1.records_true id me.0 at

    pub bucket_grows : (place found : ℕ) → word_at state.words place ≡ found → Grows me.0 (bucket_read me.0 place found)
    bucket_grows place zero is = same_records me.0 (bucket_read me.0 place zero) refl refl (λ other among. among)
    bucket_grows place (suc less) is = record {
      buckets = cons_keeps place (suc less) me.0.buckets (λ found says. sym (records.buckets place found (says_in me.0.buckets place found says)).2 ∙ is);
      codes = λ index word says. says;
      chunks = λ chunk among. among;
    }

    codes_grow : (c found : ℕ) (later : View) → word_at state.words (code_word n c) ≡ found → later.buckets ≡ me.0.buckets → later.codes ≡ (c, found) ∷ me.0.codes → later.chunks ≡ me.0.chunks → Grows me.0 later
    codes_grow c found later is buckets codes chunks = record {
      buckets = λ index word says. ap (λ pairs. entry pairs index) buckets ∙ says;
      codes = λ index word says. ap (λ pairs. entry pairs index) codes
          ∙ cons_keeps c found me.0.codes (λ old is_old. sym (records.codes c old (says_in me.0.codes c old is_old)).0 ∙ is) index word says;
      chunks = λ chunk among. subst (λ (all : List ℕ). IsAmong all chunk) (sym chunks) among;
    }

module _ (n id : ℕ) (view : View) (size : view.size ≡ n) where
  pub splits : Splits (IsKept n) id view (split view) (split_off view)
  splits state kept at =
      let between : List View = set state.views id (split view) in (
        kept.0,
        split_off_keeps n (word_at state.words) (get_elem? between)
            (split_keeps n (word_at state.words) (get_elem? state.views) kept.1 id view at size (get_elem? between) (set_moves state.views id (split view)))
            id (split view) (set_at state.views id (split view) view at) size (get_elem? (between ++ split_off view ∷ [])) (length between) (snoc_moves between (split_off view)),
      )

  pub joins : (other : ℕ) (its : View) → Joins (IsKept n) id view other its (joined view its) emptied
  joins other its state kept at differ there =
      let between : List View = set state.views id (joined view its) in
      let its_at : get_elem? state.views other ≡ maybe.some its = sym (set_else state.views id other (joined view its) differ) ∙ there in (
        kept.0,
        emptied_keeps n (word_at state.words) (get_elem? between) (get_elem? (set between other emptied)) other
            (joined_keeps n (word_at state.words) (get_elem? state.views) kept.1 id view at size (get_elem? between) other its its_at (set_moves state.views id (joined view its)))
            (set_moves between other emptied),
      )

-- the same, for a table whose key is known to be n, and a word whose index is known
pub take_asks : (n key slots id chunk word : ℕ) (me : Me ℕ View) → key ≡ n → word ≡ chunk_word n chunk → me.0.size ≡ n → chunk < chunk_count n
    → Allows (IsKept key) slots id me word (λ found. either (eqb found 0) 1 found) (TellsChunk (step slots word 0 1 maybe.none) me)
take_asks n key slots id chunk word me same at size fits =
    subst (λ (pair : ℕ × ℕ). Allows (IsKept pair.0) slots id me pair.1 (λ found. either (eqb found 0) 1 found) (TellsChunk (step slots pair.1 0 1 maybe.none) me))
    (λ i. (sym same i, sym at i)) (takes n slots id me size chunk fits)

pub write_asks : (n key slots id c value word : ℕ) (me : Me ℕ View) → key ≡ n → word ≡ code_word n c → me.0.size ≡ n → me.0.unspent ≤ c → c < me.0.end → c < 512 * chunk_count n
    → Allows (IsKept key) slots id me word (λ found. value) (λ found. TellsWriting (step slots word value 0 maybe.none) me value)
write_asks n key slots id c value word me same at size low high inside =
    subst (λ (pair : ℕ × ℕ). Allows (IsKept pair.0) slots id me pair.1 (λ found. value) (λ found. TellsWriting (step slots pair.1 value 0 maybe.none) me value))
    (λ i. (sym same i, sym at i)) (writes n slots id me size c value low high inside)

-- what an exchange of a chunk word tells, with the chunk in place of the word
pub tells_taken : (n slots chunk word found : ℕ) (me later : Me ℕ View) → word ≡ chunk_word n chunk → me.0.size ≡ n
    → TellsChunk (step slots word 0 1 maybe.none) me found later → found ≡ 0 → later.0 ≡ chunk_taken me.0 chunk
tells_taken n slots chunk word found me later at size tells free =
    let named : word - me.0.size ≡ chunk = omega arith in tells.0 free ∙ ap (chunk_taken me.0) named

pub tells_found : (n slots chunk word found : ℕ) (me later : Me ℕ View) → word ≡ chunk_word n chunk → me.0.size ≡ n
    → TellsChunk (step slots word 0 1 maybe.none) me found later → found ≢ 0 → later.0 ≡ chunk_found me.0 chunk
tells_found n slots chunk word found me later at size tells taken =
    let named : word - me.0.size ≡ chunk = omega arith in tells.1 taken ∙ ap (chunk_found me.0) named

pub tells_written : (n slots c value word : ℕ) (me later : Me ℕ View) → word ≡ code_word n c → me.0.size ≡ n
    → TellsWriting (step slots word value 0 maybe.none) me value later → later.0 ≡ codes_written me.0 c value
tells_written n slots c value word me later at size tells =
    let same : me.0.size + chunk_count me.0.size ≡ n + chunk_count n = ap (λ m. m + chunk_count m) size in
    let named : word - (me.0.size + chunk_count me.0.size) ≡ c = omega arith in tells.0 ∙ ap (λ m. codes_written me.0 m value) named

pub bucket_read_size : (view : View) (place found : ℕ) → (bucket_read view place found).size ≡ view.size
bucket_read_size view place zero = refl
bucket_read_size view place (suc less) = refl

pub read_asks : (n key slots id place : ℕ) (me : Me ℕ View) → key ≡ n → me.0.size ≡ n → place < n
    → Allows (IsKept key) slots id me place (λ found. found) (TellsBucket (step slots place 0 0 maybe.none) me)
read_asks n key slots id place me same size below = subst (λ (k : ℕ). Allows (IsKept k) slots id me place (λ found. found) (TellsBucket (step slots place 0 0 maybe.none) me)) (sym same)
    (λ state kept homes at bounded.
    let found : ℕ = word_at state.words place in
    let seen : View = bucket_read me.0 place found in
    let rule = read_keeps n (word_at state.words) (get_elem? state.views) kept.1 id me.0 at size (get_elem? (set state.views id seen)) place found below refl (set_moves state.views id seen) in (
      seen,
      keeps,
      tt,
      word_stays n state place id seen kept.0 rule,
      (
        refl,
        (λ recorded says. ((kept.1.records_true id me.0 at).buckets place recorded (says_in me.0.buckets place recorded says)).2),
        stays n id state state.words me seen size at (kept.0, rule) (bucket_read_size me.0 place found) (bucket_grows n slots id me size state kept at place found refl),
      ),
    ))

pub publish_asks : (n key slots id place bucket : ℕ) (me : Me ℕ View) (text : List ℕ) → key ≡ n → me.0.size ≡ n → place < n → CanPublish n me.0 place bucket text
    → Allows (IsKept key) slots id me place (λ found. either (eqb found 0) bucket found) (TellsPublishing (step slots place 0 bucket maybe.none) me)
publish_asks n key slots id place bucket me text same size below can = subst (λ (k : ℕ). Allows (IsKept k) slots id me place (λ found. either (eqb found 0) bucket found) (TellsPublishing (step slots place 0 bucket maybe.none) me)) (sym same)
    (λ state kept homes at bounded.
    let found : ℕ = word_at state.words place in
    let long = kept.0 in
    dite (ℕ_discrete found 0)
    (λ free.
    let seen : View = bucket_published me.0 place bucket in
    let next : List ℕ = set state.words place bucket in
    let changes = set_changes state.words place bucket (omega arith) in
    let now : IsKept n record { words = next; homes = state.homes; views = set state.views id seen } = (
      length-set state.words place bucket ∙ kept.0,
      bucket_published_keeps n (word_at state.words) (word_at next) (get_elem? state.views) (get_elem? (set state.views id seen)) kept.1 id me.0 at size place bucket text can free
          changes (set_moves state.views id seen),
    ) in (
      seen,
      keeps,
      tt,
      subst (λ b. IsKept n record { words = set state.words place (either b bucket found); homes = state.homes; views = set state.views id seen }) (sym (eq-eqb found 0 free)) now,
      (
        (λ is_free. refl),
        (λ taken. absurd (taken free)),
        stays n id state next me seen size at now refl (record {
          buckets = more_buckets n (word_at state.words) (word_at next) (get_elem? state.views) (get_elem? (set state.views id seen)) kept.1 id me.0 at size place bucket text can free changes;
          codes = more_codes n (word_at state.words) (word_at next) (get_elem? state.views) (get_elem? (set state.views id seen)) kept.1 id me.0 at size place bucket text can free changes;
          chunks = λ chunk among. among;
        }),
      ),
    ))
    (λ taken.
    let seen : View = bucket_read me.0 place found in
    let rule = read_keeps n (word_at state.words) (get_elem? state.views) kept.1 id me.0 at size (get_elem? (set state.views id seen)) place found below refl (set_moves state.views id seen) in (
      seen,
      keeps,
      tt,
      subst (λ b. IsKept n record { words = set state.words place (either b bucket found); homes = state.homes; views = set state.views id seen }) (sym (ne_eqb found 0 taken))
          (word_stays n state place id seen kept.0 rule),
      (
        (λ free. absurd (taken free)),
        (λ is_taken. refl),
        stays n id state state.words me seen size at (kept.0, rule) (bucket_read_size me.0 place found) (bucket_grows n slots id me size state kept at place found refl),
      ),
    )))

-- a load of a code word
pub codes_asks : (n key slots id c word : ℕ) (me : Me ℕ View) → key ≡ n → word ≡ code_word n c → me.0.size ≡ n → IsNamed me.0 c
    → Allows (IsKept key) slots id me word (λ found. found) (TellsCodes (step slots word 0 0 maybe.none) me)
codes_asks n key slots id c word me same is_at size named = subst (λ (pair : ℕ × ℕ). Allows (IsKept pair.0) slots id me pair.1 (λ found. found) (TellsCodes (step slots pair.1 0 0 maybe.none) me))
    (λ i. (sym same i, sym is_at i))
    (λ state kept homes at bounded.
    let sizes : me.0.size + chunk_count me.0.size ≡ n + chunk_count n = ap (λ m. m + chunk_count m) size in
    let index : c ≡ code_word n c - (me.0.size + chunk_count me.0.size) = omega arith in
    let found : ℕ = word_at state.words (code_word n c) in
    let seen : View = codes_read me.0 c found in
    let rule = codes_read_keeps n (word_at state.words) (get_elem? state.views) kept.1 id me.0 at size (get_elem? (set state.views id seen)) c found named refl (set_moves state.views id seen) in (
      seen,
      keeps,
      tt,
      word_stays n state (code_word n c) id seen kept.0 rule,
      (ap (λ (m : ℕ). codes_read me.0 m found) index, stays n id state state.words me seen size at (kept.0, rule) refl (codes_grow n slots id me size state kept at c found seen refl refl refl refl)),
    ))

-- a load of a code word that gives the number of a place, where it finds the word that is wanted
pub number_asks : (n key slots id c word place told_place wanted told : ℕ) (me : Me ℕ View) → key ≡ n → word ≡ code_word n c → told_place ≡ place → told ≡ wanted → me.0.size ≡ n → IsNamed me.0 c
    → (SaysAll me.0.codes (codes_read me.0 c wanted).codes → IsJustified n (codes_read me.0 c wanted) place)
    → Allows (IsKept key) slots id me word (λ found. found) (TellsNumber told_place told (step slots word 0 0 maybe.none) me)
number_asks n key slots id c word place told_place wanted told me same is_at same_place same_word size named justified =
    subst (λ (all : ℕ × ℕ × ℕ × ℕ). Allows (IsKept all.0) slots id me all.1 (λ found. found) (TellsNumber all.2 all.3 (step slots all.1 0 0 maybe.none) me))
    (λ i. (sym same i, sym is_at i, sym same_place i, sym same_word i))
    (λ state kept homes at bounded.
    let sizes : me.0.size + chunk_count me.0.size ≡ n + chunk_count n = ap (λ m. m + chunk_count m) size in
    let index : c ≡ code_word n c - (me.0.size + chunk_count me.0.size) = omega arith in
    let found : ℕ = word_at state.words (code_word n c) in
    dite (ℕ_discrete found wanted)
    (λ is.
    let seen : View = number_read me.0 c found place in
    let grows = codes_grow n slots id me size state kept at c found seen refl refl refl refl in
    let rule = number_read_keeps n (word_at state.words) (get_elem? state.views) kept.1 id me.0 at size (get_elem? (set state.views id seen)) c found place named refl
    (subst (λ w. SaysAll me.0.codes (codes_read me.0 c w).codes → IsJustified n (codes_read me.0 c w) place) (sym is) justified grows.codes) (set_moves state.views id seen) in (
      seen,
      keeps,
      tt,
      word_stays n state (code_word n c) id seen kept.0 rule,
      (
        (λ wanted_found. ap (λ (m : ℕ). number_read me.0 m found place) index),
        (λ other. absurd (other is)),
        stays n id state state.words me seen size at (kept.0, rule) refl grows,
      ),
    ))
    (λ other.
    let seen : View = codes_read me.0 c found in
    let rule = codes_read_keeps n (word_at state.words) (get_elem? state.views) kept.1 id me.0 at size (get_elem? (set state.views id seen)) c found named refl (set_moves state.views id seen) in (
      seen,
      keeps,
      tt,
      word_stays n state (code_word n c) id seen kept.0 rule,
      (
        (λ is. absurd (other is)),
        (λ another. ap (λ (m : ℕ). codes_read me.0 m found) index),
        stays n id state state.words me seen size at (kept.0, rule) refl (codes_grow n slots id me size state kept at c found seen refl refl refl refl),
      ),
    )))

-- a load that changes no view
pub sight_asks : (n key slots id word : ℕ) (me : Me ℕ View) → key ≡ n → me.0.size ≡ n
    → Allows (IsKept key) slots id me word (λ found. found) (TellsSight (step slots word 0 0 maybe.none) me)
sight_asks n key slots id word me same size = subst (λ (k : ℕ). Allows (IsKept k) slots id me word (λ found. found) (TellsSight (step slots word 0 0 maybe.none) me)) (sym same)
    (λ state kept homes at bounded. (
      me.0,
      keeps,
      tt,
      subst (λ (views : List View). IsKept n record { words = set state.words word (word_at state.words word); homes = state.homes; views = views }) (sym (set_again state.views id me.0 at))
          (subst (λ (words : List ℕ). IsKept n record { words = words; homes = state.homes; views = state.views }) (sym (set-get_or state.words word 0)) kept),
      (refl, subst (λ m. IsSound m me.0) (sym size) (record { state = state; kept = kept; pass = id; at = at })),
    ))

-- a split keeps both views sound
pub split_sound : (n : ℕ) (view : View) → view.size ≡ n → IsSound n view → IsSound n (split view)
split_sound n view size sound = let between : List View = set sound.state.views sound.pass (split view) in record {
  state = record { words = sound.state.words; homes = sound.state.homes; views = between ++ split_off view ∷ [] };
  kept = splits n sound.pass view size sound.state sound.kept sound.at;
  pass = sound.pass;
  at = at_longer between (split_off view ∷ []) sound.pass (split view) (set_at sound.state.views sound.pass (split view) view sound.at);
}

pub split_off_sound : (n : ℕ) (view : View) → view.size ≡ n → IsSound n view → IsSound n (split_off view)
split_off_sound n view size sound = let between : List View = set sound.state.views sound.pass (split view) in record {
  state = record { words = sound.state.words; homes = sound.state.homes; views = between ++ split_off view ∷ [] };
  kept = splits n sound.pass view size sound.state sound.kept sound.at;
  pass = length between;
  at = at_last between (split_off view) (length between) refl;
}

-- a seat after a step is at its table as before
pub seat_stays : (id : TableId) (n : ℕ) (old new : Seat ℕ View) → IsSeatOf id n old → new.table_id ≡ old.table_id → Stays old.me new.me → IsSeatOf id n new
seat_stays id n old new seat same stays = record {
  table = same ∙ seat.table;
  words = seat.words;
  size = stays.size ∙ seat.size;
  no_slots = stays.slots ∙ seat.no_slots;
  sound = subst (λ m. IsSound m new.me.0) seat.size stays.sound;
}

-- what a load of a code word tells, with the code word in place of the word
pub tells_codes : (n slots c word found : ℕ) (me later : Me ℕ View) → word ≡ code_word n c → me.0.size ≡ n
    → TellsCodes (step slots word 0 0 maybe.none) me found later → later.0 ≡ codes_read me.0 c found
tells_codes n slots c word found me later at size tells =
    let same : me.0.size + chunk_count me.0.size ≡ n + chunk_count n = ap (λ m. m + chunk_count m) size in
    let named : word - (me.0.size + chunk_count me.0.size) ≡ c = omega arith in tells.0 ∙ ap (λ (m : ℕ). codes_read me.0 m found) named

pub tells_numbered : (n slots c word found told_place place told wanted : ℕ) (me later : Me ℕ View) → word ≡ code_word n c → me.0.size ≡ n → told_place ≡ place → told ≡ wanted
    → TellsNumber told_place told (step slots word 0 0 maybe.none) me found later → found ≡ wanted → later.0 ≡ number_read me.0 c found place
tells_numbered n slots c word found told_place place told wanted me later at size same_place same_word tells is =
    let same : me.0.size + chunk_count me.0.size ≡ n + chunk_count n = ap (λ m. m + chunk_count m) size in
    let named : word - (me.0.size + chunk_count me.0.size) ≡ c = omega arith in
    tells.0 (is ∙ sym same_word) ∙ (ap (λ (m : ℕ). number_read me.0 m found told_place) named ∙ ap (λ (p : ℕ). number_read me.0 c found p) same_place)

pub tells_other : (n slots c word found told_place told wanted : ℕ) (me later : Me ℕ View) → word ≡ code_word n c → me.0.size ≡ n → told ≡ wanted
    → TellsNumber told_place told (step slots word 0 0 maybe.none) me found later → found ≢ wanted → later.0 ≡ codes_read me.0 c found
tells_other n slots c word found told_place told wanted me later at size same_word tells other =
    let same : me.0.size + chunk_count me.0.size ≡ n + chunk_count n = ap (λ m. m + chunk_count m) size in
    let named : word - (me.0.size + chunk_count me.0.size) ≡ c = omega arith in
    tells.1 (λ is. other (is ∙ same_word)) ∙ ap (λ (m : ℕ). codes_read me.0 m found) named

only_view : (first : View) (pass : ℕ) (view : View) → get_elem? (first ∷ []) pass ≡ maybe.some view → view ≡ first
only_view first zero view at = sym (some-injective first view at)
only_view first (suc pass) view at = absurd (some-ne-none view (sym at))

-- the first pass of words that are all 0 has a sound view
pub fresh_sound : (n : ℕ) (words : List ℕ) → length words ≡ word_count n → ((index : ℕ) → word_at words index ≡ 0) → IsSound n (fresh_view n)
fresh_sound n words long zeros = record {
  state = record { words = words; homes = []; views = fresh_view n ∷ [] };
  kept = (long, opening_rule n (word_at words) zeros (get_elem? (fresh_view n ∷ [])) (only_view (fresh_view n)));
  pass = 0;
  at = refl;
}
