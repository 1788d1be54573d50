-- Publishing a bucket is an event of the machine, and keeps the rule.
use Rattle.std.proofs.Common.{◌≡◌, ◌≢◌, ℕ, ◌-◌, ◌%◌, ◌<◌, ◌≤◌, nat_lt, List, Some, None, ◌⊎◌, inl, inr, ⊎_elim, if◌then◌else◌, refl, sym, ap, ◌∙◌, subst, arith}
use Rattle.std.proofs.Math.Decide.{dec_lt}
use mathlib.Core.Logic.{dite}
use mathlib.Core.Option as maybe
use native.Mathlib.Decide.{ℕ_discrete}
use Rattle.nfg_words.proofs.Entries.{says-first, cons_keeps, append_keeps_left, append_keeps_right, entry-below, in-append, in-below, in-from, places_more, justified_more}
use Rattle.nfg_words.proofs.Moved.{assembled, flipped}
use Rattle.nfg_words.proofs.ProbeTableLemmas.{IsSettled, after_tells, stays_settled, within_size}
use Rattle.nfg_words.specs.Reading.{IsKnownBy, text_named-more, text_named-within}
use Rattle.nfg_words.specs.Kinds.{Changes, OneMoves}
use Rattle.nfg_words.specs.Layout.{chunk_word, code_word, start_of, length_of, stop_of, second_code, text_named}
use Rattle.nfg_words.specs.ProbeTable.{Insert, IsAllowed, after, probe_sequence}
use Rattle.nfg_words.specs.Rule.{Views, AreApart, codes_now, texts_now, IsFilled, LiesInChunk, IsPublished, IsJustified, AreWordsValid, AreRecordsTrue, Rule}
use Rattle.nfg_words.specs.Steps.{CanPublish, bucket_published, below}
use Rattle.nfg_words.specs.View.{entry, IsIn, IsAmong, places_of}
use Rattle.nfg_words.specs.declared.view.View.{View}
use Rattle.nfg_words.specs.SoundLaws.{bucket_below, bucket_beyond, no_text, places_true, says_in}

-- the rule says of the texts what the machine keeps
pub rule_is_settled : (n : ℕ) (word : ℕ → ℕ) (views : Views) → Rule n word views → IsSettled n (texts_now n word)
rule_is_settled n word views rule = record {
  storable = λ place text holds. (
    dite (dec_lt place n) (λ low. low)
        (λ high. absurd (no_text text (ap (text_named (codes_now n word)) (sym (bucket_beyond n word place (omega arith))) ∙ holds))),
    rule.words_valid.storable place text holds,
  );
  probed = rule.probed_before;
  distinct = rule.texts_distinct;
}

module _ (n : ℕ) (word next : ℕ → ℕ) (views later : Views) (rule : Rule n word views) (pass : ℕ) (view : View) (at : views pass ≡ maybe.some view) (size : view.size ≡ n)
    (place bucket : ℕ) (text : List ℕ) (can : CanPublish n view place bucket text) (free : word place ≡ 0) (changes : Changes word next place bucket) where
  abbrev event : Insert
  event = record { place = place; text = text }

  abbrev seen : View
  seen = bucket_published view place bucket

  abbrev records : AreRecordsTrue n word view
  records = rule.records_true pass view at

  within : place < n
  within = subst (λ (p : ℕ). p < n) can.reaches (within_size n text can.index can.on_sequence)

  some_bucket : bucket ≢ 0
  some_bucket empty = let least : 2 ≤ length_of 0 = subst (λ (b : ℕ). 2 ≤ length_of b) empty can.lengths.0 in omega arith

  longer : start_of bucket < stop_of bucket
  longer = let least = can.lengths.0 in omega arith

  code_stays : (c : ℕ) → next (code_word n c) ≡ word (code_word n c)
  code_stays c = let low = within in changes.elsewhere (code_word n c) (λ same. omega arith)

  chunk_stays : (chunk : ℕ) → next (chunk_word n chunk) ≡ word (chunk_word n chunk)
  chunk_stays chunk = let low = within in changes.elsewhere (chunk_word n chunk) (λ same. omega arith)

  codes_stay : codes_now n next ≡ codes_now n word
  codes_stay = λ i c. Some (code_stays c i)

  written_now : IsKnownBy (entry view.written) (codes_now n next)
  written_now c found says = ap Some (code_stays c ∙ (rule.writes_true pass view at c found (says_in view.written c found says)).2)

  text_here : texts_now n next place ≡ Some text
  text_here = ap (text_named (codes_now n next)) (bucket_below n next place within ∙ ap Some changes.here)
      ∙ text_named-more (entry view.written) (codes_now n next) (Some bucket) (Some bucket) text written_now (λ found same. same) can.spelled

  text_elsewhere : (other : ℕ) → other ≢ place → texts_now n next other ≡ texts_now n word other
  text_elsewhere other differ = λ i. text_named (codes_stay i) (if nat_lt other n then Some (changes.elsewhere other differ i) else None)

  -- the table's texts change by the event
  pub texts_after : texts_now n next ≡ after (texts_now n word) event
  texts_after = λ i other. each other i
    where
      each : (other : ℕ) → texts_now n next other ≡ after (texts_now n word) event other
      each other = ⊎_elim
          (λ here. ap (texts_now n next) here.0 ∙ (text_here ∙ sym here.1))
          (λ past. text_elsewhere other past.0 ∙ sym past.1)
          (after_tells (texts_now n word) event other)

  -- and the event is allowed
  pub event_allowed : IsAllowed n (texts_now n word) event
  event_allowed = record {
    storable = can.storable;
    index = can.index;
    on_sequence = can.on_sequence;
    reaches = can.reaches;
    empty = ap (text_named (codes_now n word)) (bucket_below n word place within ∙ ap Some free);
    passed = λ earlier before. let other = can.passed earlier before in
        (other.0, places_true n word view records (probe_sequence n text earlier) other.0 other.1, other.2);
  }

  settled : IsSettled n (texts_now n next)
  settled = subst (IsSettled n) (sym texts_after) (stays_settled n (texts_now n word) event (rule_is_settled n word views rule) event_allowed)

  not_filled : (other : ℕ) → IsFilled n word other → other ≢ place
  not_filled other filled same = filled.1 (ap word same ∙ free)

  filled_cases : (other : ℕ) → IsFilled n next other → (other ≡ place) ⊎ ((other ≢ place) × IsFilled n word other)
  filled_cases other filled = dite (ℕ_discrete other place)
      (λ same. inl same)
      (λ differ. inr (differ, (filled.0, λ empty. filled.1 (changes.elsewhere other differ ∙ empty))))

  filled_on : (other : ℕ) → IsFilled n word other → IsFilled n next other
  filled_on other filled = (filled.0, λ empty. filled.1 (sym (changes.elsewhere other (not_filled other filled)) ∙ empty))

  filled_here : IsFilled n next place
  filled_here = (within, λ empty. some_bucket (sym changes.here ∙ empty))

  -- a fact of each filled bucket
  each_filled : (P : ℕ → ℕ → Type 0) → P place bucket → ((other : ℕ) → other ≢ place → IsFilled n word other → P other (word other))
      → (other : ℕ) → IsFilled n next other → P other (next other)
  each_filled P new old other filled = ⊎_elim
      (λ (same : other ≡ place). subst (λ (p : ℕ). P p (next p)) (sym same) (subst (P place) (sym changes.here) new))
      (λ (past : (other ≢ place) × IsFilled n word other). subst (P other) (sym (changes.elsewhere other past.0)) (old other past.0 past.1))
      (filled_cases other filled)

  lies_on : (start stop : ℕ) → LiesInChunk n word start stop → LiesInChunk n next start stop
  lies_on start stop lies = record {
    chunk = lies.chunk;
    below = lies.below;
    from = lies.from;
    to = lies.to;
    taken = chunk_stays lies.chunk ∙ lies.taken;
  }

  some_unspent : view.unspent < view.end
  some_unspent = let begins = can.begins in let ends = can.ends in let more = longer in omega arith

  own_chunk : LiesInChunk n next view.unspent view.end
  own_chunk = lies_on view.unspent view.end (rule.ranges_apart.in_chunk pass view at some_unspent)

  -- what is apart from the unspent code words is apart from those of the text, and from those that stay
  apart_from_text : (start stop : ℕ) → AreApart start stop view.unspent view.end → AreApart start stop (start_of bucket) (stop_of bucket)
  apart_from_text start stop apart c low high text_low text_high =
      let begins = can.begins in let ends = can.ends in apart c low high (omega arith) (omega arith)

  apart_from_rest : (start stop : ℕ) → AreApart start stop view.unspent view.end → AreApart start stop (stop_of bucket) view.end
  apart_from_rest start stop apart c low high rest_low rest_high =
      let begins = can.begins in let more = longer in apart c low high (omega arith) rest_high

  valid : AreWordsValid n next
  valid = record {
    chunks = λ chunk fits. subst (λ b. b ≤ 1) (sym (chunk_stays chunk)) (rule.words_valid.chunks chunk fits);
    lengths = each_filled (λ p b. (2 ≤ length_of b) × (length_of b ≤ 1024)) can.lengths (λ other differ filled. rule.words_valid.lengths other filled);
    storable = λ other its holds. (settled.storable other its holds).1;
    in_chunk = each_filled (λ p b. LiesInChunk n next (start_of b) (stop_of b))
        (let own = own_chunk in
        let low = own.from in let high = own.to in let begins = can.begins in let ends = can.ends in
        record { chunk = own.chunk; below = own.below; from = omega arith; to = omega arith; taken = own.taken })
        (λ other differ filled. lies_on (start_of (word other)) (stop_of (word other)) (rule.words_valid.in_chunk other filled));
    padded = each_filled (λ p b. length_of b % 2 ≡ 1 → second_code (next (code_word n (stop_of b - 1))) ≡ 0)
        (λ odd. let last = can.padded odd in
        ap second_code (code_stays (stop_of bucket - 1) ∙ (rule.writes_true pass view at (stop_of bucket - 1) last.0 (says_in view.written (stop_of bucket - 1) last.0 last.1)).2) ∙ last.2)
        (λ other differ filled odd. ap second_code (code_stays (stop_of (word other) - 1)) ∙ rule.words_valid.padded other filled odd);
  }

  texts_apart : (one other : ℕ) → IsFilled n next one → IsFilled n next other → one ≢ other
      → AreApart (start_of (next one)) (stop_of (next one)) (start_of (next other)) (stop_of (next other))
  texts_apart one other one_filled other_filled = each_filled
      (λ p b. p ≢ other → AreApart (start_of b) (stop_of b) (start_of (next other)) (stop_of (next other)))
      (each_filled (λ q b. place ≢ q → AreApart (start_of bucket) (stop_of bucket) (start_of b) (stop_of b))
      (λ differ. absurd (differ refl))
      (λ q past filled differ. flipped (start_of (word q)) (stop_of (word q)) (start_of bucket) (stop_of bucket)
      (apart_from_text (start_of (word q)) (stop_of (word q)) (rule.ranges_apart.from_unspent q pass view filled at)))
      other other_filled)
      (λ p past filled. each_filled (λ q b. p ≢ q → AreApart (start_of (word p)) (stop_of (word p)) (start_of b) (stop_of b))
      (λ differ. apart_from_text (start_of (word p)) (stop_of (word p)) (rule.ranges_apart.from_unspent p pass view filled at))
      (λ q other_past its_filled differ. rule.ranges_apart.texts p q filled its_filled differ)
      other other_filled)
      one one_filled

  published_on : (c : ℕ) → IsPublished n word c → IsPublished n next c
  published_on c published =
      let stays = changes.elsewhere published.0 (not_filled published.0 published.1) in
      (published.0, filled_on published.0 published.1, subst (λ b. start_of b ≤ c) (sym stays) published.2, subst (λ b. c < stop_of b) (sym stays) published.3)

  records_on : (its : View) → AreRecordsTrue n word its → AreRecordsTrue n next its
  records_on its are = record {
    buckets = λ other found says. let is = are.buckets other found says in
        (is.0, is.1, changes.elsewhere other (not_filled other (is.0, λ empty. is.1 (sym is.2 ∙ empty))) ∙ is.2);
    codes = λ c found says. let is = are.codes c found says in (code_stays c ∙ is.0, published_on c is.1);
    chunks = λ chunk among. let is = are.chunks chunk among in (is.0, chunk_stays chunk ∙ is.1);
    inserted = are.inserted;
  }

  pub more_buckets : IsKnownBy (entry view.buckets) (entry seen.buckets)
  more_buckets = cons_keeps place bucket view.buckets (λ found says. let is = records.buckets place found (says_in view.buckets place found says) in absurd (is.1 (sym is.2 ∙ free)))

  -- a code word of the text is written
  is_written : (c found : ℕ) → IsIn (below (stop_of bucket) view.written) c found → (c < stop_of bucket) × IsIn view.written c found
  is_written c found is = in-below (stop_of bucket) view.written c found is

  pub more_codes : IsKnownBy (entry view.codes) (entry seen.codes)
  more_codes = append_keeps_right (below (stop_of bucket) view.written) view.codes (λ c one other says also.
      sym (rule.writes_true pass view at c one (is_written c one (says_in (below (stop_of bucket) view.written) c one says)).1).2 ∙ (records.codes c other (says_in view.codes c other also)).0)

  place_read : places_of seen place ≡ Some text
  place_read = ap (text_named (entry seen.codes)) (says-first place bucket view.buckets)
      ∙ text_named-within (entry view.written) (entry seen.codes) bucket text
      (λ c found low high says. append_keeps_left (below (stop_of bucket) view.written) view.codes c found (⊎_elim
      (λ inside. inside.1 ∙ says)
      (λ outside. let beyond = outside.0 in absurd (omega arith))
      (entry-below (stop_of bucket) view.written c)))
      can.spelled

  seen_records : AreRecordsTrue n next seen
  seen_records = let on = records_on view records in record {
    buckets = λ other found says. ⊎_elim
        (λ (new : (place ≡ other) × (bucket ≡ found)). (subst (λ (p : ℕ). p < n) new.0 within, (λ empty. some_bucket (new.1 ∙ empty)), ap next (sym new.0) ∙ (changes.here ∙ new.1)))
        (λ (old : IsIn view.buckets other found). on.buckets other found old)
        says;
    codes = λ c found says. ⊎_elim
        (λ new. let is = is_written c found new in
        let its = rule.writes_true pass view at c found is.1 in
        let begins = can.begins in
        let low = its.0 in
        let from_start : start_of bucket ≤ c = omega arith in
        (code_stays c ∙ its.2, (place, filled_here, subst (λ (b : ℕ). start_of b ≤ c) (sym changes.here) from_start, subst (λ (b : ℕ). c < stop_of b) (sym changes.here) is.0)))
        (λ old. on.codes c found old)
        (in-append (below (stop_of bucket) view.written) view.codes c found says);
    chunks = on.chunks;
    inserted = λ other among. ⊎_elim
        (λ (new : place ≡ other). (text, ap (places_of seen) (sym new) ∙ place_read))
        (λ (old : IsAmong view.inserted other). let is = records.inserted other old in
        (is.0, places_more n view seen more_codes more_buckets other is.0 is.1))
        among;
  }

  -- PublishBucket
  pub bucket_published_keeps : OneMoves views later pass seen → Rule n next later
  bucket_published_keeps moves = assembled n word next views later rule pass seen moves
      valid texts_apart settled.probed settled.distinct
      (record {
        records = seen_records;
        writes = λ c written says. let is = in-from (stop_of bucket) view.written c written says in
            let its = rule.writes_true pass view at c written is.1 in (is.0, its.1, code_stays c ∙ its.2);
        in_chunk = λ some. let own = own_chunk in
            let low = own.from in let begins = can.begins in let more = longer in
            record { chunk = own.chunk; below = own.below; from = omega arith; to = own.to; taken = own.taken };
        from_texts = each_filled (λ p b. AreApart (start_of b) (stop_of b) (stop_of bucket) view.end)
            (λ c low high rest_low rest_high. omega arith)
            (λ other past filled. apart_from_rest (start_of (word other)) (stop_of (word other)) (rule.ranges_apart.from_unspent other pass view filled at));
      })
      (λ other its differ was. record {
        records = records_on its (rule.records_true other its was);
        writes = λ c written says. let is = rule.writes_true other its was c written says in (is.0, is.1, code_stays c ∙ is.2);
        in_chunk = λ some. lies_on its.unspent its.end (rule.ranges_apart.in_chunk other its was some);
        from_texts = each_filled (λ p b. AreApart (start_of b) (stop_of b) its.unspent its.end)
            (flipped its.unspent its.end (start_of bucket) (stop_of bucket) (apart_from_text its.unspent its.end (rule.ranges_apart.unspent other pass its view differ was at)))
            (λ p past filled. rule.ranges_apart.from_unspent p other its filled was);
      })
      (λ other its differ was. flipped its.unspent its.end (stop_of bucket) view.end (apart_from_rest its.unspent its.end (rule.ranges_apart.unspent other pass its view differ was at)))
      (λ other among. ⊎_elim
      (λ (new : place ≡ other). subst (IsJustified n seen) new (
        text,
        place_read,
        can.index,
        can.on_sequence,
        can.reaches,
        λ earlier before.
            let its = can.passed earlier before in (its.0, places_more n view seen more_codes more_buckets (probe_sequence n text earlier) its.0 its.1, its.2),
      ))
      (λ (old : IsAmong view.numbered other). justified_more n view seen more_codes more_buckets other (rule.numbers_justified pass view at other old))
      among)
      (inl size)
