-- Taking a chunk and writing a code word keep the rule.
use Rattle.std.proofs.Common.{◌≡◌, ◌≢◌, ℕ, ◌+◌, ◌*◌, ◌<◌, ◌≤◌, ◌∷◌, inl, ⊎_elim, sym, ap, ◌∙◌, subst, arith}
use mathlib.Core.Logic.{dite}
use mathlib.Core.Option as maybe
use native.Mathlib.Decide.{ℕ_discrete}
use Rattle.nfg_words.proofs.Entries.{in-without}
use Rattle.nfg_words.proofs.KeepsViews.{noted}
use Rattle.nfg_words.proofs.Moved.{Leaves, moved, records_on, lies_on, from_unspent_on}
use Rattle.nfg_words.specs.Kinds.{Changes, OneMoves}
use Rattle.nfg_words.specs.Layout.{chunk_count, chunk_word, code_word, start_of, stop_of}
use Rattle.nfg_words.specs.Rule.{Views, AreApart, LiesInChunk, IsPublished, AreRecordsTrue, Rule}
use Rattle.nfg_words.specs.Steps.{chunk_taken, chunk_found, codes_written, without}
use Rattle.nfg_words.specs.View.{IsIn, IsAmong}
use Rattle.nfg_words.specs.declared.view.View.{View}

-- what lies inside a taken chunk is apart from a free one
apart_from_free : (n : ℕ) (word : ℕ → ℕ) (chunk : ℕ) → word (chunk_word n chunk) ≡ 0 → (start stop : ℕ) → LiesInChunk n word start stop
    → AreApart start stop (512 * chunk) (512 * chunk + 512)
apart_from_free n word chunk free start stop lies c low high chunk_low chunk_high =
    let its = lies.chunk in
    let its_low = lies.from in
    let its_high = lies.to in
    let same : its ≡ chunk = omega arith in
    let taken : word (chunk_word n chunk) ≡ 1 = ap (λ p. word (chunk_word n p)) (sym same) ∙ lies.taken in
    omega arith

-- the pass of this number has this view, which is not of a pass that was joined away
module _ (n : ℕ) (word : ℕ → ℕ) (views : Views) (rule : Rule n word views) (pass : ℕ) (view : View) (at : views pass ≡ maybe.some view) (size : view.size ≡ n) (next : ℕ → ℕ) (later : Views) where
  abbrev records : AreRecordsTrue n word view
  records = rule.records_true pass view at

  -- TakeChunk, where the chunk is free
  module _ (chunk : ℕ) (fits : chunk < chunk_count n) (free : word (chunk_word n chunk) ≡ 0) (changes : Changes word next (chunk_word n chunk) 1) where
    code_stays : (c : ℕ) → next (code_word n c) ≡ word (code_word n c)
    code_stays c = changes.elsewhere (code_word n c) (λ same. omega arith)

    pub taking_leaves : Leaves n word next
    taking_leaves = record {
      buckets = λ place below. changes.elsewhere place (λ same. omega arith);
      taken = λ other below one. dite (ℕ_discrete other chunk)
          (λ same. ap (λ p. next (chunk_word n p)) same ∙ changes.here)
          (λ differ. changes.elsewhere (chunk_word n other) (λ same. differ (omega arith)) ∙ one);
      bits = λ other below. dite (ℕ_discrete other chunk)
          (λ same. let is : next (chunk_word n other) ≡ 1 = ap (λ p. next (chunk_word n p)) same ∙ changes.here in omega arith)
          (λ differ. let is : next (chunk_word n other) ≡ word (chunk_word n other) = changes.elsewhere (chunk_word n other) (λ same. differ (omega arith)) in
          let bit = rule.words_valid.chunks other below in omega arith);
      published = λ c published. code_stays c;
    }

    pub chunk_taken_keeps : OneMoves views later pass (chunk_taken view chunk) → Rule n next later
    chunk_taken_keeps moves =
        let kept = records_on n word next taking_leaves view records in
        moved n word next views later rule pass (chunk_taken view chunk) moves taking_leaves (λ other its c written differ was says. code_stays c)
        (record {
          records = record {
            buckets = kept.buckets;
            codes = kept.codes;
            chunks = λ other among. ⊎_elim
                (λ (new : chunk ≡ other). subst (λ p. (p < chunk_count n) × (next (chunk_word n p) ≡ 1)) new (fits, changes.here))
                (λ (old : IsAmong view.chunks other). kept.chunks other old)
                among;
            inserted = kept.inserted;
          };
          writes = λ c written says. absurd says;
          in_chunk = λ some. record { chunk = chunk; below = fits; from = omega arith; to = omega arith; taken = changes.here };
          from_texts = from_unspent_on n word next taking_leaves (512 * chunk) (512 * chunk + 512)
              (λ place filled. apart_from_free n word chunk free (start_of (word place)) (stop_of (word place)) (rule.words_valid.in_chunk place filled));
        })
        (λ other its differ was c low high its_low its_high.
        apart_from_free n word chunk free its.unspent its.end (rule.ranges_apart.in_chunk other its was (omega arith)) c its_low its_high low high)
        (rule.numbers_justified pass view at) (inl size)

  -- TakeChunk, where the chunk is taken
  pub chunk_found_keeps : (chunk : ℕ) → chunk < chunk_count n → word (chunk_word n chunk) ≢ 0 → OneMoves views later pass (chunk_found view chunk) → Rule n word later
  chunk_found_keeps chunk fits taken moves =
      let bit = rule.words_valid.chunks chunk fits in
      let one : word (chunk_word n chunk) ≡ 1 = omega arith in
      noted n word views rule pass view at size later view.buckets view.codes (chunk ∷ view.chunks) view.inserted view.numbered (view.steps + 1) view.forks view.meets
      (record {
        buckets = records.buckets;
        codes = records.codes;
        chunks = λ other among. ⊎_elim
            (λ (new : chunk ≡ other). subst (λ p. (p < chunk_count n) × (word (chunk_word n p) ≡ 1)) new (fits, one))
            (λ (old : IsAmong view.chunks other). records.chunks other old)
            among;
        inserted = records.inserted;
      })
      (rule.numbers_justified pass view at) moves

  -- WriteCodes
  module _ (c value : ℕ) (low : view.unspent ≤ c) (high : c < view.end) (changes : Changes word next (code_word n c) value) where
    elsewhere : (other : ℕ) → other ≢ c → next (code_word n other) ≡ word (code_word n other)
    elsewhere other differ = changes.elsewhere (code_word n other) (λ same. differ (omega arith))

    chunk_stays : (chunk : ℕ) → chunk < chunk_count n → next (chunk_word n chunk) ≡ word (chunk_word n chunk)
    chunk_stays chunk below = changes.elsewhere (chunk_word n chunk) (λ same. omega arith)

    -- a published code word is not among the unspent ones
    published_stays : (other : ℕ) → IsPublished n word other → next (code_word n other) ≡ word (code_word n other)
    published_stays other published = elsewhere other (λ same.
        rule.ranges_apart.from_unspent published.0 pass view published.1 at other published.2 published.3 (subst (λ m. view.unspent ≤ m) (sym same) low) (subst (λ m. m < view.end) (sym same) high))

    pub writing_leaves : Leaves n word next
    writing_leaves = record {
      buckets = λ place below. changes.elsewhere place (λ same. omega arith);
      taken = λ chunk below one. chunk_stays chunk below ∙ one;
      bits = λ chunk below. subst (λ m. m ≤ 1) (sym (chunk_stays chunk below)) (rule.words_valid.chunks chunk below);
      published = published_stays;
    }

    pub codes_written_keeps : OneMoves views later pass (codes_written view c value) → Rule n next later
    codes_written_keeps moves =
        let kept = records_on n word next writing_leaves view records in
        moved n word next views later rule pass (codes_written view c value) moves writing_leaves
        (λ other its k written differ was says.
        let is = rule.writes_true other its was k written says in
        elsewhere k (λ same. rule.ranges_apart.unspent other pass its view differ was at k is.0 is.1
        (subst (λ m. view.unspent ≤ m) (sym same) low) (subst (λ m. m < view.end) (sym same) high)))
        (record {
          records = record { buckets = kept.buckets; codes = kept.codes; chunks = kept.chunks; inserted = kept.inserted };
          writes = λ k written says. ⊎_elim
              (λ (first : (c ≡ k) × (value ≡ written)).
              (subst (λ m. view.unspent ≤ m) first.0 low, subst (λ m. m < view.end) first.0 high, ap (λ m. next (code_word n m)) (sym first.0) ∙ (changes.here ∙ first.1)))
              (λ (past : IsIn (without c view.written) k written). let other = in-without c view.written k written past in
              let is = rule.writes_true pass view at k written other.1 in
              (is.0, is.1, elsewhere k other.0 ∙ is.2))
              says;
          in_chunk = λ some. lies_on n word next writing_leaves view.unspent view.end (rule.ranges_apart.in_chunk pass view at some);
          from_texts = from_unspent_on n word next writing_leaves view.unspent view.end (λ place filled. rule.ranges_apart.from_unspent place pass view filled at);
        })
        (λ other its differ was. rule.ranges_apart.unspent pass other view its (λ same. differ (sym same)) at was)
        (rule.numbers_justified pass view at) (inl size)
