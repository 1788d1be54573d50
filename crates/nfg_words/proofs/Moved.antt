-- Steps that leave the texts as they are keep what holds of the words.
use Rattle.std.proofs.Common.{◌≡◌, ◌≢◌, ℕ, ◌-◌, ◌%◌, ◌<◌, ◌≤◌, List, Some, None, ◌⊎◌, ⊎_elim, sym, ap, ◌∙◌, subst, arith}
use Rattle.std.proofs.Math.Decide.{dec_lt}
use mathlib.Core.Logic.{dite}
use mathlib.Core.Option as maybe
use Rattle.nfg_syn.specs.Known.{Texts, IsOneToOne}
use Rattle.nfg_words.specs.Reading.{text_named-same}
use Rattle.nfg_words.specs.Layout.{chunk_count, chunk_word, code_word, start_of, length_of, stop_of, second_code, text_named}
use Rattle.nfg_words.specs.ProbeTable.{probe_sequence}
use Rattle.nfg_words.specs.Rule.{Views, AreApart, codes_now, texts_now, IsFilled, LiesInChunk, IsPublished, AreWordsValid, AreRangesApart, IsProbedBefore, AreRecordsTrue, AreWritesTrue, AreNumbersJustified, Rule}
use Rattle.nfg_words.specs.Kinds.{OneMoves}
use Rattle.nfg_words.specs.View.{IsIn, emptied}
use Rattle.nfg_words.specs.declared.view.View.{View}
use Rattle.nfg_words.specs.SoundLaws.{bucket_below, bucket_beyond}

-- an empty bucket names no code word
pub nothing_named : (word c : ℕ) → word ≡ 0 → c < stop_of word → ⊥
nothing_named word c empty below = let least : c < stop_of 0 = subst (λ (b : ℕ). c < stop_of b) empty below in omega arith

-- A step leaves the texts: it changes no bucket and no published code word, and at most takes chunks.
pub record Leaves (n : ℕ) (word next : ℕ → ℕ) : Type 0 where
  pub buckets : (place : ℕ) → place < n → next place ≡ word place
  pub taken : (chunk : ℕ) → chunk < chunk_count n → word (chunk_word n chunk) ≡ 1 → next (chunk_word n chunk) ≡ 1
  pub bits : (chunk : ℕ) → chunk < chunk_count n → next (chunk_word n chunk) ≤ 1
  pub published : (c : ℕ) → IsPublished n word c → next (code_word n c) ≡ word (code_word n c)

module _ (n : ℕ) (word next : ℕ → ℕ) (leaves : Leaves n word next) where
  pub filled_back : (place : ℕ) → IsFilled n next place → IsFilled n word place
  filled_back place filled = (filled.0, λ empty. filled.1 (leaves.buckets place filled.0 ∙ empty))

  pub filled_on : (place : ℕ) → IsFilled n word place → IsFilled n next place
  filled_on place filled = (filled.0, λ empty. filled.1 (sym (leaves.buckets place filled.0) ∙ empty))

  -- a fact of a bucket word
  bucket_on : (P : ℕ → Type 0) (place : ℕ) → place < n → P (word place) → P (next place)
  bucket_on P place below holds = subst P (sym (leaves.buckets place below)) holds

  named_same : (place : ℕ) → place < n → text_named (codes_now n next) (Some (word place)) ≡ text_named (codes_now n word) (Some (word place))
  named_same place below = text_named-same (codes_now n word) (codes_now n next) (word place)
      (λ c low high. ap Some (leaves.published c (place, (below, λ empty. nothing_named (word place) c empty high), low, high)))

  pub text_same : (place : ℕ) → texts_now n next place ≡ texts_now n word place
  text_same place = dite (dec_lt place n)
      (λ below. ap (text_named (codes_now n next)) (bucket_below n next place below ∙ ap Some (leaves.buckets place below))
      ∙ (named_same place below ∙ ap (text_named (codes_now n word)) (sym (bucket_below n word place below))))
      (λ beyond. ap (text_named (codes_now n next)) (bucket_beyond n next place (omega arith))
      ∙ ap (text_named (codes_now n word)) (sym (bucket_beyond n word place (omega arith))))

  pub texts_same : texts_now n next ≡ texts_now n word
  texts_same = λ i place. text_same place i

  pub lies_on : (start stop : ℕ) → LiesInChunk n word start stop → LiesInChunk n next start stop
  lies_on start stop lies = record {
    chunk = lies.chunk;
    below = lies.below;
    from = lies.from;
    to = lies.to;
    taken = leaves.taken lies.chunk lies.below lies.taken;
  }

  published_on : (c : ℕ) → IsPublished n word c → IsPublished n next c
  published_on c published =
      let place = published.0 in
      let filled = published.1 in
      (place, filled_on place filled, bucket_on (λ b. start_of b ≤ c) place filled.0 published.2, bucket_on (λ b. c < stop_of b) place filled.0 published.3)

  pub valid_on : AreWordsValid n word → AreWordsValid n next
  valid_on valid = record {
    chunks = leaves.bits;
    lengths = λ place filled. bucket_on (λ b. (2 ≤ length_of b) × (length_of b ≤ 1024)) place filled.0 (valid.lengths place (filled_back place filled));
    storable = λ place text holds. valid.storable place text (sym (text_same place) ∙ holds);
    in_chunk = λ place filled. bucket_on (λ b. LiesInChunk n next (start_of b) (stop_of b)) place filled.0
        (lies_on (start_of (word place)) (stop_of (word place)) (valid.in_chunk place (filled_back place filled)));
    padded = λ place filled. bucket_on (λ b. length_of b % 2 ≡ 1 → second_code (next (code_word n (stop_of b - 1))) ≡ 0) place filled.0
        (λ odd. let was = filled_back place filled in
        let lengths = valid.lengths place was in
        let least = lengths.0 in
        ap second_code (leaves.published (stop_of (word place) - 1) (place, was, omega arith, omega arith)) ∙ valid.padded place was odd);
  }

  pub records_on : (view : View) → AreRecordsTrue n word view → AreRecordsTrue n next view
  records_on view records = record {
    buckets = λ place found says. let is = records.buckets place found says in (is.0, is.1, leaves.buckets place is.0 ∙ is.2);
    codes = λ c found says. let is = records.codes c found says in (leaves.published c is.1 ∙ is.0, published_on c is.1);
    chunks = λ chunk among. let is = records.chunks chunk among in (is.0, leaves.taken chunk is.0 is.1);
    inserted = records.inserted;
  }

  pub apart_on : (views : Views) → AreRangesApart n word views → (place other : ℕ) → IsFilled n next place → IsFilled n next other → place ≢ other
      → AreApart (start_of (next place)) (stop_of (next place)) (start_of (next other)) (stop_of (next other))
  apart_on views apart place other filled other_filled differ =
      bucket_on (λ b. AreApart (start_of b) (stop_of b) (start_of (next other)) (stop_of (next other))) place filled.0
      (bucket_on (λ b. AreApart (start_of (word place)) (stop_of (word place)) (start_of b) (stop_of b)) other other_filled.0
      (apart.texts place other (filled_back place filled) (filled_back other other_filled) differ))

  pub from_unspent_on : (start stop : ℕ)
      → ((place : ℕ) → IsFilled n word place → AreApart (start_of (word place)) (stop_of (word place)) start stop)
      → (place : ℕ) → IsFilled n next place → AreApart (start_of (next place)) (stop_of (next place)) start stop
  from_unspent_on start stop apart place filled =
      bucket_on (λ b. AreApart (start_of b) (stop_of b) start stop) place filled.0 (apart place (filled_back place filled))

  pub probed_on : IsProbedBefore n word → IsProbedBefore n next
  probed_on probed = subst (λ (texts : Texts). (place : ℕ) (text : List ℕ) → texts place ≡ Some text
      → (index : ℕ) × (index < n) × (probe_sequence n text index ≡ place)
      × ((earlier : ℕ) → earlier < index → texts (probe_sequence n text earlier) ≢ None)) (sym texts_same) probed

  pub distinct_on : IsOneToOne (texts_now n word) → IsOneToOne (texts_now n next)
  distinct_on distinct = subst IsOneToOne (sym texts_same) distinct

-- what holds of one view beside the words
pub record Stands (n : ℕ) (word : ℕ → ℕ) (view : View) : Type 0 where
  pub records : AreRecordsTrue n word view
  pub writes : AreWritesTrue n word view
  pub in_chunk : view.unspent < view.end → LiesInChunk n word view.unspent view.end
  pub from_texts : (place : ℕ) → IsFilled n word place → AreApart (start_of (word place)) (stop_of (word place)) view.unspent view.end

pub flipped : (a b c d : ℕ) → AreApart a b c d → AreApart c d a b
flipped a b c d apart x low high other_low other_high = apart x other_low other_high low high

-- the rule after a step, from what holds of the words, of the new view and of each other view
module _ (n : ℕ) (word next : ℕ → ℕ) (views later : Views) (rule : Rule n word views) (pass : ℕ) (view : View) (moves : OneMoves views later pass view) where
  -- a fact of each view
  each_view : (P : ℕ → View → Type 0) → P pass view → ((other : ℕ) (its : View) → other ≢ pass → views other ≡ maybe.some its → P other its)
      → (other : ℕ) (its : View) → later other ≡ maybe.some its → P other its
  each_view P new old other its at = ⊎_elim
      (λ is_new. subst (λ (pair : ℕ × View). P pair.0 pair.1) (λ i. (sym is_new.0 i, is_new.1 i)) new)
      (λ is_old. old other its is_old.0 is_old.1)
      (moves other its at)

  pub assembled : AreWordsValid n next
      → ((place other : ℕ) → IsFilled n next place → IsFilled n next other → place ≢ other → AreApart (start_of (next place)) (stop_of (next place)) (start_of (next other)) (stop_of (next other)))
      → IsProbedBefore n next → IsOneToOne (texts_now n next)
      → Stands n next view
      → ((other : ℕ) (its : View) → other ≢ pass → views other ≡ maybe.some its → Stands n next its)
      → ((other : ℕ) (its : View) → other ≢ pass → views other ≡ maybe.some its → AreApart view.unspent view.end its.unspent its.end)
      → AreNumbersJustified n view → (view.size ≡ n) ⊎ (view ≡ emptied)
      → Rule n next later
  assembled valid texts probed distinct new old apart numbers size = record {
    words_valid = valid;
    ranges_apart = record {
      texts = texts;
      from_unspent = λ place other its filled at. each_view (λ p v. AreApart (start_of (next place)) (stop_of (next place)) v.unspent v.end)
          (new.from_texts place filled) (λ p v differ was. (old p v differ was).from_texts place filled) other its at;
      unspent = λ one other its others differ at_one at_other. ⊎_elim
          (λ new_one. ⊎_elim
          (λ new_other. absurd (differ (new_one.0 ∙ sym new_other.0)))
          (λ old_other. subst (λ (v : View). AreApart v.unspent v.end others.unspent others.end) new_one.1 (apart other others old_other.0 old_other.1))
          (moves other others at_other))
          (λ old_one. ⊎_elim
          (λ new_other. subst (λ (v : View). AreApart its.unspent its.end v.unspent v.end) new_other.1
          (flipped view.unspent view.end its.unspent its.end (apart one its old_one.0 old_one.1)))
          (λ old_other. rule.ranges_apart.unspent one other its others differ old_one.1 old_other.1)
          (moves other others at_other))
          (moves one its at_one);
      in_chunk = each_view (λ p v. v.unspent < v.end → LiesInChunk n next v.unspent v.end) new.in_chunk (λ p v differ was. (old p v differ was).in_chunk);
    };
    probed_before = probed;
    texts_distinct = distinct;
    records_true = each_view (λ p v. AreRecordsTrue n next v) new.records (λ p v differ was. (old p v differ was).records);
    writes_true = each_view (λ p v. AreWritesTrue n next v) new.writes (λ p v differ was. (old p v differ was).writes);
    numbers_justified = each_view (λ p v. AreNumbersJustified n v) numbers (λ p v differ was. rule.numbers_justified p v was);
    one_size = each_view (λ p v. (v.size ≡ n) ⊎ (v ≡ emptied)) size (λ p v differ was. rule.one_size p v was);
  }

  -- the same where the step leaves the texts, and no other pass has written a code word that it changes
  pub moved : Leaves n word next
      → ((other : ℕ) (its : View) (c written : ℕ) → other ≢ pass → views other ≡ maybe.some its → IsIn its.written c written → next (code_word n c) ≡ word (code_word n c))
      → Stands n next view
      → ((other : ℕ) (its : View) → other ≢ pass → views other ≡ maybe.some its → AreApart view.unspent view.end its.unspent its.end)
      → AreNumbersJustified n view → (view.size ≡ n) ⊎ (view ≡ emptied)
      → Rule n next later
  moved leaves others new apart numbers size = assembled
      (valid_on n word next leaves rule.words_valid) (apart_on n word next leaves views rule.ranges_apart)
      (probed_on n word next leaves rule.probed_before) (distinct_on n word next leaves rule.texts_distinct)
      new
      (λ other its differ was. record {
        records = records_on n word next leaves its (rule.records_true other its was);
        writes = λ c written says. let is = rule.writes_true other its was c written says in (is.0, is.1, others other its c written differ was says ∙ is.2);
        in_chunk = λ some. lies_on n word next leaves its.unspent its.end (rule.ranges_apart.in_chunk other its was some);
        from_texts = from_unspent_on n word next leaves its.unspent its.end (λ place filled. rule.ranges_apart.from_unspent place other its filled was);
      })
      apart numbers size
