-- Loads, splits and joins keep the rule: they change no word.
use Rattle.std.proofs.Common.{◌≡◌, ℕ, zero, suc, ◌+◌, ◌<◌, ◌≤◌, List, ◌∷◌, ◌++◌, inl, inr, ⊎_elim, refl, sym, ap, ◌∙◌, subst, arith}
use mathlib.Core.Option as maybe
use Rattle.nfg_words.proofs.Entries.{cons_keeps, in-append, append_keeps_left, append_keeps_right, among-append, places_more, justified_more}
use Rattle.nfg_words.proofs.Moved.{Leaves, moved}
use Rattle.nfg_words.specs.Reading.{IsKnownBy}
use Rattle.nfg_words.specs.Kinds.{OneMoves}
use Rattle.nfg_words.specs.Layout.{code_word, start_of, stop_of}
use Rattle.nfg_words.specs.Rule.{Views, IsPublished, IsJustified, AreRecordsTrue, AreNumbersJustified, Rule}
use Rattle.nfg_words.specs.Steps.{IsNamed, bucket_read, codes_read, number_read, split, split_off, joined}
use Rattle.nfg_words.specs.View.{entry, IsIn, IsAmong, emptied}
use Rattle.nfg_words.specs.declared.view.View.{View}
use Rattle.nfg_words.specs.SoundLaws.{says_in}

suc_is_not_zero : (m : ℕ) → suc m ≡ 0 → ⊥
suc_is_not_zero m e = omega arith

-- words that stay leave the texts
pub stays : (n : ℕ) (word : ℕ → ℕ) (views : Views) → Rule n word views → Leaves n word word
stays n word views rule = record {
  buckets = λ place below. refl;
  taken = λ chunk below one. one;
  bits = rule.words_valid.chunks;
  published = λ c published. refl;
}

-- the pass of this number has this view, which is not of a pass that was joined away
module _ (n : ℕ) (word : ℕ → ℕ) (views : Views) (rule : Rule n word views) (pass : ℕ) (view : View) (at : views pass ≡ maybe.some view) (size : view.size ≡ n) (later : Views) where
  -- the pass comes to record other things, all of them true
  pub noted : (buckets codes : List (ℕ × ℕ)) (chunks inserted numbered : List ℕ) (steps forks meets : ℕ)
      → AreRecordsTrue n word (record view { buckets = buckets; codes = codes; chunks = chunks; inserted = inserted; numbered = numbered; steps = steps; forks = forks; meets = meets })
      → AreNumbersJustified n (record view { buckets = buckets; codes = codes; chunks = chunks; inserted = inserted; numbered = numbered; steps = steps; forks = forks; meets = meets })
      → OneMoves views later pass (record view { buckets = buckets; codes = codes; chunks = chunks; inserted = inserted; numbered = numbered; steps = steps; forks = forks; meets = meets })
      → Rule n word later
  noted buckets codes chunks inserted numbered steps forks meets records numbers moves =
      let seen : View = record view { buckets = buckets; codes = codes; chunks = chunks; inserted = inserted; numbered = numbered; steps = steps; forks = forks; meets = meets } in
      moved n word word views later rule pass seen moves (stays n word views rule) (λ other its c written differ was says. refl)
      (record {
        records = records;
        writes = rule.writes_true pass view at;
        in_chunk = rule.ranges_apart.in_chunk pass view at;
        from_texts = λ place filled. rule.ranges_apart.from_unspent place pass view filled at;
      })
      (λ other its differ was. rule.ranges_apart.unspent pass other view its (λ same. differ (sym same)) at was)
      numbers (inl size)

  abbrev records : AreRecordsTrue n word view
  records = rule.records_true pass view at

  -- ReadBucket
  pub read_keeps : (place found : ℕ) → place < n → word place ≡ found → OneMoves views later pass (bucket_read view place found) → Rule n word later
  read_keeps place zero below is moves = noted view.buckets view.codes view.chunks view.inserted view.numbered (view.steps + 1) view.forks view.meets
      (record { buckets = records.buckets; codes = records.codes; chunks = records.chunks; inserted = records.inserted })
      (rule.numbers_justified pass view at) moves
  read_keeps place (suc less) below is moves =
      let seen : View = bucket_read view place (suc less) in
      let same : IsKnownBy (entry view.buckets) (entry seen.buckets) =
      cons_keeps place (suc less) view.buckets (λ found says. sym (records.buckets place found (says_in view.buckets place found says)).2 ∙ is) in
      noted ((place, suc less) ∷ view.buckets) view.codes view.chunks view.inserted view.numbered (view.steps + 1) view.forks view.meets
      (record {
        buckets = λ other found says. ⊎_elim
            (λ (new : (place ≡ other) × (suc less ≡ found)). (subst (λ m. m < n) new.0 below, (λ none. absurd (suc_is_not_zero less (new.1 ∙ none))), ap word (sym new.0) ∙ (is ∙ new.1)))
            (λ (old : IsIn view.buckets other found). records.buckets other found old)
            says;
        codes = records.codes;
        chunks = records.chunks;
        inserted = λ other among. let is_read = records.inserted other among in
            (is_read.0, places_more n view seen (λ c w says. says) same other is_read.0 is_read.1);
      })
      (λ other among. justified_more n view seen (λ c w says. says) same other (rule.numbers_justified pass view at other among))
      moves

  -- a code word that a recorded bucket word names is published
  pub published_by : (c : ℕ) → IsNamed view c → IsPublished n word c
  published_by c named =
      let is = records.buckets named.0 named.1 (says_in view.buckets named.0 named.1 named.2) in
      (named.0, (is.0, λ empty. is.1 (sym is.2 ∙ empty)), subst (λ b. start_of b ≤ c) (sym is.2) named.3, subst (λ b. c < stop_of b) (sym is.2) named.4)

  -- the records after ReadCodes
  more_codes : (c found : ℕ) → word (code_word n c) ≡ found → IsKnownBy (entry view.codes) (entry ((c, found) ∷ view.codes))
  more_codes c found is = cons_keeps c found view.codes (λ old says. sym (records.codes c old (says_in view.codes c old says)).0 ∙ is)

  codes_true : (c found : ℕ) → IsNamed view c → word (code_word n c) ≡ found → (k old : ℕ) → IsIn ((c, found) ∷ view.codes) k old → (word (code_word n k) ≡ old) × IsPublished n word k
  codes_true c found named is k old says = ⊎_elim
      (λ (new : (c ≡ k) × (found ≡ old)). subst (λ (pair : ℕ × ℕ). (word (code_word n pair.0) ≡ pair.1) × IsPublished n word pair.0) (λ i. (new.0 i, new.1 i)) (is, published_by c named))
      (λ (was : IsIn view.codes k old). records.codes k old was)
      says

  -- ReadCodes
  pub codes_read_keeps : (c found : ℕ) → IsNamed view c → word (code_word n c) ≡ found → OneMoves views later pass (codes_read view c found) → Rule n word later
  codes_read_keeps c found named is moves =
      let seen : View = codes_read view c found in
      noted view.buckets ((c, found) ∷ view.codes) view.chunks view.inserted view.numbered (view.steps + 1) view.forks view.meets
      (record {
        buckets = records.buckets;
        codes = codes_true c found named is;
        chunks = records.chunks;
        inserted = λ place among. let is_read = records.inserted place among in
            (is_read.0, places_more n view seen (more_codes c found is) (λ k w says. says) place is_read.0 is_read.1);
      })
      (λ place among. justified_more n view seen (more_codes c found is) (λ k w says. says) place (rule.numbers_justified pass view at place among))
      moves

  -- ReadCodes, where the number of a place is justified with the code word that is read
  pub number_read_keeps : (c found place : ℕ) → IsNamed view c → word (code_word n c) ≡ found → IsJustified n (codes_read view c found) place
      → OneMoves views later pass (number_read view c found place) → Rule n word later
  number_read_keeps c found place named is justified moves =
      let seen : View = number_read view c found place in
      noted view.buckets ((c, found) ∷ view.codes) view.chunks view.inserted (place ∷ view.numbered) (view.steps + 1) view.forks view.meets
      (record {
        buckets = records.buckets;
        codes = codes_true c found named is;
        chunks = records.chunks;
        inserted = λ other among. let is_read = records.inserted other among in
            (is_read.0, places_more n view seen (more_codes c found is) (λ k w says. says) other is_read.0 is_read.1);
      })
      (λ other among. ⊎_elim
      (λ (new : place ≡ other). subst (IsJustified n seen) new justified)
      (λ (old : IsAmong view.numbered other). justified_more n view seen (more_codes c found is) (λ k w says. says) other (rule.numbers_justified pass view at other old))
      among)
      moves

  -- SplitView, for the old pass
  pub split_keeps : OneMoves views later pass (split view) → Rule n word later
  split_keeps moves = noted view.buckets view.codes view.chunks view.inserted view.numbered view.steps (view.forks + 1) view.meets
      (record { buckets = records.buckets; codes = records.codes; chunks = records.chunks; inserted = records.inserted })
      (rule.numbers_justified pass view at) moves

  -- SplitView, for the new pass
  pub split_off_keeps : (new_pass : ℕ) → OneMoves views later new_pass (split_off view) → Rule n word later
  split_off_keeps new_pass moves = moved n word word views later rule new_pass (split_off view) moves (stays n word views rule) (λ other its c written differ was says. refl)
      (record {
        records = record { buckets = records.buckets; codes = records.codes; chunks = records.chunks; inserted = λ place among. absurd among };
        writes = λ c written says. absurd says;
        in_chunk = λ some. absurd (omega arith);
        from_texts = λ place filled c low high other_low other_high. absurd (omega arith);
      })
      (λ other its differ was c low high other_low other_high. absurd (omega arith))
      (rule.numbers_justified pass view at) (inl size)

  -- JoinViews, for the pass that is joined to
  pub joined_keeps : (other : ℕ) (other_view : View) → views other ≡ maybe.some other_view → OneMoves views later pass (joined view other_view) → Rule n word later
  joined_keeps other other_view other_at moves =
      let others = rule.records_true other other_view other_at in
      let seen : View = joined view other_view in
      let buckets_left : IsKnownBy (entry view.buckets) (entry seen.buckets) = append_keeps_left view.buckets other_view.buckets in
      let codes_left : IsKnownBy (entry view.codes) (entry seen.codes) = append_keeps_left view.codes other_view.codes in
      let buckets_right : IsKnownBy (entry other_view.buckets) (entry seen.buckets) = append_keeps_right view.buckets other_view.buckets
      (λ k one two says also. sym (records.buckets k one (says_in view.buckets k one says)).2 ∙ (others.buckets k two (says_in other_view.buckets k two also)).2) in
      let codes_right : IsKnownBy (entry other_view.codes) (entry seen.codes) = append_keeps_right view.codes other_view.codes
      (λ k one two says also. sym (records.codes k one (says_in view.codes k one says)).0 ∙ (others.codes k two (says_in other_view.codes k two also)).0) in
      noted (view.buckets ++ other_view.buckets) (view.codes ++ other_view.codes) (view.chunks ++ other_view.chunks) (view.inserted ++ other_view.inserted) (view.numbered ++ other_view.numbered)
      view.steps view.forks (view.meets + other_view.meets + 1)
      (record {
        buckets = λ place found says. ⊎_elim (λ left. records.buckets place found left) (λ right. others.buckets place found right) (in-append view.buckets other_view.buckets place found says);
        codes = λ c found says. ⊎_elim (λ left. records.codes c found left) (λ right. others.codes c found right) (in-append view.codes other_view.codes c found says);
        chunks = λ chunk among. ⊎_elim (λ left. records.chunks chunk left) (λ right. others.chunks chunk right) (among-append view.chunks other_view.chunks chunk among);
        inserted = λ place among. ⊎_elim
            (λ left. let is_read = records.inserted place left in (is_read.0, places_more n view seen codes_left buckets_left place is_read.0 is_read.1))
            (λ right. let is_read = others.inserted place right in (is_read.0, places_more n other_view seen codes_right buckets_right place is_read.0 is_read.1))
            (among-append view.inserted other_view.inserted place among);
      })
      (λ place among. ⊎_elim
      (λ left. justified_more n view seen codes_left buckets_left place (rule.numbers_justified pass view at place left))
      (λ right. justified_more n other_view seen codes_right buckets_right place (rule.numbers_justified other other_view other_at place right))
      (among-append view.numbered other_view.numbered place among))
      moves

-- JoinViews, for the pass that is joined away
pub emptied_keeps : (n : ℕ) (word : ℕ → ℕ) (views later : Views) (pass : ℕ) → Rule n word views → OneMoves views later pass emptied → Rule n word later
emptied_keeps n word views later pass rule moves = moved n word word views later rule pass emptied moves (stays n word views rule) (λ other its c written differ was says. refl)
    (record {
      records = record {
        buckets = λ place found says. absurd says;
        codes = λ c found says. absurd says;
        chunks = λ chunk among. absurd among;
        inserted = λ place among. absurd among;
      };
      writes = λ c written says. absurd says;
      in_chunk = λ some. absurd (omega arith);
      from_texts = λ place filled c low high other_low other_high. absurd (omega arith);
    })
    (λ other its differ was c low high other_low other_high. absurd (omega arith))
    (λ place among. absurd among) (inr refl)
