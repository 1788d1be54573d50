-- What calls make of the knowledge of a pass.
use Rattle.std.proofs.Common.{◌≡◌, ◌≢◌, ℕ, zero, suc, ◌+◌, ◌/◌, ◌%◌, ◌<◌, length, slice_get, Bool, true, false, ◌||◌, List, [], ◌∷◌, Some, None, IsSome, Option, if◌then◌else◌, negsuc, inl, inr, ⊎_elim, refl, sym, ap, ◌∙◌, subst, arith}
use Rattle.std.proofs.lemmas.Bool.Decides.{eqb_tells}
use mathlib.Core.Logic.{dite}
use native.Mathlib.Decide.{ℕ_discrete}
use Rattle.atomic_table.specs.Seated.{TableId}
use Rattle.nfg_syn.specs.Known.{Texts, IsSame, IsWithin, MapsBesides, crlf}
use Rattle.nfg_syn.specs.KnownLaws.{same_text}
use Rattle.nfg_syn.specs.Refusal.{IsTableFull}
use Rattle.nfg_syn.specs.Seen.{Keeps}
use Rattle.nfg_words.proofs.Comparing.{read_length}
use Rattle.nfg_words.proofs.Entries.{places_more, says-cons}
use Rattle.nfg_words.proofs.ProbeTableLemmas.{goes_everywhere}
use Rattle.nfg_words.specs.Comparing.{ArePassed, IsFound}
use Rattle.nfg_words.specs.Layout.{chunk_count, start_of, length_of, first_code, second_code, last_of, both_before, read_codes, text_named}
use Rattle.nfg_words.specs.Passes.{AreReadInFull, IsPassOf, view_of}
use Rattle.nfg_words.specs.Rule.{IsJustified}
use Rattle.nfg_words.specs.SoundLaws.{its_rule, no_text, same_word}
use Rattle.nfg_words.specs.Steps.{IsNamed, bucket_read}
use Rattle.nfg_words.specs.Table.{IsFullOf, is_among, known_of, seen_of}
use Rattle.nfg_words.specs.TableLaws.{knowledge, known_read, read_one_to_one, read_within}
use Rattle.nfg_words.specs.View.{entry, Says, SaysAll, IsAmong, Grows, places_of}
use Rattle.nfg_words.specs.Words.{IsSound}
use Rattle.nfg_words.specs.Writing.{AreChunksSpent}
use Rattle.nfg_words.specs.declared.pass.WordPass.{WordPass}
use Rattle.nfg_words.specs.declared.view.View.{View}

among_is : (numbers : List ℕ) (k : ℕ) → is_among numbers k ≡ true → IsAmong numbers k
among_is [] k is = cc
among_is (first ∷ rest) k is = ⊎_elim
    (λ here. inl here.1)
    (λ past. inr (among_is rest k (sym (ap (λ b. b || is_among rest k) past.0) ∙ is)))
    (eqb_tells first k)

among_here : (numbers : List ℕ) (k : ℕ) → is_among (k ∷ numbers) k ≡ true
among_here numbers k = ⊎_elim (λ here. ap (λ b. b || is_among numbers k) here.0) (λ past. absurd (past.1 refl)) (eqb_tells k k)

among_else : (numbers : List ℕ) (place k : ℕ) → k ≢ place → is_among (place ∷ numbers) k ≡ is_among numbers k
among_else numbers place k differ = ⊎_elim (λ here. absurd (differ (sym here.1))) (λ past. ap (λ b. b || is_among numbers k) past.0) (eqb_tells place k)

same_by_mark : (old new : Bool) (before after : Option (List ℕ)) → new ≡ old → (old ≡ true → after ≡ before) → (if new then after else None) ≡ (if old then before else None)
same_by_mark true new before after same kept = rw same (kept refl)
same_by_mark false new before after same kept = rw same refl

known_at : (view : View) (place : ℕ) (t : List ℕ) → is_among view.numbered place ≡ true → places_of view place ≡ Some t → known_of view (suc place) ≡ Some t
known_at view place t named read = ap (λ b. if b then places_of view place else None) named ∙ read

-- the texts of the numbers that a sound view knows are those at places where they are found
module _ (n : ℕ) (old new : View) (sound : IsSound n old) (grows : Grows old new) where
  pub places_within : IsWithin (places_of old) (places_of new)
  places_within k t e = places_more n old new grows.codes grows.buckets k t e

  justified : (k : ℕ) → is_among old.numbered k ≡ true → IsJustified n old k
  justified k named = (its_rule n old sound).numbers_justified sound.pass old sound.at k (among_is old.numbered k named)

  kept_text : (k : ℕ) → is_among old.numbered k ≡ true → places_of new k ≡ places_of old k
  kept_text k named = let is = justified k named in places_within k is.0 is.1 ∙ sym is.1

  pub known_same : new.numbered ≡ old.numbered → IsSame (known_of old) (known_of new)
  known_same same zero = refl
  known_same same (suc k) = same_by_mark (is_among old.numbered k) (is_among new.numbered k) (places_of old k) (places_of new k) (ap (λ ps. is_among ps k) same) (kept_text k)

  module _ (place : ℕ) (text : List ℕ) (numbered : new.numbered ≡ place ∷ old.numbered) (here : places_of new place ≡ Some text) where
    named_here : is_among new.numbered place ≡ true
    named_here = ap (λ ps. is_among ps place) numbered ∙ among_here old.numbered place

    besides : (m : ℕ) → m ≢ suc place → known_of new m ≡ known_of old m
    besides zero differ = refl
    besides (suc k) differ = same_by_mark (is_among old.numbered k) (is_among new.numbered k) (places_of old k) (places_of new k)
        (ap (λ ps. is_among ps k) numbered ∙ among_else old.numbered place k (λ same. differ (ap (λ m. suc m) same))) (kept_text k)

    pub known_besides : MapsBesides (known_of old) (negsuc (suc place)) text (known_of new)
    known_besides = (known_at new place text named_here here, besides)

    pub known_grown : IsWithin (known_of old) (known_of new)
    known_grown zero t e = e
    known_grown (suc k) t e = dite (ℕ_discrete k place)
        (λ same. let read = places_within k t (known_read old k t e).1 in
        known_at new k t (ap (is_among new.numbered) same ∙ named_here) read)
        (λ differ. besides (suc k) (λ same. differ (suc_same k place same)) ∙ e)
      where
        suc_same : (a b : ℕ) → suc a ≡ suc b → a ≡ b
        suc_same a b e = omega arith

  -- the text of a number that is known is found at its place
  pub known_found : (k : ℕ) (t : List ℕ) → known_of old (suc k) ≡ Some t → IsFound n (places_of old) k t
  known_found k t e =
      let read = known_read old k t e in
      let is = justified k read.0 in
      subst (IsFound n (places_of old) k) (same_text is.0 t (sym is.1 ∙ read.1)) (record { here = is.1; index = is.2; on_sequence = is.3; reaches = is.4; passed = is.5 })

-- the text at a place whose number a sound view knows
pub justified_text : (n : ℕ) (view : View) → IsSound n view → (k : ℕ) → is_among view.numbered k ≡ true → (t : List ℕ) × (places_of view k ≡ Some t)
justified_text n view sound k named = let is = (its_rule n view sound).numbers_justified sound.pass view sound.at k (among_is view.numbered k named) in (is.0, is.1)

some_at : (found : Option (List ℕ)) → IsSome found → (t : List ℕ) × (found ≡ Some t)
some_at (Some t) is = (t, refl)
some_at None is = cc

is_some_at : (found : Option (List ℕ)) (t : List ℕ) → found ≡ Some t → IsSome found
is_some_at found t e = subst (λ o. IsSome o) (sym e) refl

full_grows : (n : ℕ) (old new : Texts) (t : List ℕ) → IsWithin old new → ((k : ℕ) (u : List ℕ) → new k ≡ Some u → k < n) → IsTableFull n old t → IsTableFull n new t
full_grows n old new t within rows full = record {
  taken = λ k low. let at = some_at (old k) (full.taken k low) in is_some_at (new k) at.0 (within k at.0 at.1);
  absent = λ k here.
      let at = some_at (old k) (full.taken k (rows k t here)) in
      full.absent k (at.1 ∙ ap Some (same_text at.0 t (sym (within k at.0 at.1) ∙ here)));
}

-- a table is full for a text where all places of its probe sequence hold others
pub full_passed : (n : ℕ) (view : View) (text : List ℕ) → IsSound n view → view.size ≡ n → ArePassed n (places_of view) text n → IsFullOf view text
full_passed n view text sound size passed = record {
  full = subst (λ (m : ℕ). IsTableFull m (places_of view) text) (sym size) (record {
    taken = λ k low. let at = goes_everywhere n text k low in let other = passed at.0 at.1 in is_some_at (places_of view k) other.0 (ap (places_of view) (sym at.2) ∙ other.1);
    absent = λ k here.
        let at = goes_everywhere n text k (read_within n view sound k text here) in
        let other = passed at.0 at.1 in
        other.2 (same_text other.0 text (sym other.1 ∙ (ap (places_of view) at.2 ∙ here)));
  });
  different = read_one_to_one n view sound;
}

-- what contracts see of a pass that records more is kept
module _ (id : TableId) (n : ℕ) (old new : WordPass) (is_old : IsPassOf id n old) (is_new : IsPassOf id n new) (grows : Grows (view_of old) (view_of new)) where
  pub full_kept : (t : List ℕ) → IsFullOf (view_of old) t → IsFullOf (view_of new) t
  full_kept t full =
      let was : IsTableFull n (places_of (view_of old)) t = subst (λ (m : ℕ). IsTableFull m (places_of (view_of old)) t) is_old.held.seat.size full.full in record {
        full = subst (λ (m : ℕ). IsTableFull m (places_of (view_of new)) t) (sym is_new.held.seat.size)
            (full_grows n (places_of (view_of old)) (places_of (view_of new)) t (places_within n (view_of old) (view_of new) is_old.held.seat.sound grows)
            (read_within n (view_of new) is_new.held.seat.sound) was);
        different = read_one_to_one n (view_of new) is_new.held.seat.sound;
      }

  pub spent_kept : AreChunksSpent (view_of old).size (view_of old) → AreChunksSpent (view_of new).size (view_of new)
  spent_kept spent chunk low = grows.chunks chunk (spent chunk (subst (λ (m : ℕ). chunk < chunk_count m) (is_new.held.seat.size ∙ sym is_old.held.seat.size) low))

  pub kept : IsWithin (known_of (view_of old)) (known_of (view_of new)) → (view_of new).root ≡ (view_of old).root → Keeps (seen_of old) (seen_of new)
  kept known root = record {
    known = known;
    places = places_within n (view_of old) (view_of new) is_old.held.seat.sound grows;
    root = root;
    full = full_kept;
    drained = spent_kept;
  }

-- chunks that are spent, by the size that the view has
pub spent_of : (n : ℕ) (view : View) → view.size ≡ n → AreChunksSpent n view → AreChunksSpent view.size view
spent_of n view size spent = subst (λ (m : ℕ). AreChunksSpent m view) (sym size) spent

-- CR LF has no other number than -1
pub line_end_first : (n : ℕ) (view : View) → IsSound n view → (text : List ℕ) → text ≡ crlf → (m : ℕ) → known_of view m ≡ Some text → 0 ≡ m
line_end_first n view sound text same m e = (knowledge n view sound).one_to_one 0 m crlf refl (e ∙ ap Some same)

-- a bucket word that is read again
module _ (n : ℕ) (old new : View) (sound : IsSound n old) (place found recorded : ℕ) (says : Says old.buckets place recorded) (is : new ≡ bucket_read old place found) (agrees : found ≡ recorded) (grows : Grows old new) where
  pub full_again : AreReadInFull old → AreReadInFull new
  full_again full other word at = let was = full other word (old_says found refl is) in (was.0, places_more n old new grows.codes grows.buckets other was.0 was.1)
    where
      old_says : (w : ℕ) → found ≡ w → new ≡ bucket_read old place w → Says old.buckets other word
      old_says zero same read = subst (λ (v : View). Says v.buckets other word) read at
      old_says (suc less) same read = ⊎_elim
          (λ here. ap (entry old.buckets) (sym here.0) ∙ (says ∙ ap Some (sym agrees ∙ (same ∙ here.1))))
          (λ past. past)
          (says-cons place (suc less) old.buckets other word (subst (λ (v : View). Says v.buckets other word) read at))

-- what a pass has read at a place whose number it knows
module _ (n : ℕ) (view : View) (sound : IsSound n view) (place : ℕ) (text : List ℕ) (read : places_of view place ≡ Some text) where
  named : (found : Option ℕ) → entry view.buckets place ≡ found → text_named (entry view.codes) found ≡ Some text
      → (bucket : ℕ) × Says view.buckets place bucket × (read_codes (entry view.codes) (start_of bucket) (length_of bucket) ≡ Some text)
  named None is e = absurd (no_text text e)
  named (Some zero) is e = absurd (no_text text e)
  named (Some (suc less)) is e = (suc less, is, e)

  pub its_bucket : (bucket : ℕ) × Says view.buckets place bucket × (read_codes (entry view.codes) (start_of bucket) (length_of bucket) ≡ Some text)
  its_bucket = named (entry view.buckets place) refl read

  pub its_length : length_of its_bucket.0 ≡ length text
  its_length = sym (read_length (entry view.codes) (start_of its_bucket.0) (length_of its_bucket.0) text its_bucket.2)

-- the code point at an index of a text that is read
both_first : (known : Option ℕ) (rest : Option (List ℕ)) (text : List ℕ) → both_before known rest ≡ Some text
    → (word : ℕ) × (t : List ℕ) × (known ≡ Some word) × (rest ≡ Some t) × (text ≡ first_code word ∷ second_code word ∷ t)
both_first None rest text e = absurd (no_text text e)
both_first (Some word) None text e = absurd (no_text text e)
both_first (Some word) (Some t) text e = (word, t, refl, refl, sym (same_text (first_code word ∷ second_code word ∷ t) text e))

last_first : (known : Option ℕ) (text : List ℕ) → last_of known ≡ Some text → (word : ℕ) × (known ≡ Some word) × (text ≡ first_code word ∷ [])
last_first None text e = absurd (no_text text e)
last_first (Some word) text e = (word, refl, sym (same_text (first_code word ∷ []) text e))

pub code_at : (codes : ℕ → Option ℕ) (start count : ℕ) (text : List ℕ) → read_codes codes start count ≡ Some text → (k c word : ℕ) → k < count → c ≡ start + k / 2 → codes c ≡ Some word
    → (k % 2 ≡ 0 → slice_get text k ≡ Some (first_code word)) × (k % 2 ≡ 1 → slice_get text k ≡ Some (second_code word))
code_at codes start zero text read k c word low is says = absurd (omega arith)
code_at codes start (suc zero) text read (suc k) c word low is says = absurd (omega arith)
code_at codes start (suc zero) text read zero c word low is says =
    let at : c ≡ start = omega arith in
    let known = last_first (codes start) text read in
    let same : known.0 ≡ word = same_word known.0 word (sym known.1 ∙ (ap codes (sym at) ∙ says)) in
    ((λ even. ap (λ (t : List ℕ). slice_get t 0) known.2 ∙ ap (λ w. Some (first_code w)) same), (λ odd. absurd (omega arith)))
code_at codes start (suc (suc count)) text read zero c word low is says =
    let at : c ≡ start = omega arith in
    let known = both_first (codes start) (read_codes codes (suc start) count) text read in
    let same : known.0 ≡ word = same_word known.0 word (sym known.2 ∙ (ap codes (sym at) ∙ says)) in
    ((λ even. ap (λ (t : List ℕ). slice_get t 0) known.4 ∙ ap (λ w. Some (first_code w)) same), (λ odd. absurd (omega arith)))
code_at codes start (suc (suc count)) text read (suc zero) c word low is says =
    let at : c ≡ start = omega arith in
    let known = both_first (codes start) (read_codes codes (suc start) count) text read in
    let same : known.0 ≡ word = same_word known.0 word (sym known.2 ∙ (ap codes (sym at) ∙ says)) in
    ((λ even. absurd (omega arith)), (λ odd. ap (λ (t : List ℕ). slice_get t 1) known.4 ∙ ap (λ w. Some (second_code w)) same))
code_at codes start (suc (suc count)) text read (suc (suc k)) c word low is says =
    let known = both_first (codes start) (read_codes codes (suc start) count) text read in
    let rest = code_at codes (suc start) count known.1 known.3 k c word (omega arith) (omega arith) says in
    ((λ even. ap (λ (t : List ℕ). slice_get t (suc (suc k))) known.4 ∙ rest.0 (omega arith)), (λ odd. ap (λ (t : List ℕ). slice_get t (suc (suc k))) known.4 ∙ rest.1 (omega arith)))

-- the code point that a load of a code word finds
pub code_read : (n : ℕ) (old new : View) → IsSound n old → IsSound n new → Grows old new → (place : ℕ) (text : List ℕ) → places_of old place ≡ Some text
    → (k found c word : ℕ) → ((recorded : ℕ) → Says old.buckets place recorded → found ≡ recorded) → k < length text → c ≡ start_of found + k / 2 → Says new.codes c word
    → (k % 2 ≡ 0 → slice_get text k ≡ Some (first_code word)) × (k % 2 ≡ 1 → slice_get text k ≡ Some (second_code word))
code_read n old new sound sound_new grows place text read k found c word agrees low is says =
    let was = its_bucket n old sound place text read in
    let now = its_bucket n new sound_new place text (places_within n old new sound grows place text read) in
    let same : found ≡ now.0 = agrees was.0 was.1 ∙ same_word was.0 now.0 (sym (grows.buckets place was.0 was.1) ∙ now.1) in
    let long = its_length n new sound_new place text (places_within n old new sound grows place text read) in
    code_at (entry new.codes) (start_of now.0) (length_of now.0) text now.2 k c word (subst (λ m. k < m) (sym long) low) (is ∙ ap (λ m. start_of m + k / 2) same) says

-- the code word that has the code point at an index of a text that is read
pub code_named : (n : ℕ) (old new : View) → IsSound n old → SaysAll old.buckets new.buckets → (place : ℕ) (text : List ℕ) → places_of old place ≡ Some text
    → (k found c : ℕ) → ((recorded : ℕ) → Says old.buckets place recorded → found ≡ recorded) → k < length text → c ≡ start_of found + k / 2 → IsNamed new c
code_named n old new sound grows place text read k found c agrees low is =
    let was = its_bucket n old sound place text read in
    let long = its_length n old sound place text read in
    let same = agrees was.0 was.1 in
    let at : c ≡ start_of was.0 + k / 2 = is ∙ ap (λ m. start_of m + k / 2) same in
    (place, was.0, grows place was.0 was.1, omega arith, omega arith)
