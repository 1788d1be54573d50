-- A text is what its code words say, and each of them is that of the text.
use Rattle.std.proofs.Common.{◌≡◌, ◌≢◌, ℕ, zero, suc, ◌+◌, ◌-◌, ◌*◌, ◌/◌, ◌%◌, ◌^◌, ◌<◌, ◌≤◌, ◌⊎◌, inl, inr, ⊎_elim, Bool, true, false, ◌&&◌, List, [], ◌∷◌, length, get_or, Option, Some, None, refl, sym, ap, ◌∙◌, subst, arith}
use Rattle.std.proofs.lemmas.Bool.{and_parts, and_cases}
use Rattle.std.proofs.lemmas.Nat.{div-add-mod', mod_low, shr_high}
use mathlib.Core.Logic.{dite}
use native.Mathlib.Decide.{ℕ_discrete}
use Rattle.nfg_syn.specs.KnownLaws.{same_text}
use Rattle.nfg_words.proofs.Entries.{says-first, places_more}
use Rattle.nfg_words.specs.Comparing.{ReadsOn, AreRecorded, AreCodesOf, HasOther, ArePassed, HoldsOther}
use Rattle.nfg_words.specs.Layout.{code_pair, code_word, first_code, second_code, pair_at, last_of, both_before, read_codes, text_named, start_of, length_of, stop_of}
use Rattle.nfg_words.specs.ProbeTable.{probe_sequence}
use Rattle.nfg_words.specs.Rule.{IsFilled, IsJustified, AreRecordsTrue}
use Rattle.nfg_words.specs.Steps.{IsNamed, codes_read, number_read}
use Rattle.nfg_words.specs.View.{entry, Says, SaysAll, places_of}
use Rattle.nfg_words.specs.Words.{IsSound}
use Rattle.nfg_words.specs.declared.view.View.{View}
use Rattle.nfg_words.specs.SoundLaws.{its_records, its_rule, its_word, same_word, says_in}

first_of_pair : (a b : ℕ) → a < 2 ^ 32 → first_code (code_pair a b) ≡ a
first_of_pair a b fits = mod_low b 32 a fits

pub second_of_pair : (a b : ℕ) → a < 2 ^ 32 → second_code (code_pair a b) ≡ b
second_of_pair a b fits = shr_high b 32 a fits

-- a code word is that of its two code points
pair_again : (word : ℕ) → word ≡ code_pair (first_code word) (second_code word)
pair_again word = sym (div-add-mod' word (2 ^ 32))

-- the code words of a text after its first two code points
pair_next : (a b : ℕ) (rest : List ℕ) (j : ℕ) → pair_at (a ∷ b ∷ rest) (suc j) ≡ pair_at rest j
pair_next a b rest j =
    let first : 2 * suc j ≡ suc (suc (2 * j)) = omega arith in
    let second : 2 * suc j + 1 ≡ suc (suc (2 * j + 1)) = omega arith in
    λ i. code_pair (get_or (a ∷ b ∷ rest) (first i) 0) (get_or (a ∷ b ∷ rest) (second i) 0)

-- a text whose code words are known is read
pub spelled : (codes : ℕ → Option ℕ) (start : ℕ) (text : List ℕ) → ((i : ℕ) → get_or text i 0 < 2 ^ 32)
    → ((c j : ℕ) → c ≡ start + j → j < (length text + 1) / 2 → codes c ≡ Some (pair_at text j)) → read_codes codes start (length text) ≡ Some text
spelled codes start [] fits says = refl
spelled codes start (a ∷ []) fits says =
    ap last_of (says start 0 (omega arith) (omega arith)) ∙ ap (λ (x : ℕ). Some (x ∷ [])) (first_of_pair a 0 (fits 0))
spelled codes start (a ∷ b ∷ rest) fits says =
    let here : codes start ≡ Some (code_pair a b) = says start 0 (omega arith) (omega arith) in
    let after : read_codes codes (suc start) (length rest) ≡ Some rest =
    spelled codes (suc start) rest (λ i. fits (suc (suc i))) (λ c j is low. says c (suc j) (omega arith) (omega arith) ∙ ap Some (pair_next a b rest j)) in
    (λ i. both_before (here i) (after i)) ∙ (λ i. Some (first_of_pair a b (fits 0) i ∷ second_of_pair a b (fits 0) i ∷ rest))

last_inv : (known : Option ℕ) (a : ℕ) (t : List ℕ) → last_of known ≡ Some (a ∷ t) → (word : ℕ) × (known ≡ Some word) × (first_code word ≡ a)
last_inv None a t e = absurd cc
last_inv (Some word) a t e = (word, refl, cc)

both_inv : (known : Option ℕ) (rest : Option (List ℕ)) (a b : ℕ) (t : List ℕ) → both_before known rest ≡ Some (a ∷ b ∷ t)
    → (word : ℕ) × (known ≡ Some word) × (first_code word ≡ a) × (second_code word ≡ b) × (rest ≡ Some t)
both_inv None rest a b t e = absurd cc
both_inv (Some word) None a b t e = absurd cc
both_inv (Some word) (Some r) a b t e = (word, refl, cc, cc, ap Some cc)

-- each code word that a text is read from is that of the text, if the half that it leaves is 0
pub text_words : (codes : ℕ → Option ℕ) (start : ℕ) (text : List ℕ) → read_codes codes start (length text) ≡ Some text
    → ((c word : ℕ) → length text % 2 ≡ 1 → c + 1 ≡ start + (length text + 1) / 2 → codes c ≡ Some word → second_code word ≡ 0)
    → (c j word : ℕ) → c ≡ start + j → j < (length text + 1) / 2 → codes c ≡ Some word → word ≡ pair_at text j
text_words codes start [] read padded c j word is low says = absurd (omega arith)
text_words codes start (a ∷ []) read padded c j word is low says =
    let first : j ≡ 0 = omega arith in
    let at : c ≡ start = omega arith in
    let known = last_inv (codes start) a [] read in
    let same : known.0 ≡ word = same_word known.0 word (sym known.1 ∙ (ap codes (sym at) ∙ says)) in
    let half : second_code word ≡ 0 = padded c word refl (omega arith) says in
    pair_again word ∙ ((λ i. code_pair ((ap first_code (sym same) ∙ known.2) i) (half i)) ∙ ap (pair_at (a ∷ [])) (sym first))
text_words codes start (a ∷ b ∷ rest) read padded c zero word is low says =
    let at : c ≡ start = omega arith in
    let known = both_inv (codes start) (read_codes codes (suc start) (length rest)) a b rest read in
    let same : known.0 ≡ word = same_word known.0 word (sym known.1 ∙ (ap codes (sym at) ∙ says)) in
    pair_again word ∙ (λ i. code_pair ((ap first_code (sym same) ∙ known.2) i) ((ap second_code (sym same) ∙ known.3) i))
text_words codes start (a ∷ b ∷ rest) read padded c (suc j) word is low says =
    let known = both_inv (codes start) (read_codes codes (suc start) (length rest)) a b rest read in
    text_words codes (suc start) rest known.4 (λ d other odd at. padded d other (omega arith) (omega arith)) c j word (omega arith) (omega arith) says
    ∙ sym (pair_next a b rest j)

-- a text is as long as it is said to be
last_length : (known : Option ℕ) (text : List ℕ) → last_of known ≡ Some text → length text ≡ 1
last_length None text e = absurd cc
last_length (Some word) text e = ap length (sym (same_text (first_code word ∷ []) text e))

both_length : (known : Option ℕ) (rest : Option (List ℕ)) (text : List ℕ) (count : ℕ) → ((t : List ℕ) → rest ≡ Some t → length t ≡ count)
    → both_before known rest ≡ Some text → length text ≡ suc (suc count)
both_length None rest text count long e = absurd cc
both_length (Some word) None text count long e = absurd cc
both_length (Some word) (Some t) text count long e =
    ap length (sym (same_text (first_code word ∷ second_code word ∷ t) text e)) ∙ ap (λ m. suc (suc m)) (long t refl)

pub read_length : (codes : ℕ → Option ℕ) (start count : ℕ) (text : List ℕ) → read_codes codes start count ≡ Some text → length text ≡ count
read_length codes start zero text e = ap length (sym (same_text [] text e))
read_length codes start (suc zero) text e = last_length (codes start) text e
read_length codes start (suc (suc count)) text e =
    both_length (codes start) (read_codes codes (suc start) count) text count (read_length codes (suc start) count) e

-- a text whose code words are all known is read
pub read_some : (codes : ℕ → Option ℕ) (start count : ℕ) → ((c : ℕ) → start ≤ c → c < start + (count + 1) / 2 → (word : ℕ) × (codes c ≡ Some word))
    → (text : List ℕ) × (read_codes codes start count ≡ Some text)
read_some codes start zero known = ([], refl)
read_some codes start (suc zero) known = let here = known start (omega arith) (omega arith) in (first_code here.0 ∷ [], ap last_of here.1)
read_some codes start (suc (suc count)) known =
    let here = known start (omega arith) (omega arith) in
    let after = read_some codes (suc start) count (λ c low high. known c (omega arith) (omega arith)) in
    (first_code here.0 ∷ second_code here.0 ∷ after.0, λ i. both_before (here.1 i) (after.1 i))

pub text_named-at : (codes : ℕ → Option ℕ) (bucket : ℕ) → bucket ≢ 0 → text_named codes (Some bucket) ≡ read_codes codes (start_of bucket) (length_of bucket)
text_named-at codes zero some = absurd (some refl)
text_named-at codes (suc less) some = refl

-- the bucket word that a view records
module _ (view : View) (place bucket : ℕ) (says : Says view.buckets place bucket) (some : bucket ≢ 0) where
  pub read_at : places_of view place ≡ read_codes (entry view.codes) (start_of bucket) (length_of bucket)
  read_at = ap (text_named (entry view.codes)) says ∙ text_named-at (entry view.codes) bucket some

  -- the text at its place is read, once its code words are
  pub read_in_full : AreRecorded view (start_of bucket) ((length_of bucket + 1) / 2) → (text : List ℕ) × (places_of view place ≡ Some text)
  read_in_full known = let read = read_some (entry view.codes) (start_of bucket) (length_of bucket) known in (read.0, read_at ∙ read.1)

  -- it is the text whose code words they are
  pub read_same : (text : List ℕ) → ((i : ℕ) → get_or text i 0 < 2 ^ 32) → length text ≡ length_of bucket → AreCodesOf view (start_of bucket) ((length_of bucket + 1) / 2) text
      → places_of view place ≡ Some text
  read_same text fits long same = read_at ∙ (ap (read_codes (entry view.codes) (start_of bucket)) (sym long)
      ∙ spelled (entry view.codes) (start_of bucket) text fits (λ c j is low. same c j is (subst (λ m. j < (m + 1) / 2) long low)))

-- the bucket word that a sound view records
module _ (n : ℕ) (view : View) (sound : IsSound n view) (place bucket : ℕ) (says : Says view.buckets place bucket) where
  abbrev its : AreRecordsTrue n (its_word n view sound) view
  its = its_records n view sound

  is_true : (place < n) × (bucket ≢ 0) × (its_word n view sound place ≡ bucket)
  is_true = its.buckets place bucket (says_in view.buckets place bucket says)

  pub bucket_some : bucket ≢ 0
  bucket_some = is_true.1

  pub bucket_below : place < n
  bucket_below = is_true.0

  pub bucket_lengths : (2 ≤ length_of bucket) × (length_of bucket ≤ 1024)
  bucket_lengths = subst (λ b. (2 ≤ length_of b) × (length_of b ≤ 1024)) is_true.2
      ((its_rule n view sound).words_valid.lengths place (is_true.0, λ empty. is_true.1 (sym is_true.2 ∙ empty)))

  -- its last code word has 0 where the text leaves a half
  pub bucket_padded : (c word : ℕ) → length_of bucket % 2 ≡ 1 → c + 1 ≡ stop_of bucket → Says view.codes c word → second_code word ≡ 0
  bucket_padded c word odd at known =
      let filled : IsFilled n (its_word n view sound) place = (is_true.0, λ empty. is_true.1 (sym is_true.2 ∙ empty)) in
      let zero_half = subst (λ b. length_of b % 2 ≡ 1 → second_code (its_word n view sound (code_word n (stop_of b - 1))) ≡ 0) is_true.2
      ((its_rule n view sound).words_valid.padded place filled) odd in
      let index : stop_of bucket - 1 ≡ c = omega arith in
      ap second_code (sym (its.codes c word (says_in view.codes c word known)).0 ∙ ap (λ m. its_word n view sound (code_word n m)) (sym index)) ∙ zero_half

  -- and another one where one of them is another
  pub read_other : (text : List ℕ) → AreRecorded view (start_of bucket) ((length_of bucket + 1) / 2)
      → (length text ≢ length_of bucket) ⊎ HasOther view (start_of bucket) ((length_of bucket + 1) / 2) text → HoldsOther view place text
  read_other text known other = let read = read_in_full view place bucket says bucket_some known in (
    read.0,
    read.1,
    λ same.
        let at : read_codes (entry view.codes) (start_of bucket) (length_of bucket) ≡ Some text = sym (read_at view place bucket says bucket_some) ∙ (read.1 ∙ ap Some same) in
        let long = read_length (entry view.codes) (start_of bucket) (length_of bucket) text at in
        ⊎_elim
        (λ longer. longer long)
        (λ differs. differs.4 (text_words (entry view.codes) (start_of bucket) text (ap (read_codes (entry view.codes) (start_of bucket)) long ∙ at)
        (λ c word odd is. bucket_padded c word (ap (λ m. m % 2) (sym long) ∙ odd) (is ∙ ap (λ m. start_of bucket + (m + 1) / 2) long))
        (start_of bucket + differs.0) differs.0 differs.1 refl (subst (λ m. differs.0 < (m + 1) / 2) (sym long) differs.2) differs.3))
        other,
  )

-- code words of a text that are known stay so, and one more is
pub codes_more : (old new : View) (start count : ℕ) (text : List ℕ) → SaysAll old.codes new.codes → AreCodesOf old start count text → Says new.codes (start + count) (pair_at text count)
    → AreCodesOf new start (count + 1) text
codes_more old new start count text grows known here c j is low = dite (ℕ_discrete j count)
    (λ same. subst (λ (at : ℕ × ℕ). Says new.codes at.0 (pair_at text at.1)) (λ i. (sym (is ∙ ap (λ m. start + m) same) i, sym same i)) here)
    (λ differ. grows c (pair_at text j) (known c j is (omega arith)))

pub recorded_more : (old new : View) (start count word : ℕ) → SaysAll old.codes new.codes → AreRecorded old start count → Says new.codes (start + count) word
    → AreRecorded new start (count + 1)
recorded_more old new start count word grows known here c low high = dite (ℕ_discrete c (start + count))
    (λ same. (word, subst (λ m. Says new.codes m word) (sym same) here))
    (λ differ. let was = known c low (omega arith) in (was.0, grows c was.0 was.1))

pub other_more : (old new : View) (start count : ℕ) (text : List ℕ) → SaysAll old.codes new.codes → HasOther old start count text → HasOther new start (count + 1) text
other_more old new start count text grows other = let low = other.2 in (other.0, other.1, omega arith, grows (start + other.0) other.1 other.3, other.4)

pub reads_on : (first old new : View) (c word : ℕ) → ReadsOn first old → SaysAll old.codes new.codes → new ≡ codes_read old c word → ReadsOn first new
reads_on first old new c word on grows is = record {
  same = is ∙ (ap (λ (v : View). codes_read v c word) on.same ∙ ap (λ (v : View). record first { codes = v.codes; steps = v.steps }) (sym is));
  codes = λ index found says. grows index found (on.codes index found says);
}

-- the bucket word at a place is still recorded
pub still_says : (old new : View) (place bucket : ℕ) → ReadsOn old new → Says old.buckets place bucket → Says new.buckets place bucket
still_says old new place bucket on says = ap (λ (v : View). entry v.buckets place) on.same ∙ says

-- places that are passed stay so where more is read
pub passed_more : (n : ℕ) (old new : View) (text : List ℕ) (count : ℕ) → SaysAll old.buckets new.buckets → SaysAll old.codes new.codes
    → ArePassed n (places_of old) text count → ArePassed n (places_of new) text count
passed_more n old new text count buckets codes passed earlier low =
    let is = passed earlier low in (is.0, places_more n old new codes buckets _ is.0 is.1, is.2)

-- one code word more of the front of a text
module _ (old new : View) (start count word : ℕ) (text : List ℕ) (grows : SaysAll old.codes new.codes) (is : new ≡ codes_read old (start + count) word) where
  pub word_read : Says new.codes (start + count) word
  word_read = ap (λ (v : View). entry v.codes (start + count)) is ∙ says-first (start + count) word old.codes

  pub front_recorded : AreRecorded old start count → AreRecorded new start (count + 1)
  front_recorded known = recorded_more old new start count word grows known word_read

  module _ (length_is : ℕ) (same found : Bool) where
    pub front_same : (same ≡ true → (length text ≡ length_is) × AreCodesOf old start count text) → (found ≡ true → word ≡ pair_at text count)
        → (same && found) ≡ true → (length text ≡ length_is) × AreCodesOf new start (count + 1) text
    front_same before here both =
        let parts = and_parts same found both in
        let was = before parts.0 in
        (was.0, codes_more old new start count text grows was.1 (subst (λ w. Says new.codes (start + count) w) (here parts.1) word_read))

    pub front_other : (same ≡ false → (length text ≢ length_is) ⊎ HasOther old start count text) → (found ≡ false → word ≢ pair_at text count)
        → (same && found) ≡ false → (length text ≢ length_is) ⊎ HasOther new start (count + 1) text
    front_other before here either = ⊎_elim
        (λ was. ⊎_elim (λ longer. inl longer) (λ other. inr (other_more old new start count text grows other)) (before was))
        (λ now. inr (count, word, omega arith, word_read, here now))
        (and_cases same found either)

-- the last code word that a bucket word names
pub last_named : (view : View) (place bucket last : ℕ) → Says view.buckets place bucket → 2 ≤ length_of bucket → last ≡ start_of bucket + ((length_of bucket + 1) / 2 - 1)
    → IsNamed view last
last_named view place bucket last says long is = (place, bucket, says, omega arith, omega arith)

-- the view after the front of a text was read, and its last code word
module _ (front : View) (place bucket count : ℕ) (says : Says front.buckets place bucket) (whole : count + 1 ≡ (length_of bucket + 1) / 2) (text : List ℕ) where
  abbrev last : ℕ
  last = start_of bucket + count

  module _ (some : bucket ≢ 0) (fits : (i : ℕ) → get_or text i 0 < 2 ^ 32) (long : length text ≡ length_of bucket) (known : AreCodesOf front (start_of bucket) count text) where
    pub whole_same : (new : View) → SaysAll front.codes new.codes → Says new.buckets place bucket → Says new.codes last (pair_at text count) → places_of new place ≡ Some text
    whole_same new grows still here = read_same new place bucket still some text fits long
        (subst (λ m. AreCodesOf new (start_of bucket) m text) whole (codes_more front new (start_of bucket) count text grows known here))

    pub last_justified : (n index at wanted : ℕ) → at ≡ last → wanted ≡ pair_at text count → index < n → probe_sequence n text index ≡ place → ArePassed n (places_of front) text index
        → SaysAll front.codes (codes_read front at wanted).codes → IsJustified n (codes_read front at wanted) place
    last_justified n index at wanted is_last is low reaches passed = subst (λ (pair : ℕ × ℕ). SaysAll front.codes (codes_read front pair.0 pair.1).codes → IsJustified n (codes_read front pair.0 pair.1) place)
        (λ i. (sym is_last i, sym is i))
        (λ grows. let seen : View = codes_read front last (pair_at text count) in (
          text,
          whole_same seen grows says (says-first last (pair_at text count) front.codes),
          index,
          low,
          reaches,
          passed_more n front seen text index (λ k w s. s) grows passed,
        ))

  module _ (n : ℕ) (new : View) (sound : IsSound n new) (grows : SaysAll front.codes new.codes) (still : Says new.buckets place bucket) (word : ℕ) (here : Says new.codes last word) (known : AreRecorded front (start_of bucket) count) where
    recorded : AreRecorded new (start_of bucket) ((length_of bucket + 1) / 2)
    recorded = subst (AreRecorded new (start_of bucket)) whole (recorded_more front new (start_of bucket) count word grows known here)

    pub whole_other : (length text ≢ length_of bucket) ⊎ HasOther front (start_of bucket) count text → HoldsOther new place text
    whole_other other = read_other n new sound place bucket still text recorded (⊎_elim
        (λ longer. inl longer)
        (λ differs. inr (subst (λ m. HasOther new (start_of bucket) m text) whole (other_more front new (start_of bucket) count text grows differs)))
        other)

    pub last_other : word ≢ pair_at text count → HoldsOther new place text
    last_other differs = read_other n new sound place bucket still text recorded
        (inr (subst (λ m. HasOther new (start_of bucket) m text) whole (count, word, omega arith, here, differs)))

-- the code word that a load records
pub says_read : (old new : View) (c word at : ℕ) → new ≡ codes_read old c word → at ≡ c → Says new.codes at word
says_read old new c word at is same = ap (entry new.codes) same ∙ (ap (λ (v : View). entry v.codes c) is ∙ says-first c word old.codes)

pub says_numbered : (old new : View) (c word place at wanted : ℕ) → new ≡ number_read old c word place → at ≡ c → word ≡ wanted → Says new.codes at wanted
says_numbered old new c word place at wanted is same found =
    ap (entry new.codes) same ∙ (ap (λ (v : View). entry v.codes c) is ∙ (says-first c word old.codes ∙ ap Some found))
