-- The string of bytes and of those behind them is that of both strings, joined.
use Rattle.std.proofs.Common.{◌≡◌, inl, inr, ℕ, ◌+◌, ◌<◌, true, List, [], ◌∷◌, ◌++◌, length, take, get_or, slice_index_or, flat_map, bytes_eq, Option, Some, None, Result, Ok, Err, IfOk, refl, sym, ap, ◌∙◌, subst, append-nil, arith}
use Rattle.std.proofs.lemmas.Bool.{and_parts, ltb-true}
use Rattle.std.proofs.lemmas.Grind.{flat_map-append}
use Rattle.std.proofs.lemmas.List.{get_or_push, get_or_append_left}
use Rattle.std.specs.Option.{option_to_list}
use Rattle.std.specs.Set.{is_member}
use Rattle.std.specs.declared.alloc.AllocError.{AllocError}
use Rattle.unicode_normalization.specs.Decompose.{decompose}
use Rattle.unicode_normalization.specs.Forms.{Nfd, nfd, normalize, decomposed}
use Rattle.unicode_normalization.specs.Order.{canonical_order}
use Rattle.unicode_normalization.proofs.OrderLemmas.{sink_all, canonical_order-append, canonical_order-front}
use Rattle.nfg_text.specs.Graphemes.{clusters, graphemes_of}
use Rattle.nfg_text.specs.Operations.{concatenation}
use Rattle.nfg_text.specs.Text.{text_of}
use Rattle.nfg_text.proofs.Proved.{graphemes_decide_equivalence, graphemes_are_in_nfg, nfc-nil}
use Rattle.nfg_decode.specs.declared.encoding.Encoding.{Encoding}
use Rattle.nfg_decode.specs.Encoding.{decode}
use Rattle.nfg_decode.proofs.ReadsLemmas.{decode-nil}
use Rattle.nfg_syn.specs.Known.{Texts, IsWithin}
use Rattle.nfg_syn.specs.Learned.{HasLearned, several, is_several, first_long}
use Rattle.nfg_syn.specs.Represents.{Represents, AreGraphemes}
use Rattle.nfg_syn.specs.RepresentsLaws.{Represents-grows}
use Rattle.nfg_syn.specs.Seen.{Seen, Meets}
use Rattle.nfg_strand.specs.declared.piece.Piece.{Piece}
use Rattle.nfg_strand.specs.Value.{Rope}
use Rattle.nfg_seam.specs.ConcatPieces.{concat_pieces}
use Rattle.nfg_seam.specs.Made.{HasJoined}
use Rattle.nfg_seam.specs.declared.error.SeamError.{SeamError}
use Rattle.nfg_seam.specs.declared.error.SeamError.TheVariants.{TooLong, ClusterLong, RowFull, NoPortion, OutOfMemory}
use Rattle.nfg_seam.proofs.SeamText.{clusters-nil}
use Rattle.nfg_work.specs.Parts.{AreBounds, part_at, IsOfParts, GrowsByParts, IsStringOfBytes, IsStringOrNone, IsLoaded, TextsGoOn}
use Rattle.nfg_work.specs.PartJoining.{IsOfSomeBytes, HasJoinedBytes}
use Rattle.nfg_work.proofs.Growth.{growth_none, growth_same, growth_then, growth_within, growth_union}
use Rattle.nfg_work.proofs.InUse.{learned_back}
use Rattle.nfg_work.proofs.MetWorkers.{length-popped}
use Rattle.nfg_work.proofs.Members.{is_member-front, is_member-kept}
use Rattle.nfg_work.proofs.PartBounds.{rest_from, part_and_rest, rest-last, around_rest}
use Rattle.nfg_work.proofs.PartGrowth.{may_itself, growth_through}

-- ---- the graphemes of joined texts

-- canonical order puts the NFD of a text in front of that of another
nfd-joined : (t u : List ℕ) → nfd (t ++ u) ≡ sink_all (nfd t) (nfd u)
unfolding normalize decomposed
nfd-joined t u =
    let front = flat_map (decompose Nfd) t in
    let back = flat_map (decompose Nfd) u in
    ap canonical_order (flat_map-append (decompose Nfd) t u) ∙ sym (canonical_order-front front back)
    ∙ canonical_order-append (canonical_order front) back

-- the graphemes of a text spell one that is equivalent to it
spells_equivalent : (t : List ℕ) → nfd (text_of (graphemes_of t)) ≡ nfd t
spells_equivalent t = (graphemes_decide_equivalence (text_of (graphemes_of t)) t).0 (sym (graphemes_are_in_nfg t))

-- the graphemes of two texts, joined, are those of the joined text
pub concatenation-graphemes : (t u : List ℕ) → concatenation (graphemes_of t) (graphemes_of u) ≡ graphemes_of (t ++ u)
concatenation-graphemes t u =
    let front = text_of (graphemes_of t) in
    let back = text_of (graphemes_of u) in
    (graphemes_decide_equivalence (front ++ back) (t ++ u)).1
    (nfd-joined front back ∙ ap (λ d. sink_all d (nfd back)) (spells_equivalent t) ∙ ap (sink_all (nfd t)) (spells_equivalent u)
    ∙ sym (nfd-joined t u))

graphemes-nil : graphemes_of [] ≡ []
graphemes-nil = ap clusters nfc-nil ∙ clusters-nil

-- ---- what a pass learns of them

-- one of the first clusters of the text of the bytes that needs a number
of_bytes : (e : Encoding) (bytes text : List ℕ) (front back : List (List ℕ)) (t : List ℕ) → decode e bytes ≡ Ok text → graphemes_of text ≡ front ++ back
    → is_member bytes_eq (several front) t ≡ true → IsOfParts e bytes t
of_bytes e bytes text front back t decoded parts among =
    let both = and_parts (is_member bytes_eq front t) (is_several t) (sym (is_member-kept is_several front t) ∙ among) in (
      ltb-true 1 (length t) both.1,
      record {
        front = [];
        middle = bytes;
        back = [];
        encoding = e;
        text = text;
        parts = sym (append-nil bytes);
        may = may_itself e;
        decoded = decoded;
        cluster = ap (λ list. is_member bytes_eq list t) parts ∙ is_member-front front back t both.0;
      },
    )

-- the first clusters of the text of the bytes were learned
learned_of_bytes : (e : Encoding) (bytes text : List ℕ) (front back : List (List ℕ)) (old new : Texts) → decode e bytes ≡ Ok text
    → graphemes_of text ≡ front ++ back → HasLearned old (several front) new → GrowsByParts e bytes old new
learned_of_bytes e bytes text front back old new decoded parts learned = λ k t at. elim (learned_back (several front) old new learned k t at) [
  | inl before ↦ inl before
  | inr among ↦ inr (of_bytes e bytes text front back t decoded parts among)
]

-- ---- two strings

-- what comes of joining the clusters of the text of the bytes
joined_text : (e : Encoding) (bytes text : List ℕ) (count : ℕ) (list : List (List ℕ)) (pieces : List Piece) (old new : Seen) (result : Result Rope SeamError)
    → decode e bytes ≡ Ok text → graphemes_of text ≡ list → HasJoined count list pieces old new result
    → GrowsByParts e bytes old.known new.known × IfOk result (IsStringOfBytes new.known e bytes)
joined_text e bytes text count list pieces old new (Ok made) decoded is joined = (
  learned_of_bytes e bytes text list [] old.known new.known decoded (is ∙ sym (append-nil list)) joined.1.learned,
  record {
    text = text;
    decoded = decoded;
    short = ap first_long is ∙ joined.1.short;
    represents = subst (Represents new.known made.graphemes) (sym is) joined.1.represents;
  },
)
joined_text e bytes text count list pieces old new (Err TooLong) decoded is joined = (growth_same _ old.known new.known joined.1, tt)
joined_text e bytes text count list pieces old new (Err (ClusterLong at)) decoded is joined = (growth_same _ old.known new.known joined.2, tt)
joined_text e bytes text count list pieces old new (Err RowFull) decoded is joined =
    (learned_of_bytes e bytes text joined.1.front _ old.known new.known decoded (is ∙ joined.1.parts) joined.1.learned, tt)
joined_text e bytes text count list pieces old new (Err NoPortion) decoded is joined =
    (learned_of_bytes e bytes text joined.1.front _ old.known new.known decoded (is ∙ joined.1.parts) joined.1.learned, tt)
joined_text e bytes text count list pieces old new (Err OutOfMemory) decoded is joined =
    (learned_of_bytes e bytes text joined.front joined.rest old.known new.known decoded (is ∙ joined.parts) joined.learned, tt)

-- what comes of joining the strings of some bytes and of those behind them
pub joined_bytes : (e : Encoding) (front back : List ℕ) (left right : Rope) (old new : Seen) (result : Result Rope SeamError) → TextsGoOn e
    → IsStringOfBytes old.known e front left → IsStringOfBytes old.known e back right
    → ((some more : List (List ℕ)) → Represents old.known left.graphemes some → Represents old.known right.graphemes more
    → HasJoined (length some + length more) (concatenation some more) (concat_pieces some more left.pieces right.pieces) old new result)
    → GrowsByParts e (front ++ back) old.known new.known × IfOk result (IsStringOfBytes new.known e (front ++ back))
joined_bytes e front back left right old new result goes_on of_front of_back joined =
    let some = graphemes_of of_front.text in
    let more = graphemes_of of_back.text in
    joined_text e (front ++ back) (of_front.text ++ of_back.text) (length some + length more) (concatenation some more)
    (concat_pieces some more left.pieces right.pieces) old new result
    (goes_on front back of_front.text of_front.decoded of_back.text of_back.decoded)
    (sym (concatenation-graphemes of_front.text of_back.text))
    (joined some more of_front.represents of_back.represents)

-- the string of bytes is one of graphemes
pub graphemes_of_bytes : (known : Texts) (e : Encoding) (bytes : List ℕ) (string : Rope) → IsStringOfBytes known e bytes string → AreGraphemes known string.graphemes
graphemes_of_bytes known e bytes string is = (graphemes_of is.text, is.represents, graphemes_are_in_nfg is.text)

-- where they are not joined, there is none
pub none_of_bytes : (known : Texts) (e : Encoding) (bytes : List ℕ) (result : Result (Option Rope) AllocError) → IfOk result (λ string. string ≡ None)
    → IfOk result (IsStringOrNone known e bytes)
none_of_bytes known e bytes (Ok string) none = subst (IsStringOrNone known e bytes) (sym none) tt
none_of_bytes known e bytes (Err short) none = tt

-- where one of them is missing, nothing is learned
pub none_joined_bytes : (e : Encoding) (front back : List ℕ) (known : Texts) → HasJoinedBytes e front back known known (Ok None)
none_joined_bytes e front back known = record { grown = growth_none _ known known (λ k t at. at); string = tt }

-- ---- strings under more knowledge

pub IsStringOrNone-grows : (old new : Texts) → IsWithin old new → (e : Encoding) (bytes : List ℕ) (string : Option Rope) → IsStringOrNone old e bytes string
    → IsStringOrNone new e bytes string
IsStringOrNone-grows old new within e bytes None is = tt
IsStringOrNone-grows old new within e bytes (Some string) is = record {
  text = is.text;
  decoded = is.decoded;
  short = is.short;
  represents = Represents-grows old new within string.graphemes (graphemes_of is.text) is.represents;
}

pub IsOfSomeBytes-grows : (old new : Texts) → IsWithin old new → (string : Option Rope) → IsOfSomeBytes old string → IsOfSomeBytes new string
IsOfSomeBytes-grows old new within string is = (is.0, is.1, IsStringOrNone-grows old new within is.0 is.1 string is.2)

-- a fork can be met as well in a pass that knows more
pub IsLoaded-grows : (less more : Texts) → IsWithin less more → (e : Encoding) (part : List ℕ) (fork : Seen) (string : Option Rope) → IsLoaded e part less fork string
    → IsLoaded e part more fork string
IsLoaded-grows less more within e part fork string is = record {
  root = is.root;
  meets = is.meets;
  grown = growth_within _ less more fork.known within is.grown;
  string = is.string;
}

-- the empty string is that of no bytes
pub empty_of_bytes : (known : Texts) (e : Encoding) (string : Rope) → string.graphemes ≡ [] → IsStringOfBytes known e [] string
empty_of_bytes known e string none = record {
  text = [];
  decoded = decode-nil e;
  short = ap first_long graphemes-nil;
  represents = subst (λ numbers. Represents known numbers (graphemes_of [])) (sym none) (subst (Represents known []) (sym graphemes-nil) tt);
}

-- ---- a fork that is met

-- a pass that has met the fork of a worker has grown by parts of what its string is joined with
pub met_bytes : (e : Encoding) (part back : List ℕ) (into fork mid new : Seen) (string : Option Rope) (result : Result (Option Rope) AllocError)
    → Meets into fork mid → IsLoaded e part into.known fork string → HasJoinedBytes e part back mid.known new.known result
    → HasJoinedBytes e part back into.known new.known result
met_bytes e part back into fork mid new string result met loaded joined = record {
  grown = growth_then _ into.known mid.known new.known
      (growth_through e e (part ++ back) [] part back into.known mid.known refl (may_itself e)
      (growth_union _ into.known fork.known mid.known met.known loaded.grown))
      joined.grown;
  string = joined.string;
}

-- ---- one part more

-- with one part more, the string is that of the bytes from the part on, and the pass has grown by parts of all
pub joined_further : (e : Encoding) (bytes bounds : List ℕ) (k next : ℕ) (first old new : Texts) (result : Result (Option Rope) AllocError)
    → AreBounds (length bytes) bounds → next ≡ k + 1 → next < length bounds → GrowsByParts e bytes first old
    → HasJoinedBytes e (part_at bytes bounds k) (rest_from bytes bounds next) old new result
    → GrowsByParts e bytes first new × IfOk result (IsStringOrNone new e (rest_from bytes bounds k))
joined_further e bytes bounds k next first old new result are follows within grown joined =
    let whole = part_and_rest bytes bounds k next are follows within in (
      growth_then _ first old new grown
          (growth_through e e bytes (take (get_or bounds k 0) bytes) (rest_from bytes bounds k) [] old new (around_rest bytes bounds k) (may_itself e)
          (subst (λ here. GrowsByParts e here old new) whole joined.grown)),
      subst (λ here. IfOk result (IsStringOrNone new e here)) whole joined.string,
    )

-- behind the last part there is nothing
pub nothing_behind : (known : Texts) (e : Encoding) (bytes bounds : List ℕ) (k : ℕ) (string : Rope) → AreBounds (length bytes) bounds → k + 1 ≡ length bounds
    → string.graphemes ≡ [] → IsStringOrNone known e (rest_from bytes bounds k) (Some string)
nothing_behind known e bytes bounds k string are last none =
    subst (λ here. IsStringOfBytes known e here string) (sym (rest-last bytes bounds k are last)) (empty_of_bytes known e string none)

-- ---- one worker after another, from the last on

last_element : {A : Type 0} (all rest : List A) (last : Option A) (one : A) → all ≡ rest ++ option_to_list last → last ≡ Some one → all ≡ rest ++ one ∷ []
last_element all rest last one parts is = parts ∙ ap (λ o. rest ++ option_to_list o) is

-- the last of some workers has loaded its part, and so have those before it, for a pass that knows more
pub loaded_last : {A : Type 0} (seen : A → Seen) (string : A → Option Rope) (e : Encoding) (part : ℕ → List ℕ) (base : Texts) (all rest : List A) (last : Option A)
    (one : A) → all ≡ rest ++ option_to_list last → last ≡ Some one
    → ((k : ℕ) (d : A) → k < length all → IsLoaded e (part k) base (seen (slice_index_or all k d)) (string (slice_index_or all k d)))
    → IsLoaded e (part (length rest)) base (seen one) (string one)
loaded_last seen string e part base all rest last one parts is loaded =
    let whole = last_element all rest last one parts is in
    let within : length rest < length all = omega (arith, length-popped all rest last one parts is) in
    let at : slice_index_or all (length rest) one ≡ one =
    ap (λ list. slice_index_or list (length rest) one) whole ∙ get_or_push rest one one (length rest) refl in
    subst (λ here. IsLoaded e (part (length rest)) base (seen here) (string here)) at (loaded (length rest) one within)

pub loaded_before : {A : Type 0} (seen : A → Seen) (string : A → Option Rope) (e : Encoding) (part : ℕ → List ℕ) (base more : Texts) (all rest : List A)
    (last : Option A) (one : A) → all ≡ rest ++ option_to_list last → last ≡ Some one → IsWithin base more
    → ((k : ℕ) (d : A) → k < length all → IsLoaded e (part k) base (seen (slice_index_or all k d)) (string (slice_index_or all k d)))
    → (k : ℕ) (d : A) → k < length rest → IsLoaded e (part k) more (seen (slice_index_or rest k d)) (string (slice_index_or rest k d))
loaded_before seen string e part base more all rest last one parts is within loaded k d before =
    let whole = last_element all rest last one parts is in
    let inside : k < length all = omega (arith, before, length-popped all rest last one parts is) in
    let at : slice_index_or all k d ≡ slice_index_or rest k d =
    ap (λ list. slice_index_or list k d) whole ∙ get_or_append_left rest (one ∷ []) d k before in
    let there = slice_index_or rest k d in
    IsLoaded-grows base more within e (part k) (seen there) (string there)
    (subst (λ here. IsLoaded e (part k) base (seen here) (string here)) at (loaded k d inside))
