-- Bytes become clusters, piece after piece.
use Rattle.std.proofs.Common.{◌≡◌, ℕ, suc, ◌-◌, ◌≤◌, List, [], ◌∷◌, ◌++◌, length, take, drop, Result, refl, sym, ap, subst, ◌∙◌, arith, append_assoc}
use mathlib.Core.Logic.{∥∥₁_elim}
use denote.Struct.Props.{≡_prop}
use Rattle.std.specs.Coded.{coded_bool}
use Rattle.std.proofs.lemmas.List.{take_all, take-append-drop, length-drop}
use Rattle.nfg_text.specs.Graphemes.{graphemes_of}
use Rattle.nfg_text.specs.Text.{IsText}
use Rattle.nfg_text.proofs.Proved.{parts_of_text}
use Rattle.nfg_decode.specs.declared.encoding.Encoding.{Encoding}
use Rattle.nfg_decode.specs.declared.encoding.Encoding.TheVariants.{Utf8, Utf16, Utf16Le, Utf16Be, Latin1}
use Rattle.std.specs.Str.{chars}
use Rattle.std.specs.Str.Lossy.{utf8_valid_len}
use Rattle.nfg_decode.specs.Utf8.{decode_utf8}
use Rattle.nfg_decode.specs.Utf16.{decode_utf16, decode_marked}
use Rattle.nfg_decode.specs.Encoding.{decode, decoded_prefix, AreBytes}
use Rattle.nfg_decode.specs.State.{GivesNext}
use Rattle.nfg_decode.specs.Stream.{HasRead as HasDecoded}
use Rattle.nfg_decode.proofs.LawLemmas.{prefix_scalars}
use Rattle.nfg_decode.proofs.ReadsLemmas.{AreBytes-nil, AreBytes-append}
use Rattle.nfg_decode.proofs.StreamLemmas.{malformed_more}
use Rattle.nfg_segment.specs.Follows.{Follows, HasFed, HasFinished}
use Rattle.nfg_segment.specs.Given.{Given, nothing, with_clusters}
use Rattle.nfg_segment.specs.Held.{Held}
use Rattle.nfg_stream.specs.declared.error.LoadError.{LoadError}
use Rattle.nfg_stream.specs.declared.error.LoadError.TheVariants.{Malformed, ClusterLong, RowFull, NoPortion, OutOfMemory}
use Rattle.nfg_stream.specs.declared.reader.Reader.{Reader}
use Rattle.nfg_stream.specs.Numbering.{Holds}
use Rattle.nfg_stream.specs.Reading.{IsReading, IsEarlyRefusal, HasReadSome, HasTaken}
use Rattle.nfg_stream.proofs.GraphemeTexts.{Holds-finished}
use Rattle.nfg_stream.proofs.Holding.{with_clusters-append}

-- nothing decodes to nothing
pub prefix-nil : (e : Encoding) → decoded_prefix e [] ≡ []
unfolding decoded_prefix decode decode_utf8 decode_utf16 decode_marked utf8_valid_len chars
prefix-nil Utf8 = refl
prefix-nil Utf16 = refl
prefix-nil Utf16Le = refl
prefix-nil Utf16Be = refl
prefix-nil Latin1 = refl

pub reading-none : (r : Reader) (e : Encoding) → HasDecoded r.bytes e [] → Follows r.segmenter [] [] → r.clusters ≡ nothing → IsReading r e []
reading-none r e decoded follows none = record {
  octets = AreBytes-nil;
  decoded = decoded;
  given = [];
  follows = subst (λ t. Follows r.segmenter t []) (sym (prefix-nil e)) follows;
  collected = none;
}

-- the codes of a piece are a text
pub codes-text : (r : Reader) (e : Encoding) (bytes piece codes : List ℕ) → IsReading r e bytes → AreBytes piece → GivesNext e bytes piece [] codes → IsText codes
codes-text r e bytes piece codes reading octets next =
    let whole = prefix_scalars e (bytes ++ piece) (AreBytes-append bytes piece reading.octets octets) in
    ((parts_of_text (decoded_prefix e bytes) codes).0
    (subst IsText (next.2 ∙ ap (λ m. decoded_prefix e bytes ++ m) (sym next.1)) whole)).1

pub codes-text_some : (r : Reader) (piece codes : List ℕ) → HasReadSome r → AreBytes piece
    → ((e : Encoding) (bytes : List ℕ) → HasDecoded r.bytes e bytes → GivesNext e bytes piece [] codes) → IsText codes
codes-text_some r piece codes some octets next =
    ∥∥₁_elim some (≡_prop coded_bool _ _) (λ x. codes-text r x.0 x.1 piece codes x.2 octets (next x.0 x.1 x.2.decoded))

-- a piece more
pub reading-more : (r s : Reader) (e : Encoding) (bytes piece codes : List ℕ) → IsReading r e bytes → AreBytes piece
    → HasDecoded s.bytes e (bytes ++ piece) → GivesNext e bytes piece [] codes
    → ((fed : List ℕ) (given : List (List ℕ)) → Follows r.segmenter fed given → HasFed s.segmenter r.clusters s.clusters fed codes given)
    → IsReading s e (bytes ++ piece)
reading-more r s e bytes piece codes reading octets decoded next feed =
    let fed = feed (decoded_prefix e bytes) reading.given reading.follows in
    record {
      octets = AreBytes-append bytes piece reading.octets octets;
      decoded = decoded;
      given = reading.given ++ fed.more;
      follows =
          subst (λ t. Follows s.segmenter t (reading.given ++ fed.more)) (ap (λ m. decoded_prefix e bytes ++ m) next.1 ∙ sym next.2) fed.follows;
      collected =
          fed.appended ∙ ap (λ g. with_clusters g fed.more) reading.collected ∙ sym (with_clusters-append nothing reading.given fed.more);
    }

-- a refusal stays one
pub early-more : (e : Encoding) (bytes more : List ℕ) (error : LoadError) → AreBytes more → IsEarlyRefusal e bytes error → IsEarlyRefusal e (bytes ++ more) error
early-more e bytes more (Malformed at) octets bad = malformed_more e bytes more at octets bad
early-more e bytes more (ClusterLong at) octets never = never
early-more e bytes more RowFull octets never = never
early-more e bytes more NoPortion octets never = never
early-more e bytes more OutOfMemory octets free = tt

pub AreBytes-back : (xs ys : List ℕ) → AreBytes (xs ++ ys) → AreBytes ys
AreBytes-back [] ys all = all
AreBytes-back (x ∷ xs) ys all = AreBytes-back xs ys (λ k d l. all (suc k) d (omega (arith, l)))

-- the end of a text
pub ended-text : (r : Reader) (e : Encoding) (bytes : List ℕ) (after : Held) (clusters : Given) → IsReading r e bytes
    → ((fed : List ℕ) (given : List (List ℕ)) → Follows r.segmenter fed given → HasFinished after r.clusters clusters fed given)
    → Holds clusters (graphemes_of (decoded_prefix e bytes))
ended-text r e bytes after clusters reading finish =
    let t = decoded_prefix e bytes in
    let finished = finish t reading.given reading.follows in
    Holds-finished nothing r.clusters clusters reading.given finished.more t (prefix_scalars e bytes reading.octets) refl reading.collected finished.appended finished.whole

-- ---- parts of a piece

pub part-rest : (n : ℕ) (rest : List ℕ) → n ≤ length rest → take n rest ++ take (length rest - n) (drop n rest) ≡ rest
part-rest n rest fits =
    ap (λ l. take n rest ++ l) (take_all (length rest - n) (drop n rest) (omega (arith, length-drop n rest))) ∙ take-append-drop n rest

part-whole : (bytes front rest piece : List ℕ) (n : ℕ) → front ++ rest ≡ piece → ((bytes ++ front) ++ take n rest) ++ drop n rest ≡ bytes ++ piece
part-whole bytes front rest piece n joined =
    append_assoc (bytes ++ front) (take n rest) (drop n rest) ∙ ap (λ l. (bytes ++ front) ++ l) (take-append-drop n rest)
    ∙ append_assoc bytes front rest ∙ ap (λ l. bytes ++ l) joined

-- a refusal in a part of a piece is one of the piece
pub early-whole : (e : Encoding) (bytes front rest piece : List ℕ) (n : ℕ) (error : LoadError) → front ++ rest ≡ piece → AreBytes piece
    → IsEarlyRefusal e ((bytes ++ front) ++ take n rest) error → IsEarlyRefusal e (bytes ++ piece) error
early-whole e bytes front rest piece n error joined octets early =
    subst (λ b. IsEarlyRefusal e b error) (part-whole bytes front rest piece n joined)
    (early-more e ((bytes ++ front) ++ take n rest) (drop n rest) error
    (AreBytes-back (take n rest) (drop n rest)
    (subst AreBytes (sym (take-append-drop n rest)) (AreBytes-back front rest (subst AreBytes (sym joined) octets))))
    early)

pub taken-whole : (reader : Reader) (e : Encoding) (bytes front rest piece : List ℕ) (result : Result (Unit {0}) LoadError) → front ++ rest ≡ piece
    → HasTaken reader e ((bytes ++ front) ++ rest) result → HasTaken reader e (bytes ++ piece) result
taken-whole reader e bytes front rest piece result joined taken =
    subst (λ b. HasTaken reader e b result) (append_assoc bytes front rest ∙ ap (λ l. bytes ++ l) joined) taken
