-- A refusal stays, and what comes of the end of the bytes.
use Rattle.std.proofs.Common.{◌≡◌, ◌≢◌, ℕ, List, [], ◌++◌, Option, Some, None, Result, Ok, Err, refl, sym, ap, subst}
use mathlib.Core.HLevel.{Unit-prop, ⊥_prop}
use Rattle.std.proofs.Math.Logic.{∥∥₁_elim, ∥∥₁_map}
use Rattle.nfg_text.specs.Graphemes.{graphemes_of}
use Rattle.nfg_decode.specs.declared.encoding.Encoding.{Encoding}
use Rattle.nfg_decode.specs.Decoded.{Decoded}
use Rattle.nfg_decode.specs.Encoding.{decode, AreBytes, IsAlreadyMalformed}
use Rattle.nfg_decode.proofs.StreamLemmas.{malformed_now, one_place}
use Rattle.nfg_segment.specs.Given.{Given}
use Rattle.nfg_strand.specs.Value.{Rope}
use Rattle.nfg_syn.specs.Known.{IsSame}
use Rattle.nfg_syn.specs.Seen.{Seen}
use Rattle.nfg_stream.specs.declared.error.LoadError.{LoadError}
use Rattle.nfg_stream.specs.declared.error.LoadError.TheVariants.{Malformed, ClusterLong, RowFull, NoPortion, OutOfMemory}
use Rattle.nfg_stream.specs.declared.reader.Reader.{Reader}
use Rattle.nfg_stream.specs.declared.stream.DecodeStream.{DecodeStream}
use Rattle.nfg_stream.specs.Load.{HasLoaded, HasMade}
use Rattle.nfg_stream.specs.Numbering.{Holds, HoldsSome}
use Rattle.nfg_stream.specs.Reading.{IsReading, IsEarlyRefusal, HasTaken, HasEnded, IsOpen, HasReadSome, IsOpenFor}
use Rattle.nfg_stream.specs.Stream.{HasRead, IsEarly, error_of}
use Rattle.nfg_syn.specs.LearnedLaws.{IsSame-refl}
use Rattle.nfg_stream.proofs.ReadingLemmas.{early-more}

-- ---- what a stream has read

pub read-reading : (s : DecodeStream) (e : Encoding) (bytes : List ℕ) → s.refused ≡ None → HasRead s e bytes → IsReading s.reader e bytes
unfolding HasRead
read-reading s e bytes none read = subst (λ o. IsOpen s.reader o e bytes) none read

pub read-early : (s : DecodeStream) (e : Encoding) (bytes : List ℕ) (error : LoadError) → s.refused ≡ Some error → HasRead s e bytes → IsEarlyRefusal e bytes error
unfolding HasRead
read-early s e bytes error some read = subst (λ o. IsOpen s.reader o e bytes) some read

pub early-read : (s : DecodeStream) (e : Encoding) (bytes : List ℕ) (error : LoadError) → s.refused ≡ Some error → IsEarlyRefusal e bytes error → HasRead s e bytes
unfolding HasRead
early-read s e bytes error some early = subst (λ o. IsOpen s.reader o e bytes) (sym some) early

pub reading-read : (s : DecodeStream) (e : Encoding) (bytes : List ℕ) → s.refused ≡ None → IsReading s.reader e bytes → HasRead s e bytes
unfolding HasRead
reading-read s e bytes none reading = subst (λ o. IsOpen s.reader o e bytes) (sym none) reading

-- what was refused stays so behind more bytes
pub read-again : (s t : DecodeStream) (e : Encoding) (bytes piece : List ℕ) (error : LoadError) → s.refused ≡ Some error → t.refused ≡ Some error
    → AreBytes piece → HasRead s e bytes → HasRead t e (bytes ++ piece)
read-again s t e bytes piece error some still octets read =
    early-read t e (bytes ++ piece) error still (early-more e bytes piece error octets (read-early s e bytes error some read))

pub early-malformed : (e : Encoding) (b : List ℕ) (error : LoadError) (at : ℕ) → error ≡ Malformed at → IsEarlyRefusal e b error → IsAlreadyMalformed e b at
early-malformed e b error at is early = subst (IsEarlyRefusal e b) is early

pub early-found : (e : Encoding) (b : List ℕ) (error : LoadError) (at : ℕ) → IsEarlyRefusal e b error → IsAlreadyMalformed e b at → error ≢ OutOfMemory → error ≡ Malformed at
early-found e b (Malformed p) at early bad memory = ap (λ q. Malformed q) (one_place e b p at early bad)
early-found e b (ClusterLong p) at never bad memory = absurd never
early-found e b RowFull at never bad memory = absurd never
early-found e b NoPortion at never bad memory = absurd never
early-found e b OutOfMemory at early bad memory = absurd (memory refl)

abbrev refused : LoadError → Result (Unit {0}) LoadError
refused error = Err error

-- the answer is the refusal that stays
pub same_error : (error : LoadError) (at : ℕ) → refused error ≡ refused (Malformed at) → error ≡ Malformed at
same_error error at same = cc

pub found_again : (e : Encoding) (b : List ℕ) (error : LoadError) (at : ℕ) → IsEarlyRefusal e b error → IsAlreadyMalformed e b at
    → refused error ≢ refused OutOfMemory → refused error ≡ refused (Malformed at)
found_again e b error at early bad memory =
    ap (λ x. Err x) (early-found e b error at early bad (λ none. memory (ap (λ x. Err x) none)))

early-early : (e : Encoding) (b : List ℕ) (error : LoadError) → IsEarlyRefusal e b error → IsEarly error
early-early e b (Malformed at) early = tt
early-early e b (ClusterLong at) never = never
early-early e b RowFull never = never
early-early e b NoPortion never = never
early-early e b OutOfMemory early = tt

IsEarly-prop : (error : LoadError) → IsProp (IsEarly error)
IsEarly-prop (Malformed at) = Unit-prop
IsEarly-prop (ClusterLong at) = ⊥_prop
IsEarly-prop RowFull = ⊥_prop
IsEarly-prop NoPortion = ⊥_prop
IsEarly-prop OutOfMemory = Unit-prop

pub open-early : (r : Reader) (refused : Option LoadError) (error : LoadError) → refused ≡ Some error → IsOpenFor r refused → IsEarly error
open-early r refused error some opens =
    ∥∥₁_elim opens (IsEarly-prop error) (λ x. early-early x.0 x.1 error (subst (λ o. IsOpen r o x.0 x.1) some x.2))

pub open-some : (r : Reader) (refused : Option LoadError) → refused ≡ None → IsOpenFor r refused → HasReadSome r
open-some r refused none opens = ∥∥₁_map opens (λ x. (x.0, x.1, subst (λ o. IsOpen r o x.0 x.1) none x.2))

taken-open : (s : Reader) (e : Encoding) (b : List ℕ) (result : Result (Unit {0}) LoadError) → HasTaken s e b result → IsOpen s (error_of result) e b
taken-open s e b (Ok u) taken = taken.0
taken-open s e b (Err error) early = early

-- after a piece
pub open-taken : (r s : Reader) (piece : List ℕ) (result : Result (Unit {0}) LoadError) → HasReadSome r
    → ((e : Encoding) (bytes : List ℕ) → IsReading r e bytes → HasTaken s e (bytes ++ piece) result) → IsOpenFor s (error_of result)
open-taken r s piece result some taken =
    ∥∥₁_map some (λ x. (x.0, x.1 ++ piece, taken-open s x.0 (x.1 ++ piece) result (taken x.0 x.1 x.2)))

pub taken-early : (s : Reader) (e : Encoding) (b : List ℕ) (error : LoadError) → HasTaken s e b (Err error) → IsEarlyRefusal e b error
taken-early s e b error early = early

pub taken-is_early : (r s : Reader) (piece : List ℕ) (error : LoadError) → HasReadSome r
    → ((e : Encoding) (bytes : List ℕ) → IsReading r e bytes → HasTaken s e (bytes ++ piece) (Err error)) → IsEarly error
taken-is_early r s piece error some taken =
    ∥∥₁_elim some (IsEarly-prop error) (λ x. early-early x.0 (x.1 ++ piece) error (taken x.0 x.1 x.2))

-- ---- the end

loaded-memory : (d : Decoded) (old new : Seen) → IsSame old.known new.known → HasLoaded d old new (Err OutOfMemory)
loaded-memory (Ok text) old new same = record { front = []; rest = graphemes_of text; parts = refl; learned = same }
loaded-memory (Err place) old new same = same

loaded-malformed : (d : Decoded) (at : ℕ) (seen : Seen) → d ≡ Err at → HasLoaded d seen seen (Err (Malformed at))
loaded-malformed d at seen is = subst (λ x. HasLoaded x seen seen (Err (Malformed at))) (sym is) (refl, IsSame-refl seen.known)

-- a refusal before the end
pub loaded-early : (e : Encoding) (bytes : List ℕ) (error : LoadError) (seen : Seen) → IsEarlyRefusal e bytes error
    → HasLoaded (decode e bytes) seen seen (Err error)
loaded-early e bytes (Malformed at) seen bad = loaded-malformed (decode e bytes) at seen (malformed_now e bytes at bad)
loaded-early e bytes (ClusterLong at) seen never = absurd never
loaded-early e bytes RowFull seen never = absurd never
loaded-early e bytes NoPortion seen never = absurd never
loaded-early e bytes OutOfMemory seen early = loaded-memory (decode e bytes) seen seen (IsSame-refl seen.known)

-- a refusal at the end
pub loaded-ended : (given : Given) (d : Decoded) (error : LoadError) (seen : Seen) → HasEnded given d (Err error) → HasLoaded d seen seen (Err error)
loaded-ended given d (Malformed at) seen is = loaded-malformed d at seen (refused d is)
  where
    refused : (d : Decoded) → HasEnded given d (Err (Malformed at)) → d ≡ Err at
    refused (Ok text) is = is
    refused (Err place) is = is
loaded-ended given d (ClusterLong at) seen never = absurd (refused d never)
  where
    refused : (d : Decoded) → HasEnded given d (Err (ClusterLong at)) → ⊥
    refused (Ok text) is = is
    refused (Err place) is = is
loaded-ended given d RowFull seen never = absurd (refused d never)
  where
    refused : (d : Decoded) → HasEnded given d (Err RowFull) → ⊥
    refused (Ok text) is = is
    refused (Err place) is = is
loaded-ended given d NoPortion seen never = absurd (refused d never)
  where
    refused : (d : Decoded) → HasEnded given d (Err NoPortion) → ⊥
    refused (Ok text) is = is
    refused (Err place) is = is
loaded-ended given d OutOfMemory seen early = loaded-memory d seen seen (IsSame-refl seen.known)

-- the clusters of a text
pub loaded-made : (given : Given) (d : Decoded) (old new : Seen) (result : Result Rope LoadError) → HasEnded given d (Ok tt)
    → ((all : List (List ℕ)) → Holds given all → HasMade all old new result) → HasLoaded d old new result
loaded-made given (Ok text) old new result holds made = made (graphemes_of text) holds
loaded-made given (Err place) old new result never made = absurd never

ended-holds : (given : Given) (d : Decoded) → HasEnded given d (Ok tt) → (cs : List (List ℕ)) × Holds given cs
ended-holds given (Ok text) holds = (graphemes_of text, holds)
ended-holds given (Err place) never = absurd never

pub ended-some : (r : Reader) (given : Given) → HasReadSome r
    → ((e : Encoding) (bytes : List ℕ) → IsReading r e bytes → HasEnded given (decode e bytes) (Ok tt)) → HoldsSome given
ended-some r given some ended = ∥∥₁_map some (λ x. ended-holds given (decode x.0 x.1) (ended x.0 x.1 x.2))
