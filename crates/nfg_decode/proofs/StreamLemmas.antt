-- What a stream answers.
use Rattle.std.proofs.Common.{◌≡◌, ℕ, ◌<◌, List, [], ◌++◌, length, get_or, refl, sym, ap, ◌∙◌, subst, arith, append_assoc}
use Rattle.std.proofs.lemmas.List.{append-nil, take_all, take-append-le, get_or_default}
use Rattle.std.specs.Prelude.{Ok, Err, Some, None, MatchOption}
use Rattle.nfg_decode.specs.declared.encoding.Encoding.{Encoding}
use Rattle.nfg_decode.specs.declared.encoding.DecodeError.TheVariants.{Malformed, OutOfMemory}
use Rattle.nfg_decode.specs.declared.state.State.{State}
use Rattle.nfg_decode.specs.declared.state.Next.{Next}
use Rattle.nfg_decode.specs.declared.stream.ByteStream.{ByteStream}
use Rattle.nfg_decode.specs.Encoding.{decode, decoded_prefix, AreBytes, IsAlreadyMalformed}
use Rattle.nfg_decode.specs.State.{IsOpen, HasAdvanced}
use Rattle.nfg_decode.specs.Stream.{HasRead, Feeds}
use Rattle.nfg_decode.proofs.ReadsLemmas.{AreBytes-nil, AreBytes-append}
use Rattle.nfg_decode.proofs.PrefixLemmas.{FaultFront, fault_front, prefix_of_fault}
use Rattle.nfg_decode.proofs.StateLemmas.{open_mends}

-- bytes by index
pub bytes_all : (xs : List ℕ) → ((i : ℕ) → get_or xs i 0 < 256) → AreBytes xs
bytes_all xs small k d l = rw (get_or_default xs k d 0 l) (small k)

-- what is already malformed is malformed now, and has one place
pub malformed_now : (e : Encoding) (b : List ℕ) (p : ℕ) → IsAlreadyMalformed e b p → decode e b ≡ Err p
malformed_now e b p bad = ap (decode e) (sym (append-nil b)) ∙ bad [] AreBytes-nil

pub one_place : (e : Encoding) (b : List ℕ) (p q : ℕ) → IsAlreadyMalformed e b p → IsAlreadyMalformed e b q → p ≡ q
one_place e b p q bad worse =
    let d = malformed_now e b p bad in
    let f = malformed_now e b q worse in
    cc

-- and stays so
pub malformed_more : (e : Encoding) (b piece : List ℕ) (p : ℕ) → AreBytes piece → IsAlreadyMalformed e b p → IsAlreadyMalformed e (b ++ piece) p
malformed_more e b piece p small bad more rest =
    ap (decode e) (append_assoc b piece more) ∙ bad (piece ++ more) (AreBytes-append piece more small rest)

prefix_stays : (e : Encoding) (b piece : List ℕ) (p : ℕ) → AreBytes piece → IsAlreadyMalformed e b p → decoded_prefix e (b ++ piece) ≡ decoded_prefix e b
prefix_stays e b piece p small bad =
    let k : FaultFront e b p = fault_front e b p (malformed_now e b p bad) in
    let m : FaultFront e (b ++ piece) p = fault_front e (b ++ piece) p (malformed_now e (b ++ piece) p (malformed_more e b piece p small bad)) in
    prefix_of_fault e (b ++ piece) k.text p (malformed_now e (b ++ piece) p (malformed_more e b piece p small bad)) m.within
    (ap (decode e) (take-append-le p b piece k.within) ∙ k.front)
    ∙ sym (prefix_of_fault e b k.text p (malformed_now e b p bad) k.within k.front)

-- a stream that was refused, and one that was not
pub read_malformed : (s : ByteStream) (e : Encoding) (b : List ℕ) (at : ℕ) → s.malformed ≡ Some at → HasRead s e b → IsAlreadyMalformed e b at
unfolding HasRead
read_malformed s e b at is h = subst (λ m. MatchOption m (IsOpen s.state e b) (λ p. IsAlreadyMalformed e b p)) is h

pub read_open : (s : ByteStream) (e : Encoding) (b : List ℕ) → s.malformed ≡ None → HasRead s e b → IsOpen s.state e b
unfolding HasRead
read_open s e b is h = subst (λ m. MatchOption m (IsOpen s.state e b) (λ p. IsAlreadyMalformed e b p)) is h

pub malformed_read : (s : ByteStream) (e : Encoding) (b : List ℕ) (at : ℕ) → s.malformed ≡ Some at → IsAlreadyMalformed e b at → HasRead s e b
unfolding HasRead
malformed_read s e b at is bad = subst (λ m. MatchOption m (IsOpen s.state e b) (λ p. IsAlreadyMalformed e b p)) (sym is) bad

-- ---- the answers of `feed`

pub feeds_again : (e : Encoding) (b piece into : List ℕ) (at : ℕ) (after : ByteStream) → AreBytes piece → after.malformed ≡ Some at → IsAlreadyMalformed e b at
    → Feeds e b piece into into after (Err (Malformed at))
feeds_again e b piece into at after small is bad =
    let more = malformed_more e b piece at small bad in
    record {
      read = malformed_read after e (b ++ piece) at is more;
      decoded = ([], sym (append-nil into), prefix_stays e b piece at small bad ∙ sym (append-nil (decoded_prefix e b)));
      malformed = λ p same. (let place : at ≡ p = cc in subst (IsAlreadyMalformed e (b ++ piece)) place more);
      found = λ p other. ap (λ n. Err (Malformed n)) (one_place e (b ++ piece) at p more other);
      stays = λ p other. (ap (λ n. Err (Malformed n)) (one_place e b at p bad other), refl);
    }

pub feeds_nothing : (e : Encoding) (b piece old new : List ℕ) (s : State) (after : ByteStream) → IsOpen s e b → Feeds e b piece old new after (Err OutOfMemory)
feeds_nothing e b piece old new s after h = record {
  read = tt;
  decoded = tt;
  malformed = λ p same. cc;
  found = λ p bad. tt;
  stays = λ p bad. absurd (open_mends s e b h p bad);
}

pub feeds_fault : (e : Encoding) (b piece old new : List ℕ) (s : State) (next : Next) (at : ℕ) (after : ByteStream) → IsOpen s e b → HasAdvanced e b piece old new next
    → next.malformed ≡ Some at → after.malformed ≡ next.malformed → Feeds e b piece old new after (Err (Malformed at))
feeds_fault e b piece old new s next at after h gone is same =
    let bad : IsAlreadyMalformed e (b ++ piece) at = subst (λ m. MatchOption m (IsOpen next.state e (b ++ piece)) (λ p. IsAlreadyMalformed e (b ++ piece) p)) is gone.state in
    record {
      read = malformed_read after e (b ++ piece) at (same ∙ is) bad;
      decoded = gone.given;
      malformed = λ p told. (let place : at ≡ p = cc in subst (IsAlreadyMalformed e (b ++ piece)) place bad);
      found = λ p other. ap (λ n. Err (Malformed n)) (one_place e (b ++ piece) at p bad other);
      stays = λ p other. absurd (open_mends s e b h p other);
    }

pub feeds_on : (e : Encoding) (b piece old new : List ℕ) (s : State) (next : Next) (after : ByteStream) → IsOpen s e b → HasAdvanced e b piece old new next
    → next.malformed ≡ None → after.malformed ≡ next.malformed → after.state ≡ next.state → Feeds e b piece old new after (Ok tt)
unfolding HasRead
feeds_on e b piece old new s next after h gone is same state =
    let open_still : IsOpen next.state e (b ++ piece) = subst (λ m. MatchOption m (IsOpen next.state e (b ++ piece)) (λ p. IsAlreadyMalformed e (b ++ piece) p)) is gone.state in
    record {
      read = subst (λ m. MatchOption m (IsOpen after.state e (b ++ piece)) (λ p. IsAlreadyMalformed e (b ++ piece) p)) (sym (same ∙ is)) (subst (λ x. IsOpen x e (b ++ piece)) (sym state) open_still);
      decoded = gone.given;
      malformed = λ p told. cc;
      found = λ p bad. absurd (open_mends next.state e (b ++ piece) open_still p bad);
      stays = λ p bad. absurd (open_mends s e b h p bad);
    }

pub nothing_held : (l : List ℕ) → length l ≡ 0 → l ≡ []
nothing_held l none = sym (take_all 0 l (omega arith))
