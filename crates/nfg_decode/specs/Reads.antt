-- What a reading of some bytes gives (this project's own).
use Rattle.std.specs.Prelude.{◌≡◌, ℕ, ◌≤◌, ◌⊎◌, Bool, List, [], ◌++◌, length, take, drop, Ok, Err, MatchBool}
use Rattle.nfg_decode.specs.declared.encoding.Encoding.{Encoding}
use Rattle.nfg_decode.specs.declared.encoding.Encoding.TheVariants.{Utf16Le, Utf16Be}
use Rattle.nfg_decode.specs.declared.utf16.ByteOrder.{ByteOrder}
use Rattle.nfg_decode.specs.declared.utf16.ByteOrder.TheVariants.{Little, Big}
use Rattle.nfg_decode.specs.Utf16.{decode_utf16}
use Rattle.nfg_decode.specs.Encoding.{decode, AreBytes, IsAlreadyMalformed}

-- the encoding of a byte order
abbrev pub utf16_form : ByteOrder → Encoding
utf16_form Little = Utf16Le
utf16_form Big = Utf16Be

-- new is old with more at its end
abbrev pub Grew : List ℕ → List ℕ → Type 0
Grew old new = (more : List ℕ) × (new ≡ old ++ more)

-- the bytes are the start of a sequence that more bytes can complete, or there are none
pub record IsUnfinished (e : Encoding) (tail : List ℕ) : Type 0 where
  pub short : length tail ≤ 3
  pub cut : (tail ≡ []) ⊎ (decode e tail ≡ Err 0)
  pub more : List ℕ
  pub bytes : AreBytes more
  pub text : List ℕ
  pub completed : decode e (tail ++ more) ≡ Ok text

-- The first `at` bytes are a text in UTF-16, which stands at the end of the list now, and no whole
-- sequence follows them.
pub record AppendsUnits (o : ByteOrder) (bytes old new : List ℕ) (at : ℕ) : Type 0 where
  pub within : at ≤ length bytes
  pub text : List ℕ
  pub front : decode_utf16 o (take at bytes) ≡ Ok text
  pub added : new ≡ old ++ text
  pub none : (drop at bytes ≡ []) ⊎ (decode_utf16 o (drop at bytes) ≡ Err 0)

-- The first `at` bytes are a text, which stands at the end of the list now. Behind it no sequence
-- can begin, whatever bytes follow, or an unfinished one does.
pub record Reads (e : Encoding) (bytes old new : List ℕ) (at : ℕ) (is_malformed : Bool) : Type 0 where
  pub within : at ≤ length bytes
  pub text : List ℕ
  pub front : decode e (take at bytes) ≡ Ok text
  pub added : new ≡ old ++ text
  pub behind : MatchBool is_malformed (IsAlreadyMalformed e (drop at bytes) 0) (IsUnfinished e (drop at bytes))
