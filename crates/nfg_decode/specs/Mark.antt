-- The byte order mark at the start of a stream (this project's own).
use Rattle.std.specs.Prelude.{◌≡◌, ℕ, ◌+◌, ◌≤◌, false, List, [], ◌∷◌, ◌++◌, length, take, drop, nat_eq, ⊤, IfSome, IfNone}
use Rattle.std.specs.List.{starts_with}
use Rattle.nfg_decode.specs.declared.encoding.Encoding.{Encoding}
use Rattle.nfg_decode.specs.declared.encoding.Encoding.TheVariants.{Utf16}
use Rattle.nfg_decode.specs.declared.utf16.ByteOrder.TheVariants.{Little, Big}
use Rattle.nfg_decode.specs.declared.mark.Mark.{Mark}
use Rattle.nfg_decode.specs.declared.mark.Mark.TheVariants.{Undecided, Is, Absent}
use Rattle.nfg_decode.specs.declared.mark.Opening.{Opening}
use Rattle.nfg_decode.specs.Decoded.{after_text}
use Rattle.nfg_decode.specs.Utf16.{mark}
use Rattle.nfg_decode.specs.Encoding.{decode, decoded_prefix}
use Rattle.nfg_decode.specs.Reads.{IsUnfinished}
use Rattle.nfg_decode.specs.Reading.{as_encoding}
use Rattle.nfg_decode.specs.Tail.{bytes_of}

-- no bytes, or one that may be the first of a mark
abbrev pub MayBeMark : List ℕ → Type 0
MayBeMark [] = ⊤
MayBeMark (x ∷ []) = 0xFE ≤ x
MayBeMark (x ∷ y ∷ b) = ⊥

-- the bytes begin with no mark
pub record IsUnmarked (b : List ℕ) : Type 0 where
  pub big : starts_with nat_eq b (mark Big) ≡ false
  pub little : starts_with nat_eq b (mark Little) ≡ false

-- what the first bytes say of the mark
abbrev pub TellsMark : List ℕ → Mark → Type 0
TellsMark b Undecided = MayBeMark b
TellsMark b (Is order) = take 2 b ≡ mark order
TellsMark b Absent = (more : List ℕ) → IsUnmarked (b ++ more)

-- bytes in the encoding e are k bytes that are no part of the text, and then the body in the
-- encoding r, whatever follows
pub record Reduces (e : Encoding) (bytes : List ℕ) (r : Encoding) (body : List ℕ) (k : ℕ) : Type 0 where
  pub len : k + length body ≡ length bytes
  pub decodes : (more : List ℕ) → decode e (bytes ++ more) ≡ after_text [] k (decode r (body ++ more))
  pub prefix : (more : List ℕ) → decoded_prefix e (bytes ++ more) ≡ decoded_prefix r (body ++ more)

-- the held bytes and the piece: no form is known yet, and all are held, or the form reads what is
-- behind the mark
pub record Opens (held piece : List ℕ) (opening : Opening) : Type 0 where
  pub undecided : IfNone opening.form ((held ++ piece ≡ bytes_of opening.tail) × MayBeMark (bytes_of opening.tail))
  pub decided : IfSome opening.form (λ form.
      Reduces Utf16 (held ++ piece) (as_encoding form) (bytes_of opening.tail ++ drop opening.used piece) opening.mark
      × IsUnfinished (as_encoding form) (bytes_of opening.tail))
