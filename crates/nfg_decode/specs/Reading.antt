-- Reading on from an unfinished sequence (this project's own).
use Rattle.std.specs.Prelude.{◌≡◌, ℕ, false, List, drop}
use Rattle.nfg_decode.specs.declared.encoding.Encoding.{Encoding}
use Rattle.nfg_decode.specs.declared.encoding.Encoding.TheVariants.{Utf8, Latin1}
use Rattle.nfg_decode.specs.declared.reading.Form.{Form}
use Rattle.nfg_decode.specs.declared.reading.Form.TheVariants as forms
use Rattle.nfg_decode.specs.declared.reading.Reading.{Reading}
use Rattle.nfg_decode.specs.Reads.{Reads, utf16_form}
use Rattle.nfg_decode.specs.Tail.{bytes_of}

-- the encoding that is read so
abbrev pub as_encoding : Form → Encoding
as_encoding forms.Utf8 = Utf8
as_encoding (forms.Utf16 order) = utf16_form order
as_encoding forms.Latin1 = Latin1

-- what is read of the bytes, and what is held of them
pub record ReadsOn (e : Encoding) (bytes old new : List ℕ) (reading : Reading) : Type 0 where
  pub reads : Reads e bytes old new reading.settled reading.is_malformed
  pub held : reading.is_malformed ≡ false → bytes_of reading.tail ≡ drop reading.settled bytes
