-- Worked rows of the definitions.
use Rattle.std.proofs.Common.{◌≡◌, zero, suc, [], ◌∷◌, Some, None, Ok, Err, pos, negsuc, refl}
use Rattle.nfg_syn.specs.Known.{only_crlf, crlf}
use Rattle.nfg_stream.specs.declared.error.LoadError.TheVariants.{Malformed}
use Rattle.nfg_stream.specs.Numbering.{AreInterned}
use Rattle.nfg_stream.specs.Stream.{error_of}

-- the first longer cluster has no number yet
line_end_is_interned : AreInterned ((0x71 ∷ 0x323 ∷ []) ∷ crlf ∷ []) only_crlf (pos 0 ∷ negsuc 0 ∷ [])
line_end_is_interned zero some = absurd (some refl)
line_end_is_interned (suc zero) some = refl
line_end_is_interned (suc (suc k)) some = absurd (some refl)

-- the error of an answer
an_error : error_of (Err (Malformed 3)) ≡ Some (Malformed 3)
an_error = refl

no_error : error_of (Ok tt) ≡ None
no_error = refl
