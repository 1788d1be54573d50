-- Worked rows of the definitions.
use Rattle.std.specs.Prelude.{◌≡◌, ◌<◌, true, [], ◌∷◌, Some, None}
use Rattle.std.proofs.Common.{refl, lit≤}
use Rattle.std.proofs.lemmas.List.Elements.{All-nil, All-cons}
use Rattle.nfg_decode.specs.declared.encoding.Encoding.TheVariants.{Utf8, Utf16, Latin1}
use Rattle.nfg_decode.specs.Encoding.{has_code}
use Rattle.nfg_encode.specs.Refusal.{AreEncodable, Grew, first_lacked}

-- Latin-1 ends at FF
lacked_second : first_lacked Latin1 (0x61 ∷ 0x100 ∷ []) ≡ Some 1
lacked_second = refl

first_of_two : first_lacked Latin1 (0x100 ∷ 0x20AC ∷ []) ≡ Some 0
first_of_two = refl

none_lacked : first_lacked Latin1 (0x61 ∷ 0xFF ∷ []) ≡ None
none_lacked = refl

-- the others lack none
utf8_lacks_none : first_lacked Utf8 (0x100 ∷ 0x10_FFFF ∷ []) ≡ None
utf8_lacks_none = refl

utf16_lacks_none : first_lacked Utf16 (0x100 ∷ 0x10_FFFF ∷ []) ≡ None
utf16_lacks_none = refl

of_no_text : first_lacked Latin1 [] ≡ None
of_no_text = refl

latin1_text : AreEncodable Latin1 (0x61 ∷ 0xFF ∷ [])
latin1_text = record {
  small = All-cons (λ c. c < 0x11_0000) 0x61 (0xFF ∷ []) (lit≤ tt) (All-cons (λ c. c < 0x11_0000) 0xFF [] (lit≤ tt) (All-nil (λ c. c < 0x11_0000)));
  had = All-cons (λ c. has_code Latin1 c ≡ true) 0x61 (0xFF ∷ []) refl
      (All-cons (λ c. has_code Latin1 c ≡ true) 0xFF [] refl (All-nil (λ c. has_code Latin1 c ≡ true)));
}

longer_by_one : Grew (0x61 ∷ []) (0x61 ∷ 0xFF ∷ [])
longer_by_one = (0xFF ∷ [], refl)
