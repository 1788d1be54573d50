-- A byte that is a whole sequence alone.
use Rattle.std.proofs.Common.{◌≡◌, ℕ, ◌<◌, ◌≤◌, List, [], ◌∷◌, ◌++◌, length, get_or, Option, Some, None, refl, sym, subst, arith}
use Rattle.std.specs.Prelude.{Ok}
use Rattle.nfg_decode.specs.declared.reading.Form.{Form}
use Rattle.nfg_decode.specs.declared.reading.Form.TheVariants.{Utf8, Utf16, Latin1}
use Rattle.nfg_decode.specs.declared.state.State.{State}
use Rattle.nfg_decode.specs.declared.step.Step.TheVariants.{Whole}
use Rattle.nfg_decode.specs.declared.stream.ByteStream.{ByteStream}
use Rattle.nfg_decode.specs.declared.tail.Tail.{Tail}
use Rattle.nfg_decode.specs.declared.tail.Tail.TheVariants.{Empty, One, Two, Three}
use Rattle.nfg_decode.specs.Encoding.{decode}
use Rattle.nfg_decode.specs.Reading.{as_encoding}
use Rattle.nfg_decode.specs.State.{StepsOn, whole_limit, lone_limit, limit_of}
use Rattle.nfg_decode.specs.Stream.{IsLone}
use Rattle.nfg_decode.specs.Tail.{bytes_of}
use Rattle.nfg_decode.proofs.StepLemmas.{one_whole, steps_on}

below_limit : (form : Form) (code : ℕ) → code < whole_limit form → decode (as_encoding form) (code ∷ []) ≡ Ok (code ∷ [])
unfolding decode
below_limit Utf8 code below = one_whole code below
below_limit (Utf16 order) code below = absurd (omega (arith, below))
below_limit Latin1 code below = refl

module _ (s : State) (piece : List ℕ) (code : ℕ) (some : 1 ≤ length piece) (few : length piece < 2) (at : code ≡ get_or piece 0 0) where
  whole_alone : (form : Option Form) (tail : Tail) → s.form ≡ form → s.tail ≡ tail → code < lone_limit form tail → (s.tail ≡ Empty) × StepsOn s piece (Whole code)
  whole_alone (Some form) Empty is none below =
      let one = subst (λ b. decode (as_encoding form) (b ∷ []) ≡ Ok (code ∷ [])) at (below_limit form code below) in
      (none, steps_on s form piece is some few (Whole code) (subst (λ t. decode (as_encoding form) (bytes_of t ++ get_or piece 0 0 ∷ []) ≡ Ok (code ∷ [])) (sym none) one))
  whole_alone (Some form) (One x) is held below = absurd (omega (arith, below))
  whole_alone (Some form) (Two x y) is held below = absurd (omega (arith, below))
  whole_alone (Some form) (Three x y z) is held below = absurd (omega (arith, below))
  whole_alone None tail is held below = absurd (omega (arith, below))

lone_by : (s : ByteStream) (piece : List ℕ) (code : ℕ) → 1 ≤ length piece → length piece < 2 → code ≡ get_or piece 0 0
    → (malformed : Option ℕ) → s.malformed ≡ malformed → code < limit_of malformed s.state.form s.state.tail → IsLone s piece code
lone_by s piece code some few at None is below =
    let alone = whole_alone s.state piece code some few at s.state.form s.state.tail refl refl below in
    (is, alone.0, alone.1)
lone_by s piece code some few at (Some place) is below = absurd (omega (arith, below))

-- so is a byte below the limit of a stream
pub lone_below : (s : ByteStream) (piece : List ℕ) (code : ℕ) → 1 ≤ length piece → length piece < 2 → code ≡ get_or piece 0 0
    → code < limit_of s.malformed s.state.form s.state.tail → IsLone s piece code
lone_below s piece code some few at = lone_by s piece code some few at s.malformed refl
