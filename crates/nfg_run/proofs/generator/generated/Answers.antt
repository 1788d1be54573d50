use Rattle.std.proofs.Common.{◌≡◌, ◌++◌, ◌∷◌, suc, flat_map, sym, ap, ap₂, ◌∙◌, arith, add-one, length, length-append}
use Rattle.nfg_decode.specs.declared.encoding.Encoding.TheVariants.{Utf8, Utf16}
use Rattle.nfg_decode.specs.Encoding.{encode, encode_code}
use Rattle.nfg_run.specs.Generator.{number_after, next_number, draw_of, first_text, second_text, first_spelling, second_spelling}
use Rattle.nfg_run.proofs.Drawing.{drawn-next}
use Rattle.nfg_run.proofs.generator.generated.Goals as goal

pub drawing-preserved : goal.drawing-preserved
drawing-preserved c =
    let k = c.drawing.k in
    let seed = c.args.seed in
    let number : c.next-number.result ≡ number_after seed (suc k) = c.next-number.ensures.next ∙ ap next_number c.drawing.invariant.number in
    let draw : c.draw-draw.result ≡ draw_of (number_after seed (suc k)) = c.draw-draw.ensures.draw ∙ ap draw_of number in
    let first = c.first_bytes.ensures.bytes ∙ ap (λ v. flat_map (encode_code Utf8) (first_spelling v)) draw in
    let second = c.second_bytes.ensures.bytes ∙ ap (λ v. flat_map (encode_code Utf16) (second_spelling v)) draw in
    rw add-one (record {
      number = number;
      within = c.next-number.ensures.within;
      first = c.in_ok-append.ensures.ok ∙ ap₂ (λ v w. v ++ w) c.drawing.invariant.first first
          ∙ sym (drawn-next (encode_code Utf8) first_spelling seed k);
      second = c.in_ok-append-2.ensures.ok ∙ ap₂ (λ v w. v ++ w) c.drawing.invariant.second second
          ∙ ap (λ v. 254 ∷ 255 ∷ v) (sym (drawn-next (encode_code Utf16) second_spelling seed k));
      first_within = omega (
        arith,
        c.drawing.invariant.first_within,
        c.first_bytes.ensures.within,
        ap length c.in_ok-append.ensures.ok,
        length-append c.drawing.a c.first_bytes.result.now,
      );
      second_within = omega (
        arith,
        c.drawing.invariant.second_within,
        c.second_bytes.ensures.within,
        ap length c.in_ok-append-2.ensures.ok,
        length-append c.drawing.b c.second_bytes.result.now,
      );
    })

pub returns-clause-a : goal.returns-clause-a
unfolding encode
returns-clause-a c =
    let all : c.drawing.k ≡ c.args.count = omega arith in
    c.drawing.invariant.first ∙ ap (λ v. flat_map (encode_code Utf8) (first_text c.args.seed v)) all

pub returns-clause-b : goal.returns-clause-b
unfolding encode
returns-clause-b c =
    let all : c.drawing.k ≡ c.args.count = omega arith in
    c.drawing.invariant.second ∙ ap (λ v. 254 ∷ 255 ∷ flat_map (encode_code Utf16) (second_text c.args.seed v)) all

pub returns-clause-a_is_within : goal.returns-clause-a_is_within
returns-clause-a_is_within c = omega (arith, c.drawing.invariant.first_within)

pub returns-clause-b_is_within : goal.returns-clause-b_is_within
returns-clause-b_is_within c = omega (arith, c.drawing.invariant.second_within)
