use Rattle.std.proofs.Common.{arith, inl, inr, refl}
use Rattle.std.proofs.lemmas.List.{take_rest}
use Rattle.nfg_decode.proofs.FrontLemmas.{front_none, front_set}
use Rattle.nfg_decode.proofs.utf8_codes.fill_through_other.Goals as goal

pub loop-at-init : goal.loop-at-init
loop-at-init c = record { front = front_none c.args.text.now c.requires.text; count = omega arith; through = inl refl }

pub loop-at-preserved : goal.loop-at-preserved
loop-at-preserved c =
    let l = c.loop-at in
    record {
      front = front_set c.args.text.now l.codes l.at l.n c.first_code-code.result.1 c.first_code-code.result.0 l.invariant.front (rw take_rest at c.first_code-code.ensures.first) (omega arith);
      count = omega arith;
      through = inr (omega (arith, c.first_code-code.ensures.some));
    }
