-- what was found lies before the end
use Rattle.std.proofs.Common.{◌≤◌, ◌<◌, ℕ, Bool, Option, Some, None, IfSome, arith}
use Rattle.nfg_ops.specs.Places.{stand_at, IsLastBetween}
use Rattle.nfg_ops.proofs.occurrence.last_between.Goals as goal

cut_off : (test : ℕ → Bool) (start place end : ℕ) (found : Option ℕ) → end ≤ place → IfSome found (λ p. p < end) → IsLastBetween test start place found
    → IsLastBetween test start end found
cut_off test start place end None far inside none = λ k low high. none k low (omega (arith, high, far))
cut_off test start place end (Some p) far inside is = (is.0, inside, is.2, λ k after high. is.3 k after (omega (arith, high, far)))

pub returns : goal.returns
returns c = cut_off (stand_at c.args.string.now.graphemes c.args.needle.now.graphemes) c.args.start c.loop-place.place c.args.end c.loop-place.found
    c.loop-place-test.false c.loop-place.invariant.inside c.loop-place.invariant.found
