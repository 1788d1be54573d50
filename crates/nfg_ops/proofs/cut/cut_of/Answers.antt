-- each of the two is the later one in its branch
use Rattle.std.proofs.Common.{length, true, false, arith}
use Rattle.std.proofs.lemmas.Bool.{true≢false, false≢true}
use Rattle.nfg_ops.specs.Cuts.{number_at}
use Rattle.nfg_ops.specs.Precedes.{Precedes}
use Rattle.nfg_ops.proofs.Orders.{precedes-irrefl, precedes-trans, precedes-turned}
use Rattle.nfg_ops.proofs.Critical.{cut-place}
use Rattle.nfg_ops.proofs.cut.cut_of.Goals as goal

pub cut_at-requires : goal.cut_at-requires
cut_at-requires c =
    let needle = c.args.needle.now.graphemes in
    let greatest = c.greatest_suffix-greatest.ensures in
    let least = c.greatest_suffix-least.ensures in
    let within = greatest.within in
    let some = greatest.some in
    let later = c.if-least-greatest.true in
    cut-place (Precedes false) (Precedes true) (precedes-irrefl false) (precedes-trans false) (λ a b. precedes-turned true false a b true≢false)
    (number_at needle) (length needle) c.greatest_suffix-greatest.result.place c.greatest_suffix-least.result.place
    (omega (arith, within, some)) (omega (arith, later)) greatest.greatest least.greatest c.greatest_suffix-greatest.result.period greatest

pub cut_at-requires-else-least-greatest : goal.cut_at-requires-else-least-greatest
cut_at-requires-else-least-greatest c =
    let needle = c.args.needle.now.graphemes in
    let greatest = c.greatest_suffix-greatest.ensures in
    let least = c.greatest_suffix-least.ensures in
    let within = least.within in
    let some = least.some in
    let later = c.if-least-greatest.false in
    cut-place (Precedes true) (Precedes false) (precedes-irrefl true) (precedes-trans true) (λ a b. precedes-turned false true a b false≢true)
    (number_at needle) (length needle) c.greatest_suffix-least.result.place c.greatest_suffix-greatest.result.place
    (omega (arith, within, some)) (omega (arith, later)) least.greatest greatest.greatest c.greatest_suffix-least.result.period least
