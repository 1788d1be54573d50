-- the comparison tells whether the period of the suffix is one of the needle
use Rattle.std.proofs.Common.{◌≡◌, ◌≤◌, ◌<◌, ◌+◌, ◌-◌, ◌*◌, ◌/◌, ℕ, ℤ, List, length, sym, ap, ◌∙◌, arith}
use Rattle.nfg_ops.specs.Cuts.{number_at}
use Rattle.nfg_ops.proofs.Critical.{cut-periodic, cut-long}
use Rattle.nfg_ops.proofs.Numbers.{compared}
use Rattle.nfg_ops.proofs.cut.cut_at.Goals as goal

pub returns-then-same-critical : goal.returns-then-same-critical
returns-then-same-critical c =
    let needle = c.args.needle.now.graphemes in
    let place = c.args.suffix.place in
    let period = c.args.suffix.period in
    let within = c.requires.within in
    let said = compared needle needle 0 period place c.common_front-same.result (omega (arith, within)) (omega (arith, within)) c.common_front-same.ensures in
    let all = c.if-same-critical.true in
    cut-periodic (number_at needle) (length needle) c.args.suffix c.requires
    (λ k below. swap needle k period (said.same k (omega (arith, below, all))))
  where
    swap : (needle : List ℤ) (k period : ℕ) → number_at needle (0 + k) ≡ number_at needle (period + k) → number_at needle k ≡ number_at needle (k + period)
    swap needle k period e =
        let first : 0 + k ≡ k = omega arith in
        let second : period + k ≡ k + period = omega arith in
        ap (number_at needle) (sym first) ∙ e ∙ ap (number_at needle) second

pub returns : goal.returns
returns c =
    let needle = c.args.needle.now.graphemes in
    let place = c.args.suffix.place in
    let period = c.args.suffix.period in
    let within = c.requires.within in
    let same = c.common_front-same.result in
    let said = compared needle needle 0 period place same (omega (arith, within)) (omega (arith, within)) c.common_front-same.ensures in
    let most = said.most in
    let fewer : same < place = omega (arith, most, c.if-same-critical.false) in
    let half = (c.len.result - place) / 2 in
    let len = c.len.ensures.len in
    cut-long (number_at needle) (length needle) c.args.suffix c.requires same c.max.result half fewer
    (λ e. said.differs fewer (back needle same period e)) (twice c.len.result place (length needle) len) c.max.ensures
  where
    back : (needle : List ℤ) (k period : ℕ) → number_at needle k ≡ number_at needle (k + period) → number_at needle (0 + k) ≡ number_at needle (period + k)
    back needle k period e =
        let first : 0 + k ≡ k = omega arith in
        let second : period + k ≡ k + period = omega arith in
        ap (number_at needle) first ∙ e ∙ ap (number_at needle) (sym second)

    twice : (len place long : ℕ) → len ≡ long → 2 * ((len - place) / 2) ≤ long - place
    twice len place long e = omega (arith, e)
