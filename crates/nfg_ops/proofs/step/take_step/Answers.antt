-- the two comparisons say what stands at the place
use Rattle.std.proofs.Common.{◌≡◌, ◌≤◌, ◌<◌, ◌+◌, ◌-◌, ◌==◌, ℕ, length, inl, inr, refl, sym, ap, subst, ◌∙◌, arith}
use Rattle.std.proofs.lemmas.Bool.{cases_lt, false_from_ne_true, eqb-true, eq-eqb}
use Rattle.nfg_ops.specs.Cuts.{number_at, known_then}
use Rattle.nfg_ops.specs.Places.{stand_at}
use Rattle.nfg_ops.proofs.Numbers.{compared, stand-reads, stand-from}
use Rattle.nfg_ops.proofs.Standing.{same_test}
use Rattle.nfg_ops.proofs.Steps.{none-right, none-left, known-later, stands-right, stands-all}
use Rattle.nfg_ops.proofs.step.take_step.Goals as goal

pub overflow_add-place : goal.overflow_add-place
overflow_add-place c =
    let below = c.requires.cut.below in
    omega (arith, c.max-start.ensures, below, c.requires.known_less, c.requires.inside, c.requires.bounded)

pub overflow_add-result-then-same-width : goal.overflow_add-result-then-same-width
overflow_add-result-then-same-width c =
    let xs = c.args.string.now.graphemes in
    let ys = c.args.needle.now.graphemes in
    let place = c.args.place in
    let critical = c.args.cut.critical in
    let start = c.max-start.result in
    let below = c.requires.cut.below in
    let is_start = c.max-start.ensures in
    let width = c.len-width.ensures.len in
    let fits : start < length ys = omega (arith, is_start, below, c.requires.known_less) in
    let said = compared xs ys (place + start) start (c.len-width.result - start) c.common_front-same.result
    (omega (arith, fits, width, c.requires.inside)) (omega (arith, fits, width)) c.common_front-same.ensures in
    let same = c.common_front-same.result in
    let near = c.if-same-width.true in
    omega (arith, fits, near, width, c.requires.inside, c.requires.bounded)

pub overflow_add-result-then-same-width-2 : goal.overflow_add-result-then-same-width-2
overflow_add-result-then-same-width-2 c =
    let xs = c.args.string.now.graphemes in
    let ys = c.args.needle.now.graphemes in
    let place = c.args.place in
    let critical = c.args.cut.critical in
    let start = c.max-start.result in
    let below = c.requires.cut.below in
    let is_start = c.max-start.ensures in
    let width = c.len-width.ensures.len in
    let fits : start < length ys = omega (arith, is_start, below, c.requires.known_less) in
    let said = compared xs ys (place + start) start (c.len-width.result - start) c.common_front-same.result
    (omega (arith, fits, width, c.requires.inside)) (omega (arith, fits, width)) c.common_front-same.ensures in
    let same = c.common_front-same.result in
    let near = c.if-same-width.true in
    omega (arith, fits, near, width, c.requires.inside, c.requires.bounded)

pub overflow_add-place-2 : goal.overflow_add-place-2
overflow_add-place-2 c =
    let below = c.requires.cut.below in
    omega (arith, c.min-low.ensures, below, c.requires.inside, c.requires.bounded)

pub overflow_add-result-2 : goal.overflow_add-result-2
overflow_add-result-2 c =
    let within = c.requires.cut.within in
    omega (arith, within, c.requires.inside, c.requires.bounded)

pub returns-then-same-width-clause-found : goal.returns-then-same-width-clause-found
returns-then-same-width-clause-found c =
    let xs = c.args.string.now.graphemes in
    let ys = c.args.needle.now.graphemes in
    let place = c.args.place in
    let critical = c.args.cut.critical in
    let start = c.max-start.result in
    let below = c.requires.cut.below in
    let is_start = c.max-start.ensures in
    let width = c.len-width.ensures.len in
    let fits : start < length ys = omega (arith, is_start, below, c.requires.known_less) in
    let said = compared xs ys (place + start) start (c.len-width.result - start) c.common_front-same.result
    (omega (arith, fits, width, c.requires.inside)) (omega (arith, fits, width)) c.common_front-same.ensures in
    let same = c.common_front-same.result in
    let near = c.if-same-width.true in
    let together : place + (start + same) ≡ place + start + same = omega arith in
    sym (false_from_ne_true (stand_at xs ys place) (λ occurs.
    said.differs near (ap (number_at xs) (sym together) ∙ (stand-reads xs ys place occurs).1 (start + same) (omega (arith, near, width, fits)))))

pub returns-then-same-width-clause-none : goal.returns-then-same-width-clause-none
returns-then-same-width-clause-none c =
    let xs = c.args.string.now.graphemes in
    let ys = c.args.needle.now.graphemes in
    let place = c.args.place in
    let critical = c.args.cut.critical in
    let start = c.max-start.result in
    let below = c.requires.cut.below in
    let is_start = c.max-start.ensures in
    let width = c.len-width.ensures.len in
    let fits : start < length ys = omega (arith, is_start, below, c.requires.known_less) in
    let said = compared xs ys (place + start) start (c.len-width.result - start) c.common_front-same.result
    (omega (arith, fits, width, c.requires.inside)) (omega (arith, fits, width)) c.common_front-same.ensures in
    let same = c.common_front-same.result in
    let near = c.if-same-width.true in
    let together : place + (start + same) ≡ place + start + same = omega arith in
    none-right xs ys c.args.cut c.requires.cut place (start + same) (omega (arith, is_start)) (omega (arith, near, width, fits))
    (stands-right xs ys c.args.cut c.requires.cut place c.args.known start same is_start c.requires.known said.same)
    (λ e. said.differs near (ap (number_at xs) (sym together) ∙ e))

pub returns-clause-none : goal.returns-clause-none
returns-clause-none c =
    let xs = c.args.string.now.graphemes in
    let ys = c.args.needle.now.graphemes in
    let place = c.args.place in
    let critical = c.args.cut.critical in
    let start = c.max-start.result in
    let below = c.requires.cut.below in
    let is_start = c.max-start.ensures in
    let width = c.len-width.ensures.len in
    let fits : start < length ys = omega (arith, is_start, below, c.requires.known_less) in
    let said = compared xs ys (place + start) start (c.len-width.result - start) c.common_front-same.result
    (omega (arith, fits, width, c.requires.inside)) (omega (arith, fits, width)) c.common_front-same.ensures in
    let same = c.common_front-same.result in
    let all : same ≡ c.len-width.result - start = omega (arith, c.if-same-width.false, said.most) in
    let right = stands-right xs ys c.args.cut c.requires.cut place c.args.known start same is_start c.requires.known said.same in
    let stands : (k : ℕ) → critical ≤ k → k < length ys → number_at xs (place + k) ≡ number_at ys k = λ k low high. right k low (omega (arith, high, all, width, fits)) in
    none-left xs ys c.args.cut c.requires.cut place stands

pub returns-clause-known : goal.returns-clause-known
returns-clause-known c =
    let xs = c.args.string.now.graphemes in
    let ys = c.args.needle.now.graphemes in
    let place = c.args.place in
    let critical = c.args.cut.critical in
    let start = c.max-start.result in
    let below = c.requires.cut.below in
    let is_start = c.max-start.ensures in
    let width = c.len-width.ensures.len in
    let fits : start < length ys = omega (arith, is_start, below, c.requires.known_less) in
    let said = compared xs ys (place + start) start (c.len-width.result - start) c.common_front-same.result
    (omega (arith, fits, width, c.requires.inside)) (omega (arith, fits, width)) c.common_front-same.ensures in
    let same = c.common_front-same.result in
    let all : same ≡ c.len-width.result - start = omega (arith, c.if-same-width.false, said.most) in
    let right = stands-right xs ys c.args.cut c.requires.cut place c.args.known start same is_start c.requires.known said.same in
    let stands : (k : ℕ) → critical ≤ k → k < length ys → number_at xs (place + k) ≡ number_at ys k = λ k low high. right k low (omega (arith, high, all, width, fits)) in
    λ k fewer. known-later xs ys c.args.cut c.requires.cut place c.args.cut.is_period refl stands k
    (subst (λ n. k < n) (c.known_after.ensures ∙ ap (known_then c.args.cut) width) fewer)

pub returns-clause-found : goal.returns-clause-found
returns-clause-found c =
    let xs = c.args.string.now.graphemes in
    let ys = c.args.needle.now.graphemes in
    let place = c.args.place in
    let critical = c.args.cut.critical in
    let start = c.max-start.result in
    let below = c.requires.cut.below in
    let is_start = c.max-start.ensures in
    let width = c.len-width.ensures.len in
    let fits : start < length ys = omega (arith, is_start, below, c.requires.known_less) in
    let said = compared xs ys (place + start) start (c.len-width.result - start) c.common_front-same.result
    (omega (arith, fits, width, c.requires.inside)) (omega (arith, fits, width)) c.common_front-same.ensures in
    let same = c.common_front-same.result in
    let all : same ≡ c.len-width.result - start = omega (arith, c.if-same-width.false, said.most) in
    let right = stands-right xs ys c.args.cut c.requires.cut place c.args.known start same is_start c.requires.known said.same in
    let stands : (k : ℕ) → critical ≤ k → k < length ys → number_at xs (place + k) ≡ number_at ys k = λ k low high. right k low (omega (arith, high, all, width, fits)) in
    let low = c.min-low.result in
    let is_low = c.min-low.ensures in
    let left = c.common_front-left.result in
    let before = compared xs ys (place + low) low (critical - low) left (omega (arith, is_low, below, c.requires.inside)) (omega (arith, is_low, below)) c.common_front-left.ensures in
    same_test (left == critical - low) (stand_at xs ys place)
    (λ e. let whole = eqb-true left (critical - low) e in
    stand-from xs ys place c.requires.inside
    (stands-all xs ys c.args.cut c.requires.cut place c.args.known low is_low c.requires.known (λ k fewer. before.same k (omega (arith, fewer, whole))) stands))
    (λ occurs. eq-eqb left (critical - low) (elim (cases_lt left (critical - low)) [
      | inl short ↦
          let together : place + (low + left) ≡ place + low + left = omega arith in
          absurd (before.differs short (ap (number_at xs) (sym together) ∙ (stand-reads xs ys place occurs).1 (low + left) (omega (arith, short, below))))
      | inr long ↦ let most = before.most in omega (arith, most, long)
    ]))
