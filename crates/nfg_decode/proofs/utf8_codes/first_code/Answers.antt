use Rattle.std.proofs.Common.{◌≤◌, length, subst, sym, arith}
use Rattle.nfg_decode.specs.Utf8.{IsFirst}
use Rattle.nfg_decode.proofs.Utf8Sequences.{one_first, two_first, three_first, four_first}
use Rattle.nfg_decode.proofs.utf8_codes.first_code.Goals as goal

pub bounds-text-1 : goal.bounds-text-1
bounds-text-1 c =
    let t = c.args.text.now in
    let s = three_first t c.requires.text c.requires.some (omega (arith, c.if-leads_three.ensures)) (omega (arith, c.if-leads_three.ensures)) in
    let within : 3 ≤ length t = s.first.within in
    omega arith

pub bounds-text-2 : goal.bounds-text-2
bounds-text-2 c =
    let t = c.args.text.now in
    let s = three_first t c.requires.text c.requires.some (omega (arith, c.if-leads_three.ensures)) (omega (arith, c.if-leads_three.ensures)) in
    let within : 3 ≤ length t = s.first.within in
    omega arith

pub code_of_three-requires : goal.code_of_three-requires
code_of_three-requires c =
    let t = c.args.text.now in
    let s = three_first t c.requires.text c.requires.some (omega (arith, c.if-leads_three.ensures)) (omega (arith, c.if-leads_three.ensures)) in
    (s.least, s.second, s.third)

pub returns-then-leads_three-clause-first : goal.returns-then-leads_three-clause-first
returns-then-leads_three-clause-first c =
    let t = c.args.text.now in
    let s = three_first t c.requires.text c.requires.some (omega (arith, c.if-leads_three.ensures)) (omega (arith, c.if-leads_three.ensures)) in
    subst (IsFirst t 3) (sym c.code_of_three.ensures) s.first

pub returns-then-a-lt128-clause-first : goal.returns-then-a-lt128-clause-first
returns-then-a-lt128-clause-first c =
    let t = c.args.text.now in
    let s = one_first t c.requires.text c.requires.some (omega arith) in
    subst (IsFirst t 1) (sym c.from.ensures) s.first

pub bounds-text-1-then-a-lt224 : goal.bounds-text-1-then-a-lt224
bounds-text-1-then-a-lt224 c =
    let t = c.args.text.now in
    let s = two_first t c.requires.text c.requires.some (omega arith) (omega arith) in
    let within : 2 ≤ length t = s.first.within in
    omega arith

pub code_of_two-requires : goal.code_of_two-requires
code_of_two-requires c =
    let t = c.args.text.now in
    let s = two_first t c.requires.text c.requires.some (omega arith) (omega arith) in
    (s.least, s.second)

pub returns-then-a-lt224-clause-first : goal.returns-then-a-lt224-clause-first
returns-then-a-lt224-clause-first c =
    let t = c.args.text.now in
    let s = two_first t c.requires.text c.requires.some (omega arith) (omega arith) in
    subst (IsFirst t 2) (sym c.code_of_two.ensures) s.first

pub bounds-text-1-2 : goal.bounds-text-1-2
bounds-text-1-2 c =
    let t = c.args.text.now in
    let s = four_first t c.requires.text c.requires.some (omega (arith, c.if-leads_three.ensures)) in
    let within : 4 ≤ length t = s.first.within in
    omega arith

pub bounds-text-2-2 : goal.bounds-text-2-2
bounds-text-2-2 c =
    let t = c.args.text.now in
    let s = four_first t c.requires.text c.requires.some (omega (arith, c.if-leads_three.ensures)) in
    let within : 4 ≤ length t = s.first.within in
    omega arith

pub bounds-text-3 : goal.bounds-text-3
bounds-text-3 c =
    let t = c.args.text.now in
    let s = four_first t c.requires.text c.requires.some (omega (arith, c.if-leads_three.ensures)) in
    let within : 4 ≤ length t = s.first.within in
    omega arith

pub code_of_four-requires : goal.code_of_four-requires
code_of_four-requires c =
    let t = c.args.text.now in
    let s = four_first t c.requires.text c.requires.some (omega (arith, c.if-leads_three.ensures)) in
    (s.least, s.second, s.third, s.fourth)

pub returns-clause-first : goal.returns-clause-first
returns-clause-first c =
    let t = c.args.text.now in
    let s = four_first t c.requires.text c.requires.some (omega (arith, c.if-leads_three.ensures)) in
    subst (IsFirst t 4) (sym c.code_of_four.ensures) s.first
