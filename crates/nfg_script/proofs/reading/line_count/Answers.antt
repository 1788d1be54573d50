use Rattle.std.proofs.Common.{◌≡◌, ◌==◌, false, true, sym, arith}
use Rattle.std.proofs.lemmas.Bool.Decides.{nat_tests}
use Rattle.nfg_script.proofs.Lines.{lines-none, lines-counted}
use Rattle.nfg_script.proofs.reading.line_count.Goals as goal

pub returns-in-None : goal.returns-in-None
returns-in-None c = lines-none c.args.bytes.now (sym c.in-None.ensures.value)

pub returns-in-Some-eq10 : goal.returns-in-Some-eq10
returns-in-Some-eq10 c =
    let feed : (c.in-Some-eq10.field-0.now == 10) ≡ true = grind (arith, nat_tests) in
    let counted = lines-counted c.args.bytes.now c.in-Some-eq10.field-0.now (sym c.in-Some-eq10.ensures.value) in
    let lines = rw feed at counted in
    omega (arith, lines)

pub returns-in-Some : goal.returns-in-Some
returns-in-Some c =
    let other = c.in-Some.field-0-test.1 in
    let open_end : (c.in-Some.field-0.now == 10) ≡ false = grind (arith, nat_tests) in
    let counted = lines-counted c.args.bytes.now c.in-Some.field-0.now (sym c.in-Some.ensures.value) in
    let lines = rw open_end at counted in
    omega (arith, lines)
