use Rattle.std.proofs.Common.{arith}
use Rattle.std.proofs.lemmas.Str.Pattern.{strip_suffix_char}
use Rattle.nfg_script.proofs.Lines.{strip-none}
use Rattle.nfg_script.proofs.reading.without_carriage_return.Goals as goal

pub returns-in-None : goal.returns-in-None
returns-in-None c =
    let none = strip_suffix_char 13 c.args.line.now c.strip_suffix.result c.strip_suffix.ensures.cases (omega arith) in
    strip-none c.args.line.now (rw c.in-None.is at none)
