use Rattle.std.proofs.Common.{◌≡◌, take, map}
use Rattle.nfg_stream.specs.Numbers.{with_number}
use Rattle.nfg_stream.proofs.numbering.copy_with.Given as goal

abbrev pub invariant-numbers : goal.invariant-numbers
invariant-numbers l = take l.k l.into ≡ map (with_number l.number) (take l.k l.numbers)
