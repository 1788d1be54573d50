use Rattle.std.proofs.Common.{◌≡◌, nat_lt, take}
use Rattle.std.specs.List.{list_all}
use Rattle.nfg_stream.specs.Numbers.{is_ascii}
use Rattle.nfg_stream.proofs.numbers.are_ascii.Given as goal

abbrev pub invariant-codes : goal.invariant-codes
invariant-codes l = nat_lt l.greatest 128 ≡ list_all is_ascii (take l.code-index l.codes)
