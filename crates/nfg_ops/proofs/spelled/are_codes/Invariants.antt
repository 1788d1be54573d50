use Rattle.std.proofs.Common.{◌≡◌, take, pos}
use Rattle.std.specs.List.{list_all}
use lib.Signed.{le_z}
use Rattle.nfg_ops.specs.Reads.{is_code}
use Rattle.nfg_ops.proofs.spelled.are_codes.Given as goal

-- the least number so far is 0 exactly where all are code points
abbrev pub invariant-loop-number : goal.invariant-loop-number
invariant-loop-number l = le_z (pos 0) l.least ≡ list_all is_code (take l.number-index l.numbers)
