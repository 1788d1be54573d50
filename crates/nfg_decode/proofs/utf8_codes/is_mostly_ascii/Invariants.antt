use Rattle.std.proofs.Common.{◌≤◌}
use Rattle.nfg_decode.proofs.utf8_codes.is_mostly_ascii.Given as goal

abbrev pub invariant-loop-at : goal.invariant-loop-at
invariant-loop-at l = l.ascii ≤ l.at
