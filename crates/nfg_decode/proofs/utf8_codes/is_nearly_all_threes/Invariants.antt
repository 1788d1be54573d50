use Rattle.std.proofs.Common.{◌≤◌}
use Rattle.nfg_decode.proofs.utf8_codes.is_nearly_all_threes.Given as goal

abbrev pub invariant-loop-at : goal.invariant-loop-at
invariant-loop-at l = l.leads ≤ l.at
