use Rattle.std.proofs.Common.{rules}
use Rattle.std.specs.FinSet.{members}
use Rattle.nfg_io.proofs.calls.Calls.new.Goals as goal

pub invariant_of-result : goal.invariant_of-result
invariant_of-result c = grind (members, rules, c.new.ensures.empty)
