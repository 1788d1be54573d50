use Rattle.std.proofs.Common.{arith}
use Rattle.std.proofs.lemmas.Grind.{common_steps}
use Rattle.nfg_script.proofs.Places.{place_of-nil}
use Rattle.nfg_script.proofs.names.Names.new.Goals as goal

pub invariant_of-result : goal.invariant_of-result
invariant_of-result c = λ word. let none = place_of-nil word in grind (arith, common_steps)
