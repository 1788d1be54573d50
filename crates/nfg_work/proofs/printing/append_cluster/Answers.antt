use Rattle.std.proofs.Common.{rules}
use Rattle.nfg_work.proofs.Joined.{shown-last}
use Rattle.nfg_work.proofs.printing.append_cluster.Goals as goal

pub returns : goal.returns
returns c = shown-last c.args.cluster.now c.showing.k c.args.output.now c.showing.output c.append_number-2.new.output c.append_number-2.result c.showing.invariant
    (search rules) (search rules) c.append_number-2.ensures
