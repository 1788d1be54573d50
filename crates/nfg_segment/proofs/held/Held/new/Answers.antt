use Rattle.std.proofs.Common.{ap}
use Rattle.nfg_segment.proofs.Steps.{follows-new}
use Rattle.nfg_segment.proofs.held.Held.new.Goals as goal

pub returns : goal.returns
returns c = follows-new c.new.result.now c.new-2.result.current c.new.ensures (ap (λ d. d.current) c.new-2.ensures)
