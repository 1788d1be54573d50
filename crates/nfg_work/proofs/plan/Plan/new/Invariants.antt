use Rattle.nfg_work.proofs.PlanMade.{IsPlanned}
use Rattle.nfg_work.proofs.plan.Plan.new.Given as goal

abbrev pub invariant-planning : goal.invariant-planning
invariant-planning l = IsPlanned l.script l.k l.loads l.plan
