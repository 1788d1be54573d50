use Rattle.std.proofs.Common.{List, length}
use Rattle.nfg_syn.specs.Known.{Texts}
use Rattle.nfg_script.specs.Script.{NumberedCommand}
use Rattle.nfg_work.specs.declared.output.FileRead.{FileRead}
use Rattle.nfg_work.specs.Outcomes.{AreRight}
use Rattle.nfg_work.specs.Workers.{AreGivenRight}
use Rattle.nfg_work.proofs.meeting.keep_all.Given as goal

abbrev pub invariant-keeping : goal.invariant-keeping
invariant-keeping l =
    (known : Texts) (script : List NumberedCommand) (reads : List FileRead)
    → AreRight known script reads l.fn.outcomes → AreGivenRight known script reads l.fn.given.items
    → AreRight known script reads l.outcomes × AreGivenRight known script reads l.given.items

abbrev pub decreases-keeping : goal.decreases-keeping
decreases-keeping l = length l.given.items
