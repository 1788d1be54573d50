use Rattle.nfg_syn.proofs.TextListLemmas.{IsLeft, left_of}
use Rattle.nfg_syn.proofs.text_list.TextList.find.Given as goal

abbrev pub invariant-loop-next : goal.invariant-loop-next
invariant-loop-next l = IsLeft l.self-inside.hashes l.self l.text l.next

abbrev pub decreases-loop-next : goal.decreases-loop-next
decreases-loop-next l = left_of l.next
