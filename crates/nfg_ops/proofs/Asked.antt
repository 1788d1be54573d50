-- Calls that only ask a table, one after another.
use Rattle.nfg_syn.specs.Known.{IsSame}
use Rattle.nfg_syn.specs.LearnedLaws.{IsSame-refl, IsSame-trans}
use Rattle.nfg_syn.specs.Seen.{Seen, Keeps, SameCounts}
use Rattle.nfg_syn.specs.SeenLaws.{Keeps-refl, Keeps-trans, SameCounts-refl, SameCounts-trans}
use Rattle.nfg_ops.specs.Reads.{HasAsked}

pub asked-none : (p : Seen) → HasAsked p p
asked-none p = record { kept = Keeps-refl p; counts = SameCounts-refl p; known = IsSame-refl p.known }

pub asked-again : (p q r : Seen) → HasAsked p q → Keeps q r → SameCounts q r → IsSame q.known r.known → HasAsked p r
asked-again p q r so_far kept counts known = record {
  kept = Keeps-trans p q r so_far.kept kept;
  counts = SameCounts-trans p q r so_far.counts counts;
  known = IsSame-trans p.known q.known r.known so_far.known known;
}

pub asked-both : (p q r : Seen) → HasAsked p q → HasAsked q r → HasAsked p r
asked-both p q r first second = asked-again p q r first second.kept second.counts second.known
