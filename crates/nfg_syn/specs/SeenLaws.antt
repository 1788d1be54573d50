-- Laws of what calls keep of a pass: one call after another.
use Rattle.std.proofs.Common.{refl, ◌∙◌}
use Rattle.nfg_syn.specs.Seen.{Seen, Keeps, SameCounts}

pub Keeps-refl : (p : Seen) → Keeps p p
Keeps-refl p = record {
  known = λ k t e. e;
  places = λ k t e. e;
  root = refl;
  full = λ t full. full;
  drained = λ drained. drained;
}

pub Keeps-trans : (p q r : Seen) → Keeps p q → Keeps q r → Keeps p r
Keeps-trans p q r first second = record {
  known = λ k t e. second.known k t (first.known k t e);
  places = λ k t e. second.places k t (first.places k t e);
  root = second.root ∙ first.root;
  full = λ t full. second.full t (first.full t full);
  drained = λ drained. second.drained (first.drained drained);
}

pub SameCounts-refl : (p : Seen) → SameCounts p p
SameCounts-refl p = record { forks = refl; meets = refl }

pub SameCounts-trans : (p q r : Seen) → SameCounts p q → SameCounts q r → SameCounts p r
SameCounts-trans p q r first second = record { forks = second.forks ∙ first.forks; meets = second.meets ∙ first.meets }
