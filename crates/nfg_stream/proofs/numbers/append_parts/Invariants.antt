use Rattle.std.proofs.Common.{◌≡◌, ◌++◌, ℕ, List, length, map, pos}
use Rattle.nfg_text.specs.Text.{IsText}
use Rattle.nfg_stream.proofs.numbers.append_parts.Given as goal

abbrev pub invariant-parts : goal.invariant-parts
invariant-parts l = record {
  front : List ℕ;
  joined : front ++ l.rest ≡ l.run;
  appended : l.numbers.items ≡ l.initial.numbers.items ++ map (λ c. pos c) front;
  text : IsText l.rest;
  room : length l.scratch ≡ 256;
}

abbrev pub decreases-parts : goal.decreases-parts
decreases-parts l = length l.rest
