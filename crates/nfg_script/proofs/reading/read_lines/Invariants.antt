use Rattle.std.proofs.Common.{◌≡◌, ◌≤◌, ◌+◌, [], drop, map, length}
use Rattle.std.specs.Str.Lines.{strip_carriage_return}
use Rattle.nfg_script.specs.Answer.{texts, so_far}
use Rattle.nfg_script.specs.Grammar.{commands_from}
use Rattle.nfg_script.proofs.reading.read_lines.Given as goal

abbrev pub invariant-loop-k : goal.invariant-loop-k
invariant-loop-k l = record {
  read : commands_from (so_far l.names l.script) (l.k + 1) (map strip_carriage_return (texts (drop l.k l.lines)))
      ≡ commands_from (so_far [] []) 1 (map strip_carriage_return (texts l.lines));
  few : length l.names ≤ l.k;
}
