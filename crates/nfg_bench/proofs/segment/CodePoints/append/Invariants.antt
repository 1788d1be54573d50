use Rattle.std.proofs.Common.{◌≡◌, ◌++◌}
use Rattle.std.specs.Prelude.{IsUtf8, chars}
use Rattle.nfg_bench.proofs.segment.CodePoints.append.Given as goal

abbrev pub invariant-loop-c : goal.invariant-loop-c
invariant-loop-c l = record {
  utf8 : IsUtf8 l.c-iterator.rest.now;
  codes : l.self ++ chars l.c-iterator.rest.now ≡ l.initial.self ++ chars l.part;
}
