use Rattle.std.proofs.Common.{◌≡◌, ◌++◌, take}
use Rattle.nfg_text.specs.Text.{IsText}
use Rattle.nfg_text.proofs.normal.extend_codes.Given as goal

abbrev pub invariant-loop-c : goal.invariant-loop-c
invariant-loop-c l = record {
  codes : l.codes.items ≡ l.fn.codes.items ++ take l.c-index l.chars;
  text : IsText l.fn.codes.items → IsText l.codes.items;
}
