use Rattle.std.proofs.Common.{◌≡◌, take, true}
use Rattle.std.specs.List.{list_all}
use Rattle.nfg_decode.specs.Encoding.{has_code}
use Rattle.nfg_work.proofs.put.lacks.Given as goal

abbrev pub invariant-loop-code : goal.invariant-loop-code
invariant-loop-code l = list_all (has_code l.e) (take l.code-index l.cluster) ≡ true
