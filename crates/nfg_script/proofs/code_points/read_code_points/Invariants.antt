use Rattle.std.proofs.Common.{◌≡◌, drop}
use Rattle.nfg_script.specs.Answer.{texts}
use Rattle.nfg_script.specs.Words.{code_points_of}
use Rattle.nfg_script.proofs.CodePoints.{after_codes}
use Rattle.nfg_script.proofs.code_points.read_code_points.Given as goal

abbrev pub invariant-loop-word : goal.invariant-loop-word
invariant-loop-word l =
    after_codes l.codes.items (code_points_of (texts (drop l.word-index l.words))) ≡ code_points_of (texts l.words)
