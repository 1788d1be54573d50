use Rattle.std.proofs.Common.{◌<◌, length, arith, ◌∙◌, ap}
use Rattle.nfg_work.specs.Levels.{command_level}
use Rattle.nfg_work.proofs.Leveled.{leveled_next}
use Rattle.nfg_work.proofs.level.levels.Goals as goal

pub leveling-preserved : goal.leveling-preserved
leveling-preserved c =
    let within : c.leveling.k < length c.args.script.now = omega (arith, c.leveling-test.true, c.len-k-end.ensures) in
    leveled_next c.args.script.now c.leveling.k c.in_ok-level.level c.leveling.list c.leveling.names c.append.new.self c.add_name.new.names c.command-command.result within
    c.command-command.ensures (c.in_ok-level.ensures ∙ ap (λ names. command_level names c.command-command.result) c.as_slice.ensures)
    c.in_ok-append.ensures.ok c.in_ok-add_name.ensures c.leveling.invariant
