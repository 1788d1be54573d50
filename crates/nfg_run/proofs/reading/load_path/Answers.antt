use Rattle.std.proofs.Common.{false, true, ◌≡◌, ◌+◌, suc, arith}
use Rattle.nfg_script.specs.Script.{is_load}
use Rattle.nfg_run.proofs.Loads.{load_paths-at_load, load_paths-at_other}
use Rattle.nfg_run.proofs.reading.load_path.Goals as goal

pub returns-then-not-is_load : goal.returns-then-not-is_load
returns-then-not-is_load c =
    let next : c.args.k + 1 ≡ suc c.args.k = omega arith in
    let other : is_load c.command.result ≡ false = grind (arith, c.if-not-is_load.true, c.is_load.ensures) in
    rw next (load_paths-at_other c.args.script.now c.args.k c.command.result c.requires c.command.ensures other)

pub returns : goal.returns
returns c =
    let next : c.args.k + 1 ≡ suc c.args.k = omega arith in
    let load : is_load c.command.result ≡ true = grind (arith, c.if-not-is_load.false, c.is_load.ensures) in
    rw next (load_paths-at_load c.args.script.now c.args.k c.command.result c.path.result.now c.requires c.command.ensures load c.path.ensures)
