use Rattle.std.proofs.Common.{◌≡◌, ◌≢◌, ◌∙◌, ◌+◌, ◌∷◌, [], Err, ap, sym, drop, map, arith}
use Rattle.std.specs.Str.Lines.{strip_carriage_return}
use Rattle.std.proofs.lemmas.List.{drop_all}
use Rattle.std.proofs.lemmas.Result.{err_from_is_err_and}
use Rattle.nfg_script.specs.declared.error.ScriptError.TheVariants.{OutOfMemory as NoMemory}
use Rattle.nfg_script.specs.Answer.{texts, so_far}
use Rattle.nfg_script.specs.Grammar.{commands_from}
use Rattle.nfg_script.proofs.LinesRead.{commands_from-next, commands_from-err, commands_from-end}
use Rattle.nfg_script.proofs.Texts.{texts-drop}
use Rattle.nfg_script.proofs.reading.read_lines.Goals as goal

pub loop-k-preserved : goal.loop-k-preserved
loop-k-preserved c =
    let k = c.loop-k.k in
    let old = so_far c.loop-k.names c.loop-k.script in
    let line = c.without_carriage_return-line.result.now in
    let rest = map strip_carriage_return (texts (drop (k + 1) c.args.lines.now)) in
    let cut : map strip_carriage_return (texts (drop k c.args.lines.now)) ≡ line ∷ rest =
    ap (map strip_carriage_return) (texts-drop c.args.lines.now k _ (omega arith)) ∙ ap (λ v. v ∷ rest) (sym c.without_carriage_return-line.ensures) in
    record {
      read = sym (commands_from-next old _ (k + 1) line rest c.in_ok-read_line.ensures.read)
          ∙ ap (commands_from old (k + 1)) (sym cut) ∙ c.loop-k.invariant.read;
      few = omega (arith, c.in_ok-read_line.ensures.grown, c.loop-k.invariant.few);
    }

pub returns-in_err-read_line : goal.returns-in_err-read_line
returns-in_err-read_line c =
    let k = c.loop-k.k in
    let old = so_far c.loop-k.names c.loop-k.script in
    let line = c.without_carriage_return-line.result.now in
    let rest = map strip_carriage_return (texts (drop (k + 1) c.args.lines.now)) in
    let cut : map strip_carriage_return (texts (drop k c.args.lines.now)) ≡ line ∷ rest =
    ap (map strip_carriage_return) (texts-drop c.args.lines.now k _ (omega arith)) ∙ ap (λ v. v ∷ rest) (sym c.without_carriage_return-line.ensures) in
    let error = c.in_err-read_line.field-0.0 in
    let refused : error ≢ NoMemory → commands_from (so_far [] []) 1 (map strip_carriage_return (texts c.args.lines.now)) ≡ Err error =
    (λ (other : error ≢ NoMemory).
    sym c.loop-k.invariant.read ∙ ap (commands_from old (k + 1)) cut
    ∙ commands_from-err old (k + 1) line rest error (c.in_err-read_line.ensures.refused other)) in
    let left = err_from_is_err_and c.from_residual.result c.from_residual.ensures.1 in
    rw (left.1, left.2) refused

pub returns : goal.returns
returns c =
    let done : drop c.loop-k.k c.args.lines.now ≡ [] = drop_all c.loop-k.k c.args.lines.now (omega arith) in
    sym c.loop-k.invariant.read
    ∙ ap (λ v. commands_from (so_far c.loop-k.names c.loop-k.script) (c.loop-k.k + 1) (map strip_carriage_return (texts v))) done
    ∙ commands_from-end (so_far c.loop-k.names c.loop-k.script) (c.loop-k.k + 1)
