use Rattle.std.proofs.Common.{◌≡◌, ◌≤◌, ◌∙◌, ◌++◌, ◌∷◌, [], refl, ap, map, length, arith}
use Rattle.std.proofs.lemmas.List.{map-append, length-map, length-append}
use Rattle.nfg_script.specs.Answer.{numbered_command}
use Rattle.nfg_script.specs.Script.{is_load}
use Rattle.nfg_script.proofs.Loads.{loads-push, loads-le, one_at_most}
use Rattle.nfg_script.proofs.script.Script.push.Goals as goal

pub overflow_add-self : goal.overflow_add-self
overflow_add-self c =
    let lines = c.self.inside.lines.items in
    let few = loads-le (map numbered_command lines) in
    let len = length-map lines numbered_command in
    let one : c.loads-loads.result ≤ 1 = rw c.loads-loads.ensures (one_at_most (is_load c.args.line.command)) in
    let grown = ap length c.in_ok-push.ensures.items in
    let sum = length-append lines (c.args.line ∷ []) in
    let kept = c.push.new.self.ok in
    let small = c.push.new.self.small in
    omega (arith, c.self.invariant)

pub invariant_of-self-2 : goal.invariant_of-self-2
invariant_of-self-2 c =
    let lines = c.self.inside.lines.items in
    let more = loads-push (map numbered_command lines) (numbered_command c.args.line) in
    let items : map numbered_command c.push.new.self.items ≡ map numbered_command lines ++ numbered_command c.args.line ∷ [] =
    ap (map numbered_command) c.in_ok-push.ensures.items ∙ map-append numbered_command lines (c.args.line ∷ []) in
    rw (items, more, c.loads-loads.ensures, c.self.invariant) refl
