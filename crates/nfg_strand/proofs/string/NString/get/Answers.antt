-- the first of what is left from the place on
use Rattle.std.proofs.Common.{drop, length, ap, sym, ◌∙◌, arith, rules, length-drop}
use Rattle.std.proofs.lemmas.Int.{to_z-of_z}
use Rattle.std.specs.Int.{w32}
use Rattle.std.specs.Prelude.{slice_get, Some}
use Rattle.nfg_strand.specs.Strand.{graphemes}
use Rattle.nfg_strand.proofs.Ranges.{slice_get_first}
use Rattle.nfg_strand.proofs.string.NString.get.Goals as goal

pub first-requires : goal.first-requires
first-requires c =
    let all = ap graphemes c.as_slice.ensures.value ∙ ap (λ s. s.graphemes) c.self.view_is in
    let left = ap length (c.from.ensures ∙ ap (drop c.args.k) all) in
    let len = length-drop c.args.k c.args.self.now.graphemes in
    omega arith

pub returns : goal.returns
returns c =
    let all = ap graphemes c.as_slice.ensures.value ∙ ap (λ s. s.graphemes) c.self.view_is in
    let left = c.from.ensures ∙ ap (drop c.args.k) all in
    sym (slice_get_first c.args.self.now.graphemes c.args.k)
    ∙ ap (λ xs. slice_get xs 0) (sym left)
    ∙ c.first.ensures
    ∙ ap Some (sym (to_z-of_z w32 c.first.result (search rules)))
