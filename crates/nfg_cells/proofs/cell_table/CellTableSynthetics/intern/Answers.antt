use Rattle.std.proofs.Common.{length, ap, ◌∙◌, arith}
use Rattle.std.proofs.lemmas.List.{with_items_is}
use Rattle.nfg_syn.specs.KnownLaws.{row_size_most}
use Rattle.nfg_cells.proofs.PassLemmas.{HasGrown-as, Keeps-grown}
use Rattle.nfg_cells.proofs.cell_table.CellTableSynthetics.intern.Goals as goal

pub find-requires-clause-few : goal.find-requires-clause-few
find-requires-clause-few c = let most = row_size_most _ c.self.invariant in let long = ap length c.as_slice-2.ensures.value in omega arith

pub number_of-requires : goal.number_of-requires
number_of-requires c = let most = row_size_most _ c.self.invariant in let long = ap length c.as_slice-2.ensures.value in let within = c.in-Ok.ensures.within in omega arith

pub returns-clause-keeps : goal.returns-clause-keeps
returns-clause-keeps c =
    let of_pass = c.as_mut_slice.ensures.value ∙ ap (λ pass. pass.notes) c.pass.view_is in
    let of_table = c.as_slice-2.ensures.value ∙ c.self.view_is in
    let cells = ap length of_table in let notes = ap length of_pass in let len = c.as_mut_slice.ensures.len in
    let before = c.requires.table.notes.as_many in let after = c.find.ensures.notes.as_many in
    Keeps-grown c.args.self.now c.args.pass.now _ c.requires.table
    (HasGrown-as _ _ _ _ _ _ of_table of_pass (with_items_is c.pass.inside.notes c.find.new.notes (omega arith))
    (record { notes = c.find.ensures.notes; known = c.find.ensures.known; places = c.find.ensures.places }))
    (ap (λ pass. pass.root) c.pass.view_is)
