use Rattle.std.proofs.Common.{length, ap, ◌∙◌, arith}
use Rattle.std.proofs.lemmas.List.{with_items_is}
use Rattle.std.specs.Vec.{with_items}
use Rattle.nfg_cells.proofs.PassLemmas.{HasRead, HasRead-as, IsCellPass-read, Keeps-read}
use Rattle.nfg_cells.proofs.cell_table.CellTableSynthetics.code.Goals as goal

-- what the call has read
read : (c : goal.After-shared_slice_known-1) → HasRead c.args.self.now c.args.pass.now.notes (with_items c.pass.inside.notes c.text_at.new.notes).items
read c =
    let of_pass = c.as_mut_slice.ensures.value ∙ ap (λ pass. pass.notes) c.pass.view_is in
    let of_table = c.as_slice.ensures.value ∙ c.self.view_is in
    let cells = ap length of_table in let notes = ap length of_pass in let len = c.as_mut_slice.ensures.len in
    let before = c.requires.table.notes.as_many in let after = c.text_at.ensures.notes.as_many in
    HasRead-as _ _ _ _ _ _ of_table of_pass (with_items_is c.pass.inside.notes c.text_at.new.notes (omega arith))
    (record { notes = c.text_at.ensures.notes; places = c.text_at.ensures.places; marks = c.text_at.ensures.marks })

pub returns-else-n-eqminus1-clause-table : goal.returns-else-n-eqminus1-clause-table
returns-else-n-eqminus1-clause-table c = IsCellPass-read c.args.self.now c.args.pass.now _ c.requires.table (read c)

pub returns-else-n-eqminus1-clause-keeps : goal.returns-else-n-eqminus1-clause-keeps
returns-else-n-eqminus1-clause-keeps c = Keeps-read c.args.self.now c.args.pass.now _ c.requires.table (read c) (ap (λ pass. pass.root) c.pass.view_is)
