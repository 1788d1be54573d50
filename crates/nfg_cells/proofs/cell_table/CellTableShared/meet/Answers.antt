use Rattle.std.proofs.Common.{length, ap, ◌∙◌, rules, arith}
use Rattle.std.proofs.lemmas.List.{with_items_is}
use Rattle.std.specs.Vec.{with_items}
use Rattle.nfg_cells.proofs.PassLemmas.{HasJoined, HasJoined-as, IsCellPass-joined, Keeps-joined, Meets-joined}
use Rattle.nfg_cells.proofs.cell_table.CellTableShared.meet.Goals as goal

-- what the two passes have become
joined : (c : goal.After-drop-notes) → HasJoined c.args.self.now c.args.into.now.notes c.args.from.notes (with_items c.into.inside.notes c.join_all.new.into).items
joined c =
    let of_into = c.as_mut_slice.ensures.value ∙ ap (λ pass. pass.notes) c.into.view_is in
    let of_from = c.as_mut_slice-2.ensures.value ∙ ap (λ pass. pass.notes) c.from.view_is in
    let of_table = c.as_slice.ensures.value ∙ c.self.view_is in
    let cells = ap length of_table in let notes = ap length of_into in let len = c.as_mut_slice.ensures.len in
    let before = c.requires.into_table.notes.as_many in let after = c.join_all.ensures.notes.as_many in
    HasJoined-as _ _ _ _ _ _ _ _ of_table of_into of_from (with_items_is c.into.inside.notes c.join_all.new.into (omega arith))
    (record { notes = c.join_all.ensures.notes; marked = c.join_all.ensures.marked; places = c.join_all.ensures.places; named = c.join_all.ensures.named })

pub returns-clause-table : goal.returns-clause-table
returns-clause-table c = IsCellPass-joined c.args.self.now c.args.into.now c.args.from _ c.requires.into_table c.requires.from_table (joined c)

pub returns-clause-keeps : goal.returns-clause-keeps
returns-clause-keeps c = Keeps-joined c.args.self.now c.args.into.now c.args.from _ c.requires.into_table c.requires.from_table (joined c) (ap (λ pass. pass.root) c.into.view_is)

pub returns-clause-met : goal.returns-clause-met
returns-clause-met c = Meets-joined c.args.self.now c.args.into.now c.args.from _ c.requires.into_table c.requires.from_table (joined c) (search rules)
