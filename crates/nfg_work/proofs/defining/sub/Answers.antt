use Rattle.std.proofs.Common.{ap, sym, refl, ◌∙◌, slice_index_or}
use Rattle.nfg_work.specs.Evaluation.{value_of}
use Rattle.nfg_work.proofs.Parts.{named, part_over, part_does, part_stopped}
use Rattle.nfg_work.proofs.defining.sub.Goals as goal

pub returns-in-Err : goal.returns-in-Err
returns-in-Err c = λ size known places reads state knows h already.
    let nothing = c.empty-nothing.result in
    let string = c.string_of_name-string.result.now in
    let value = value_of state c.args.a in
    let is = named known reads c.args.held.now state c.args.a nothing string h c.empty-nothing.ensures.graphemes c.empty-nothing.ensures.pieces
    (c.string_of_name-string.ensures ∙ ap (λ v. slice_index_or v c.args.a nothing) c.deref.ensures.value) in
    part_stopped known reads c.args.held.now state string value c.args.start c.args.count c.in-Err.stop is (c.in-Err.ensures size known places value knows is already)

pub returns-then-is_over : goal.returns-then-is_over
returns-then-is_over c = λ size known places reads state knows h already.
    let nothing = c.empty-nothing.result in
    let string = c.string_of_name-string.result.now in
    let value = value_of state c.args.a in
    let is = named known reads c.args.held.now state c.args.a nothing string h c.empty-nothing.ensures.graphemes c.empty-nothing.ensures.pieces
    (c.string_of_name-string.ensures ∙ ap (λ v. slice_index_or v c.args.a nothing) c.deref.ensures.value) in
    let part = c.in-Ok.ensures size known places value knows is already in (
      part_over c.len-cost.result known reads c.args.held.now state string c.in-Ok.part value c.args.start c.args.count h is part.0 part.1
          c.len-cost.ensures.len (sym c.if-is_over.ensures),
      refl,
    )

pub returns : goal.returns
returns c = λ size known places reads state knows h already.
    let nothing = c.empty-nothing.result in
    let string = c.string_of_name-string.result.now in
    let value = value_of state c.args.a in
    let is = named known reads c.args.held.now state c.args.a nothing string h c.empty-nothing.ensures.graphemes c.empty-nothing.ensures.pieces
    (c.string_of_name-string.ensures ∙ ap (λ v. slice_index_or v c.args.a nothing) c.deref.ensures.value) in
    let part = c.in-Ok.ensures size known places value knows is already in
    part_does c.len-cost.result known reads c.args.held.now c.define.new.held state string c.in-Ok.part value c.args.start c.args.count c.define.result
    h is part.0 part.1 c.len-cost.ensures.len (sym c.if-is_over.ensures) c.define.ensures.defined c.define.ensures.refused
