use Rattle.std.proofs.Common.{ap, refl, sym, ◌+◌, ◌∙◌, slice_index_or, Some, Ok, Err}
use Rattle.nfg_work.specs.declared.stop.Stop.TheVariants.{Refused}
use Rattle.nfg_work.specs.Evaluation.{value_of}
use Rattle.nfg_work.specs.Values.{joined}
use Rattle.nfg_work.specs.Making.{cat_wanted}
use Rattle.nfg_work.specs.Reach.{cat_value}
use Rattle.nfg_work.proofs.Brought.{defined_brings, limit_brings, made_grows, made_until, cat_is_wanted}
use Rattle.nfg_work.proofs.JoinedValues.{limit_follows, joined_follows, joined_stopped_follows, cat_counted, cat_step}
use Rattle.nfg_work.proofs.Parts.{named, named_graphemes}
use Rattle.nfg_work.proofs.joining.cat.Goals as goal

pub both_given-requires-clause-left : goal.both_given-requires-clause-left
both_given-requires-clause-left g c κs within =
    let held = c.requires.held in
    let nothing = c.empty-nothing.result in
    named_graphemes (g.T.Synthetics.seen c.args.pass.now).known held.0 c.args.held.now c.args.a nothing c.string_of_name-left.result.now held.1 c.empty-nothing.ensures.graphemes c.empty-nothing.ensures.pieces
    (c.string_of_name-left.ensures ∙ ap (λ v. slice_index_or v c.args.a nothing) c.deref.ensures.value)

pub both_given-requires-clause-right : goal.both_given-requires-clause-right
both_given-requires-clause-right g c κs within =
    let held = c.requires.held in
    let nothing = c.empty-nothing.result in
    named_graphemes (g.T.Synthetics.seen c.args.pass.now).known held.0 c.args.held.now c.args.b nothing c.string_of_name-right.result.now held.1 c.empty-nothing.ensures.graphemes c.empty-nothing.ensures.pieces
    (c.string_of_name-right.ensures ∙ ap (λ v. slice_index_or v c.args.b nothing) c.deref-2.ensures.value)

pub returns-in-Some-clause-joined : goal.returns-in-Some-clause-joined
returns-in-Some-clause-joined g c = λ reads state h already.
    let pass = g.T.Synthetics.seen c.args.pass.now in
    let after = pass in
    let places = g.T.Synthetics.size c.args.table.now in
    let nothing = c.empty-nothing.result in
    let left = named pass.known reads c.args.held.now state c.args.a nothing c.string_of_name-left.result.now h c.empty-nothing.ensures.graphemes c.empty-nothing.ensures.pieces
    (c.string_of_name-left.ensures ∙ ap (λ v. slice_index_or v c.args.a nothing) c.deref.ensures.value) in
    let right = named pass.known reads c.args.held.now state c.args.b nothing c.string_of_name-right.result.now h c.empty-nothing.ensures.graphemes c.empty-nothing.ensures.pieces
    (c.string_of_name-right.ensures ∙ ap (λ v. slice_index_or v c.args.b nothing) c.deref-2.ensures.value) in
    let value = joined (value_of state c.args.a) (value_of state c.args.b) in
    cat_step pass.known c.string_of_name-left.result.now c.string_of_name-right.result.now (value_of state c.args.a) (value_of state c.args.b) c.len.result c.len-2.result
    places pass after reads c.args.held.now c.args.held.now state (Err (Refused c.in-Some.cause)) left right c.len.ensures.len c.len-2.ensures.len
    (limit_follows places (c.len.result + c.len-2.result) pass after reads c.args.held.now c.args.held.now value state c.in-Some.cause h (sym c.in-Some.ensures) refl)

pub returns-in-Ok-clause-joined : goal.returns-in-Ok-clause-joined
returns-in-Ok-clause-joined g c = λ reads state h already.
    let pass = g.T.Synthetics.seen c.args.pass.now in
    let after = g.T.Synthetics.seen c.both_given.new.pass in
    let places = g.T.Synthetics.size c.args.table.now in
    let nothing = c.empty-nothing.result in
    let left = named pass.known reads c.args.held.now state c.args.a nothing c.string_of_name-left.result.now h c.empty-nothing.ensures.graphemes c.empty-nothing.ensures.pieces
    (c.string_of_name-left.ensures ∙ ap (λ v. slice_index_or v c.args.a nothing) c.deref.ensures.value) in
    let right = named pass.known reads c.args.held.now state c.args.b nothing c.string_of_name-right.result.now h c.empty-nothing.ensures.graphemes c.empty-nothing.ensures.pieces
    (c.string_of_name-right.ensures ∙ ap (λ v. slice_index_or v c.args.b nothing) c.deref-2.ensures.value) in
    let a = value_of state c.args.a in
    let b = value_of state c.args.b in
    let made = cat_counted pass.known c.string_of_name-left.result.now c.string_of_name-right.result.now a b c.len.result c.len-2.result
    pass after (Ok c.in-Ok.string) left right c.len.ensures.len c.len-2.ensures.len (c.in-Ok.ensures.made a b left right already) in
    cat_step pass.known c.string_of_name-left.result.now c.string_of_name-right.result.now a b c.len.result c.len-2.result
    places pass after reads c.args.held.now c.define.new.held state c.define.result left right c.len.ensures.len c.len-2.ensures.len
    (joined_follows places (c.len.result + c.len-2.result) pass after reads c.args.held.now c.define.new.held c.in-Ok.string c.define.result (joined a b) state h
    (sym c.in_default.ensures) (g.met.T.Synthetics.knows c.args.table.now c.both_given.new.pass c.in-Ok.ensures.table) c.in-Ok.ensures.keeps made c.define.ensures.defined c.define.ensures.refused)

pub returns-clause-joined : goal.returns-clause-joined
returns-clause-joined g c = λ reads state h already.
    let pass = g.T.Synthetics.seen c.args.pass.now in
    let after = g.T.Synthetics.seen c.both_given.new.pass in
    let places = g.T.Synthetics.size c.args.table.now in
    let nothing = c.empty-nothing.result in
    let left = named pass.known reads c.args.held.now state c.args.a nothing c.string_of_name-left.result.now h c.empty-nothing.ensures.graphemes c.empty-nothing.ensures.pieces
    (c.string_of_name-left.ensures ∙ ap (λ v. slice_index_or v c.args.a nothing) c.deref.ensures.value) in
    let right = named pass.known reads c.args.held.now state c.args.b nothing c.string_of_name-right.result.now h c.empty-nothing.ensures.graphemes c.empty-nothing.ensures.pieces
    (c.string_of_name-right.ensures ∙ ap (λ v. slice_index_or v c.args.b nothing) c.deref-2.ensures.value) in
    let a = value_of state c.args.a in
    let b = value_of state c.args.b in
    let made = cat_counted pass.known c.string_of_name-left.result.now c.string_of_name-right.result.now a b c.len.result c.len-2.result
    pass after (Err c.in-Err.stop) left right c.len.ensures.len c.len-2.ensures.len (c.in-Err.ensures.made a b left right already) in
    cat_step pass.known c.string_of_name-left.result.now c.string_of_name-right.result.now a b c.len.result c.len-2.result
    places pass after reads c.args.held.now c.args.held.now state (Err c.in-Err.stop) left right c.len.ensures.len c.len-2.ensures.len
    (joined_stopped_follows places (c.len.result + c.len-2.result) pass after reads c.args.held.now c.args.held.now c.in-Err.stop (joined a b) state h
    (sym c.in_default.ensures) made refl)

pub returns-in-Some-clause-brings : goal.returns-in-Some-clause-brings
returns-in-Some-clause-brings g c = λ reads state h already.
    let a = value_of state c.args.a in
    let b = value_of state c.args.b in
    limit_brings (cat_value (Some a) (Some b)) (g.T.Synthetics.seen c.args.pass.now) c.args.held.now.spent (c.len.result + c.len-2.result) c.in-Some.cause (sym c.in-Some.ensures)

pub returns-in-Ok-clause-brings : goal.returns-in-Ok-clause-brings
returns-in-Ok-clause-brings g c = λ reads state h already.
    let pass = g.T.Synthetics.seen c.args.pass.now in
    let after = g.T.Synthetics.seen c.both_given.new.pass in
    let a = value_of state c.args.a in
    let b = value_of state c.args.b in
    let nothing = c.empty-nothing.result in
    let left = named pass.known reads c.args.held.now state c.args.a nothing c.string_of_name-left.result.now h c.empty-nothing.ensures.graphemes c.empty-nothing.ensures.pieces
    (c.string_of_name-left.ensures ∙ ap (λ v. slice_index_or v c.args.a nothing) c.deref.ensures.value) in
    let right = named pass.known reads c.args.held.now state c.args.b nothing c.string_of_name-right.result.now h c.empty-nothing.ensures.graphemes c.empty-nothing.ensures.pieces
    (c.string_of_name-right.ensures ∙ ap (λ v. slice_index_or v c.args.b nothing) c.deref-2.ensures.value) in
    defined_brings (cat_value (Some a) (Some b)) pass after c.define.result
    (made_grows (cat_value (Some a) (Some b)) (cat_wanted a b) pass after c.in-Ok.string (cat_is_wanted a b) (c.in-Ok.ensures.made a b left right already)) c.define.ensures.refused

pub returns-clause-brings : goal.returns-clause-brings
returns-clause-brings g c = λ reads state h already.
    let pass = g.T.Synthetics.seen c.args.pass.now in
    let after = g.T.Synthetics.seen c.both_given.new.pass in
    let a = value_of state c.args.a in
    let b = value_of state c.args.b in
    let nothing = c.empty-nothing.result in
    let left = named pass.known reads c.args.held.now state c.args.a nothing c.string_of_name-left.result.now h c.empty-nothing.ensures.graphemes c.empty-nothing.ensures.pieces
    (c.string_of_name-left.ensures ∙ ap (λ v. slice_index_or v c.args.a nothing) c.deref.ensures.value) in
    let right = named pass.known reads c.args.held.now state c.args.b nothing c.string_of_name-right.result.now h c.empty-nothing.ensures.graphemes c.empty-nothing.ensures.pieces
    (c.string_of_name-right.ensures ∙ ap (λ v. slice_index_or v c.args.b nothing) c.deref-2.ensures.value) in
    made_until (cat_value (Some a) (Some b)) (cat_wanted a b) pass after c.in-Err.stop (cat_is_wanted a b) (c.in-Err.ensures.made a b left right already)
