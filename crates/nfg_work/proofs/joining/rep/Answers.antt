use Rattle.std.proofs.Common.{ap, refl, sym, subst, ◌*◌, ◌^◌, ◌∙◌, ◌<◌, ◌≡◌, slice_index_or, Some, Ok, Err, inl, inr, arith}
use Rattle.std.proofs.lemmas.Bool.{cases_lt}
use Rattle.nfg_work.specs.declared.output.Cause.TheVariants.{StringTooLong}
use Rattle.nfg_work.specs.declared.stop.Stop.TheVariants.{Refused}
use Rattle.nfg_work.specs.Evaluation.{value_of, define_joined}
use Rattle.nfg_work.specs.Holding.{Follows, join_refusal}
use Rattle.nfg_work.specs.Values.{repeated}
use Rattle.nfg_work.specs.Making.{rep_wanted}
use Rattle.nfg_work.specs.Reach.{rep_value}
use Rattle.nfg_work.proofs.Brought.{defined_brings, refused_brings, limit_brings, made_grows, made_until, rep_is_wanted}
use Rattle.nfg_work.proofs.JoinedValues.{limit_follows, joined_follows, joined_stopped_follows, rep_counted, rep_step, many_too_long}
use Rattle.nfg_work.proofs.Parts.{named, named_graphemes}
use Rattle.nfg_work.proofs.joining.rep.Goals as goal

pub copies_given-requires-clause-graphemes : goal.copies_given-requires-clause-graphemes
copies_given-requires-clause-graphemes g c κs within =
    let held = c.requires.held in
    let nothing = c.empty-nothing.result in
    named_graphemes (g.T.Synthetics.seen c.args.pass.now).known held.0 c.args.held.now c.args.a nothing c.string_of_name-string.result.now held.1 c.empty-nothing.ensures.graphemes c.empty-nothing.ensures.pieces
    (c.string_of_name-string.ensures ∙ ap (λ v. slice_index_or v c.args.a nothing) c.deref.ensures.value)

pub returns-in-None-clause-joined : goal.returns-in-None-clause-joined
returns-in-None-clause-joined g c = λ reads state h already.
    let pass = g.T.Synthetics.seen c.args.pass.now in
    let after = pass in
    let places = g.T.Synthetics.size c.args.table.now in
    let nothing = c.empty-nothing.result in
    let string = named pass.known reads c.args.held.now state c.args.a nothing c.string_of_name-string.result.now h c.empty-nothing.ensures.graphemes c.empty-nothing.ensures.pieces
    (c.string_of_name-string.ensures ∙ ap (λ v. slice_index_or v c.args.a nothing) c.deref.ensures.value) in
    let value = value_of state c.args.a in
    let over : 67108864 < c.len.result * c.args.times = elim (cases_lt (c.len.result * c.args.times) (2 ^ 64)) [
      | inl less ↦ absurd (c.in-None.ensures less)
      | inr most ↦ omega (arith, most)
    ] in
    rep_step pass.known c.string_of_name-string.result.now value c.len.result c.args.times places pass after reads c.args.held.now c.args.held.now state (Err (Refused StringTooLong)) string c.len.ensures.len
    (limit_follows places (c.len.result * c.args.times) pass after reads c.args.held.now c.args.held.now (repeated value c.args.times) state StringTooLong h
    (many_too_long c.args.held.now.spent (c.len.result * c.args.times) over) refl)

pub returns-in-Some-join_refusal-clause-joined : goal.returns-in-Some-join_refusal-clause-joined
returns-in-Some-join_refusal-clause-joined g c = λ reads state h already.
    let pass = g.T.Synthetics.seen c.args.pass.now in
    let after = pass in
    let places = g.T.Synthetics.size c.args.table.now in
    let nothing = c.empty-nothing.result in
    let string = named pass.known reads c.args.held.now state c.args.a nothing c.string_of_name-string.result.now h c.empty-nothing.ensures.graphemes c.empty-nothing.ensures.pieces
    (c.string_of_name-string.ensures ∙ ap (λ v. slice_index_or v c.args.a nothing) c.deref.ensures.value) in
    let value = value_of state c.args.a in
    let count_is : c.in-Some.count ≡ c.len.result * c.args.times = c.in-Some.ensures.1 in
    let refusal : join_refusal c.args.held.now.spent (c.len.result * c.args.times) ≡ Some c.in-Some-join_refusal.cause =
    ap (join_refusal c.args.held.now.spent) (sym count_is) ∙ sym c.in-Some-join_refusal.ensures in
    rep_step pass.known c.string_of_name-string.result.now value c.len.result c.args.times places pass after reads c.args.held.now c.args.held.now state (Err (Refused c.in-Some-join_refusal.cause)) string c.len.ensures.len
    (limit_follows places (c.len.result * c.args.times) pass after reads c.args.held.now c.args.held.now (repeated value c.args.times) state c.in-Some-join_refusal.cause h refusal refl)

pub returns-in-Ok-clause-joined : goal.returns-in-Ok-clause-joined
returns-in-Ok-clause-joined g c = λ reads state h already.
    let pass = g.T.Synthetics.seen c.args.pass.now in
    let after = g.T.Synthetics.seen c.copies_given.new.pass in
    let places = g.T.Synthetics.size c.args.table.now in
    let nothing = c.empty-nothing.result in
    let string = named pass.known reads c.args.held.now state c.args.a nothing c.string_of_name-string.result.now h c.empty-nothing.ensures.graphemes c.empty-nothing.ensures.pieces
    (c.string_of_name-string.ensures ∙ ap (λ v. slice_index_or v c.args.a nothing) c.deref.ensures.value) in
    let value = value_of state c.args.a in
    let count_is : c.in-Some.count ≡ c.len.result * c.args.times = c.in-Some.ensures.1 in
    let made = rep_counted pass.known c.string_of_name-string.result.now value c.in-Some.count c.len.result c.args.times pass after (Ok c.in-Ok.string) string c.len.ensures.len count_is
    (c.in-Ok.ensures.made value string already) in
    rep_step pass.known c.string_of_name-string.result.now value c.len.result c.args.times places pass after reads c.args.held.now c.define.new.held state c.define.result string c.len.ensures.len
    (subst (λ count. Follows places pass after reads state.used c.args.held.now c.define.new.held c.define.result (define_joined places state count (repeated value c.args.times))) count_is
    (joined_follows places c.in-Some.count pass after reads c.args.held.now c.define.new.held c.in-Ok.string c.define.result (repeated value c.args.times) state h
    (sym c.in_default.ensures) (g.met.T.Synthetics.knows c.args.table.now c.copies_given.new.pass c.in-Ok.ensures.table) c.in-Ok.ensures.keeps made
    c.define.ensures.defined c.define.ensures.refused))

pub returns-clause-joined : goal.returns-clause-joined
returns-clause-joined g c = λ reads state h already.
    let pass = g.T.Synthetics.seen c.args.pass.now in
    let after = g.T.Synthetics.seen c.copies_given.new.pass in
    let places = g.T.Synthetics.size c.args.table.now in
    let nothing = c.empty-nothing.result in
    let string = named pass.known reads c.args.held.now state c.args.a nothing c.string_of_name-string.result.now h c.empty-nothing.ensures.graphemes c.empty-nothing.ensures.pieces
    (c.string_of_name-string.ensures ∙ ap (λ v. slice_index_or v c.args.a nothing) c.deref.ensures.value) in
    let value = value_of state c.args.a in
    let count_is : c.in-Some.count ≡ c.len.result * c.args.times = c.in-Some.ensures.1 in
    let made = rep_counted pass.known c.string_of_name-string.result.now value c.in-Some.count c.len.result c.args.times pass after (Err c.in-Err.stop) string c.len.ensures.len count_is
    (c.in-Err.ensures.made value string already) in
    rep_step pass.known c.string_of_name-string.result.now value c.len.result c.args.times places pass after reads c.args.held.now c.args.held.now state (Err c.in-Err.stop) string c.len.ensures.len
    (subst (λ count. Follows places pass after reads state.used c.args.held.now c.args.held.now (Err c.in-Err.stop) (define_joined places state count (repeated value c.args.times))) count_is
    (joined_stopped_follows places c.in-Some.count pass after reads c.args.held.now c.args.held.now c.in-Err.stop (repeated value c.args.times) state h
    (sym c.in_default.ensures) made refl))

pub returns-in-None-clause-brings : goal.returns-in-None-clause-brings
returns-in-None-clause-brings g c = λ reads state h already.
    refused_brings (rep_value (Some (value_of state c.args.a)) c.args.times) (g.T.Synthetics.seen c.args.pass.now) StringTooLong (λ same. cc)

pub returns-in-Some-join_refusal-clause-brings : goal.returns-in-Some-join_refusal-clause-brings
returns-in-Some-join_refusal-clause-brings g c = λ reads state h already.
    limit_brings (rep_value (Some (value_of state c.args.a)) c.args.times) (g.T.Synthetics.seen c.args.pass.now) c.args.held.now.spent c.in-Some.count c.in-Some-join_refusal.cause
    (sym c.in-Some-join_refusal.ensures)

pub returns-in-Ok-clause-brings : goal.returns-in-Ok-clause-brings
returns-in-Ok-clause-brings g c = λ reads state h already.
    let pass = g.T.Synthetics.seen c.args.pass.now in
    let after = g.T.Synthetics.seen c.copies_given.new.pass in
    let a = value_of state c.args.a in
    let nothing = c.empty-nothing.result in
    let string = named pass.known reads c.args.held.now state c.args.a nothing c.string_of_name-string.result.now h c.empty-nothing.ensures.graphemes c.empty-nothing.ensures.pieces
    (c.string_of_name-string.ensures ∙ ap (λ v. slice_index_or v c.args.a nothing) c.deref.ensures.value) in
    defined_brings (rep_value (Some a) c.args.times) pass after c.define.result
    (made_grows (rep_value (Some a) c.args.times) (rep_wanted a c.args.times) pass after c.in-Ok.string (rep_is_wanted a c.args.times) (c.in-Ok.ensures.made a string already)) c.define.ensures.refused

pub returns-clause-brings : goal.returns-clause-brings
returns-clause-brings g c = λ reads state h already.
    let pass = g.T.Synthetics.seen c.args.pass.now in
    let after = g.T.Synthetics.seen c.copies_given.new.pass in
    let a = value_of state c.args.a in
    let nothing = c.empty-nothing.result in
    let string = named pass.known reads c.args.held.now state c.args.a nothing c.string_of_name-string.result.now h c.empty-nothing.ensures.graphemes c.empty-nothing.ensures.pieces
    (c.string_of_name-string.ensures ∙ ap (λ v. slice_index_or v c.args.a nothing) c.deref.ensures.value) in
    made_until (rep_value (Some a) c.args.times) (rep_wanted a c.args.times) pass after c.in-Err.stop (rep_is_wanted a c.args.times) (c.in-Err.ensures.made a string already)
