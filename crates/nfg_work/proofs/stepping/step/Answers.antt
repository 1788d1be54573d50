use Rattle.std.proofs.Common.{ap, ap₂, length, sym, subst}
use Rattle.nfg_text.specs.Graphemes.{graphemes_of}
use Rattle.nfg_text.specs.Operations.{first_place, last_place, text_order}
use Rattle.nfg_work.specs.Evaluation.{value_of, are_equivalent, define_new}
use Rattle.nfg_work.specs.Given.{IsAlreadyFound, IsAlreadyMade, Brings, load_wanted, part_wanted, reached_of}
use Rattle.nfg_work.specs.Holding.{Follows}
use Rattle.nfg_work.specs.Making.{cat_wanted, rep_wanted, unless_long}
use Rattle.nfg_work.specs.Outcomes.{given_value}
use Rattle.nfg_work.specs.Reach.{cat_value, rep_value, if_short}
use Rattle.nfg_work.specs.Values.{flat}
use Rattle.nfg_work.proofs.Answered.{step_follows}
use Rattle.nfg_work.proofs.Brought.{does_brings, part_never_full, print_never_full, put_never_full}
use Rattle.nfg_work.proofs.Stepped.{command_there, codes_there, outcome_there, follows_there, brings_there, load_there, text_there, cat_there, rep_there, sub_there}
use Rattle.nfg_work.proofs.Tables.{asked_none}
use Rattle.nfg_work.proofs.Taken.{find_taken, rfind_taken, eq_taken, cmp_taken, value_is}
use Rattle.nfg_work.proofs.stepping.step.Goals as goal

pub returns-in-Load-clause-done : goal.returns-in-Load-clause-done
returns-in-Load-clause-done g c = λ numbered state here h right.
    let places = g.T.Synthetics.size c.args.table.now in
    let pass = g.T.Synthetics.seen c.args.pass.now in
    let after = g.T.Synthetics.seen c.load.new.pass in
    let there = command_there c.args.script.now c.args.k numbered c.command.result _ here c.command.ensures c.in-Load.is in
    let already = subst (IsAlreadyMade (load_wanted c.in-Load.enc state.reads) pass.known) (sym c.made.ensures) (load_there pass.known state numbered _ c.in-Load.enc c.args.outcome there right) in
    follows_there places pass after c.args.reads.now c.args.held.now c.load.new.held c.load.result state numbered _ there (c.load.ensures.loaded state h already)

pub returns-in-Load-clause-brings : goal.returns-in-Load-clause-brings
returns-in-Load-clause-brings g c = λ numbered state here h right.
    let places = g.T.Synthetics.size c.args.table.now in
    let pass = g.T.Synthetics.seen c.args.pass.now in
    let after = g.T.Synthetics.seen c.load.new.pass in
    let there = command_there c.args.script.now c.args.k numbered c.command.result _ here c.command.ensures c.in-Load.is in
    let already = subst (IsAlreadyMade (load_wanted c.in-Load.enc state.reads) pass.known) (sym c.made.ensures) (load_there pass.known state numbered _ c.in-Load.enc c.args.outcome there right) in
    brings_there pass after c.load.result state numbered _ there (c.load.ensures.brings state h already)

pub returns-in-Text-clause-done : goal.returns-in-Text-clause-done
returns-in-Text-clause-done g c = λ numbered state here h right.
    let places = g.T.Synthetics.size c.args.table.now in
    let pass = g.T.Synthetics.seen c.args.pass.now in
    let after = g.T.Synthetics.seen c.text.new.pass in
    let there = command_there c.args.script.now c.args.k numbered c.command.result _ here c.command.ensures c.in-Text.is in
    let codes = codes_there c.args.script.now c.args.k numbered c.codes.result.now here c.codes.ensures.codes in
    let already = subst (λ cs. IsAlreadyMade (unless_long (flat (graphemes_of cs))) pass.known c.made-in-Text.result) (sym codes)
    (subst (IsAlreadyMade (unless_long (flat (graphemes_of numbered.codes))) pass.known) (sym c.made-in-Text.ensures) (text_there pass.known state numbered _ c.args.outcome there right)) in
    follows_there places pass after c.args.reads.now c.args.held.now c.text.new.held c.text.result state numbered _ there
    (subst (λ cs. Follows places pass after c.args.reads.now state.used c.args.held.now c.text.new.held c.text.result (define_new places state (length cs) (graphemes_of cs))) codes
    (c.text.ensures.defined c.args.reads.now state h already))

pub returns-in-Text-clause-brings : goal.returns-in-Text-clause-brings
returns-in-Text-clause-brings g c = λ numbered state here h right.
    let places = g.T.Synthetics.size c.args.table.now in
    let pass = g.T.Synthetics.seen c.args.pass.now in
    let after = g.T.Synthetics.seen c.text.new.pass in
    let there = command_there c.args.script.now c.args.k numbered c.command.result _ here c.command.ensures c.in-Text.is in
    let codes = codes_there c.args.script.now c.args.k numbered c.codes.result.now here c.codes.ensures.codes in
    let already = subst (λ cs. IsAlreadyMade (unless_long (flat (graphemes_of cs))) pass.known c.made-in-Text.result) (sym codes)
    (subst (IsAlreadyMade (unless_long (flat (graphemes_of numbered.codes))) pass.known) (sym c.made-in-Text.ensures) (text_there pass.known state numbered _ c.args.outcome there right)) in
    brings_there pass after c.text.result state numbered _ there
    (subst (λ cs. Brings (if_short (flat (graphemes_of cs))) pass after c.text.result) codes (c.text.ensures.brings already))

pub returns-in-Cat-clause-done : goal.returns-in-Cat-clause-done
returns-in-Cat-clause-done g c = λ numbered state here h right.
    let places = g.T.Synthetics.size c.args.table.now in
    let pass = g.T.Synthetics.seen c.args.pass.now in
    let after = g.T.Synthetics.seen c.cat.new.pass in
    let there = command_there c.args.script.now c.args.k numbered c.command.result _ here c.command.ensures c.in-Cat.is in
    let already = subst (IsAlreadyMade (cat_wanted (value_of state c.in-Cat.a) (value_of state c.in-Cat.b)) pass.known) (sym c.made-in-Cat.ensures)
    (cat_there pass.known state numbered _ c.in-Cat.a c.in-Cat.b c.args.outcome there right) in
    follows_there places pass after c.args.reads.now c.args.held.now c.cat.new.held c.cat.result state numbered _ there (c.cat.ensures.joined c.args.reads.now state h already)

pub returns-in-Cat-clause-brings : goal.returns-in-Cat-clause-brings
returns-in-Cat-clause-brings g c = λ numbered state here h right.
    let places = g.T.Synthetics.size c.args.table.now in
    let pass = g.T.Synthetics.seen c.args.pass.now in
    let after = g.T.Synthetics.seen c.cat.new.pass in
    let there = command_there c.args.script.now c.args.k numbered c.command.result _ here c.command.ensures c.in-Cat.is in
    let already = subst (IsAlreadyMade (cat_wanted (value_of state c.in-Cat.a) (value_of state c.in-Cat.b)) pass.known) (sym c.made-in-Cat.ensures)
    (cat_there pass.known state numbered _ c.in-Cat.a c.in-Cat.b c.args.outcome there right) in
    brings_there pass after c.cat.result state numbered _ there
    (subst (λ value. Brings value pass after c.cat.result) (sym (ap₂ cat_value (value_is state c.in-Cat.a) (value_is state c.in-Cat.b)))
    (c.cat.ensures.brings c.args.reads.now state h already))

pub returns-in-Rep-clause-done : goal.returns-in-Rep-clause-done
returns-in-Rep-clause-done g c = λ numbered state here h right.
    let places = g.T.Synthetics.size c.args.table.now in
    let pass = g.T.Synthetics.seen c.args.pass.now in
    let after = g.T.Synthetics.seen c.rep.new.pass in
    let there = command_there c.args.script.now c.args.k numbered c.command.result _ here c.command.ensures c.in-Rep.is in
    let already = subst (IsAlreadyMade (rep_wanted (value_of state c.in-Rep.a) c.in-Rep.count) pass.known) (sym c.made-in-Rep.ensures)
    (rep_there pass.known state numbered _ c.in-Rep.a c.in-Rep.count c.args.outcome there right) in
    follows_there places pass after c.args.reads.now c.args.held.now c.rep.new.held c.rep.result state numbered _ there (c.rep.ensures.joined c.args.reads.now state h already)

pub returns-in-Rep-clause-brings : goal.returns-in-Rep-clause-brings
returns-in-Rep-clause-brings g c = λ numbered state here h right.
    let places = g.T.Synthetics.size c.args.table.now in
    let pass = g.T.Synthetics.seen c.args.pass.now in
    let after = g.T.Synthetics.seen c.rep.new.pass in
    let there = command_there c.args.script.now c.args.k numbered c.command.result _ here c.command.ensures c.in-Rep.is in
    let already = subst (IsAlreadyMade (rep_wanted (value_of state c.in-Rep.a) c.in-Rep.count) pass.known) (sym c.made-in-Rep.ensures)
    (rep_there pass.known state numbered _ c.in-Rep.a c.in-Rep.count c.args.outcome there right) in
    brings_there pass after c.rep.result state numbered _ there
    (subst (λ value. Brings value pass after c.rep.result) (sym (ap (λ value. rep_value value c.in-Rep.count) (value_is state c.in-Rep.a)))
    (c.rep.ensures.brings c.args.reads.now state h already))

pub returns-in-Sub-clause-done : goal.returns-in-Sub-clause-done
returns-in-Sub-clause-done g c = λ numbered state here h right.
    let places = g.T.Synthetics.size c.args.table.now in
    let pass = g.T.Synthetics.seen c.args.pass.now in
    let after = pass in
    let there = command_there c.args.script.now c.args.k numbered c.command.result _ here c.command.ensures c.in-Sub.is in
    let already = subst (IsAlreadyMade (part_wanted (value_of state c.in-Sub.a) c.in-Sub.start c.in-Sub.count) pass.known) (sym c.made-in-Sub.ensures)
    (sub_there pass.known state numbered _ c.in-Sub.a c.in-Sub.start c.in-Sub.count c.args.outcome there right) in
    step_follows places pass after c.args.reads.now c.args.script.now c.args.k c.args.held.now c.sub.new.held c.sub.result
    state numbered c.command.result _ (asked_none pass) here c.command.ensures c.in-Sub.is (c.sub.ensures places pass.known pass.places c.args.reads.now state (g.met.T.Synthetics.knows c.args.table.now c.args.pass.now c.requires.table) h already)

pub returns-in-Sub-clause-brings : goal.returns-in-Sub-clause-brings
returns-in-Sub-clause-brings g c = λ numbered state here h right.
    let places = g.T.Synthetics.size c.args.table.now in
    let pass = g.T.Synthetics.seen c.args.pass.now in
    let after = pass in
    let there = command_there c.args.script.now c.args.k numbered c.command.result _ here c.command.ensures c.in-Sub.is in
    let already = subst (IsAlreadyMade (part_wanted (value_of state c.in-Sub.a) c.in-Sub.start c.in-Sub.count) pass.known) (sym c.made-in-Sub.ensures)
    (sub_there pass.known state numbered _ c.in-Sub.a c.in-Sub.start c.in-Sub.count c.args.outcome there right) in
    does_brings (given_value (reached_of state) numbered numbered.command) pass after c.args.reads.now state.used c.args.held.now c.sub.new.held c.sub.result _
    (part_never_full state (value_of state c.in-Sub.a) c.in-Sub.start c.in-Sub.count) (asked_none pass) (c.sub.ensures places pass.known pass.places c.args.reads.now state (g.met.T.Synthetics.knows c.args.table.now c.args.pass.now c.requires.table) h already)

pub returns-in-Find-clause-done : goal.returns-in-Find-clause-done
returns-in-Find-clause-done g c = λ numbered state here h right.
    let places = g.T.Synthetics.size c.args.table.now in
    let pass = g.T.Synthetics.seen c.args.pass.now in
    let after = pass in
    let there = command_there c.args.script.now c.args.k numbered c.command.result _ here c.command.ensures c.in-Find.is in
    let given = outcome_there pass.known state numbered _ c.args.outcome there right in
    let already = subst (IsAlreadyFound (first_place (value_of state c.in-Find.a).clusters (value_of state c.in-Find.b).clusters c.in-Find.at)) (sym c.place.ensures)
    (find_taken pass.known state numbered c.in-Find.a c.in-Find.b c.in-Find.at c.args.outcome given) in
    step_follows places pass after c.args.reads.now c.args.script.now c.args.k c.args.held.now c.print_find.new.held c.print_find.result
    state numbered c.command.result _ (asked_none pass) here c.command.ensures c.in-Find.is (c.print_find.ensures c.args.reads.now state h already)

pub returns-in-Find-clause-brings : goal.returns-in-Find-clause-brings
returns-in-Find-clause-brings g c = λ numbered state here h right.
    let places = g.T.Synthetics.size c.args.table.now in
    let pass = g.T.Synthetics.seen c.args.pass.now in
    let after = pass in
    let there = command_there c.args.script.now c.args.k numbered c.command.result _ here c.command.ensures c.in-Find.is in
    let given = outcome_there pass.known state numbered _ c.args.outcome there right in
    let already = subst (IsAlreadyFound (first_place (value_of state c.in-Find.a).clusters (value_of state c.in-Find.b).clusters c.in-Find.at)) (sym c.place.ensures)
    (find_taken pass.known state numbered c.in-Find.a c.in-Find.b c.in-Find.at c.args.outcome given) in
    does_brings (given_value (reached_of state) numbered numbered.command) pass after c.args.reads.now state.used c.args.held.now c.print_find.new.held c.print_find.result _
    (print_never_full state _) (asked_none pass) (c.print_find.ensures c.args.reads.now state h already)

pub returns-in-Rfind-clause-done : goal.returns-in-Rfind-clause-done
returns-in-Rfind-clause-done g c = λ numbered state here h right.
    let places = g.T.Synthetics.size c.args.table.now in
    let pass = g.T.Synthetics.seen c.args.pass.now in
    let after = pass in
    let there = command_there c.args.script.now c.args.k numbered c.command.result _ here c.command.ensures c.in-Rfind.is in
    let given = outcome_there pass.known state numbered _ c.args.outcome there right in
    let already = subst (IsAlreadyFound (last_place (value_of state c.in-Rfind.a).clusters (value_of state c.in-Rfind.b).clusters c.in-Rfind.at)) (sym c.place-in-Rfind.ensures)
    (rfind_taken pass.known state numbered c.in-Rfind.a c.in-Rfind.b c.in-Rfind.at c.args.outcome given) in
    step_follows places pass after c.args.reads.now c.args.script.now c.args.k c.args.held.now c.print_rfind.new.held c.print_rfind.result
    state numbered c.command.result _ (asked_none pass) here c.command.ensures c.in-Rfind.is (c.print_rfind.ensures c.args.reads.now state h already)

pub returns-in-Rfind-clause-brings : goal.returns-in-Rfind-clause-brings
returns-in-Rfind-clause-brings g c = λ numbered state here h right.
    let places = g.T.Synthetics.size c.args.table.now in
    let pass = g.T.Synthetics.seen c.args.pass.now in
    let after = pass in
    let there = command_there c.args.script.now c.args.k numbered c.command.result _ here c.command.ensures c.in-Rfind.is in
    let given = outcome_there pass.known state numbered _ c.args.outcome there right in
    let already = subst (IsAlreadyFound (last_place (value_of state c.in-Rfind.a).clusters (value_of state c.in-Rfind.b).clusters c.in-Rfind.at)) (sym c.place-in-Rfind.ensures)
    (rfind_taken pass.known state numbered c.in-Rfind.a c.in-Rfind.b c.in-Rfind.at c.args.outcome given) in
    does_brings (given_value (reached_of state) numbered numbered.command) pass after c.args.reads.now state.used c.args.held.now c.print_rfind.new.held c.print_rfind.result _
    (print_never_full state _) (asked_none pass) (c.print_rfind.ensures c.args.reads.now state h already)

pub returns-in-Eq-clause-done : goal.returns-in-Eq-clause-done
returns-in-Eq-clause-done g c = λ numbered state here h right.
    let places = g.T.Synthetics.size c.args.table.now in
    let pass = g.T.Synthetics.seen c.args.pass.now in
    let after = pass in
    let there = command_there c.args.script.now c.args.k numbered c.command.result _ here c.command.ensures c.in-Eq.is in
    let given = outcome_there pass.known state numbered _ c.args.outcome there right in
    let already = subst (IsAlreadyFound (are_equivalent (value_of state c.in-Eq.a).clusters (value_of state c.in-Eq.b).clusters)) (sym c.equivalence.ensures)
    (eq_taken pass.known state numbered c.in-Eq.a c.in-Eq.b c.args.outcome given) in
    step_follows places pass after c.args.reads.now c.args.script.now c.args.k c.args.held.now c.print_eq.new.held c.print_eq.result
    state numbered c.command.result _ (asked_none pass) here c.command.ensures c.in-Eq.is (c.print_eq.ensures c.args.reads.now state h already)

pub returns-in-Eq-clause-brings : goal.returns-in-Eq-clause-brings
returns-in-Eq-clause-brings g c = λ numbered state here h right.
    let places = g.T.Synthetics.size c.args.table.now in
    let pass = g.T.Synthetics.seen c.args.pass.now in
    let after = pass in
    let there = command_there c.args.script.now c.args.k numbered c.command.result _ here c.command.ensures c.in-Eq.is in
    let given = outcome_there pass.known state numbered _ c.args.outcome there right in
    let already = subst (IsAlreadyFound (are_equivalent (value_of state c.in-Eq.a).clusters (value_of state c.in-Eq.b).clusters)) (sym c.equivalence.ensures)
    (eq_taken pass.known state numbered c.in-Eq.a c.in-Eq.b c.args.outcome given) in
    does_brings (given_value (reached_of state) numbered numbered.command) pass after c.args.reads.now state.used c.args.held.now c.print_eq.new.held c.print_eq.result _
    (print_never_full state _) (asked_none pass) (c.print_eq.ensures c.args.reads.now state h already)

pub returns-in-Cmp-clause-done : goal.returns-in-Cmp-clause-done
returns-in-Cmp-clause-done g c = λ numbered state here h right.
    let places = g.T.Synthetics.size c.args.table.now in
    let pass = g.T.Synthetics.seen c.args.pass.now in
    let after = g.T.Synthetics.seen c.print_cmp.new.pass in
    let there = command_there c.args.script.now c.args.k numbered c.command.result _ here c.command.ensures c.in-Cmp.is in
    let given = outcome_there pass.known state numbered _ c.args.outcome there right in
    let already = subst (IsAlreadyFound (text_order (value_of state c.in-Cmp.a).clusters (value_of state c.in-Cmp.b).clusters)) (sym c.ordering.ensures)
    (cmp_taken pass.known state numbered c.in-Cmp.a c.in-Cmp.b c.args.outcome given) in
    step_follows places pass after c.args.reads.now c.args.script.now c.args.k c.args.held.now c.print_cmp.new.held c.print_cmp.result
    state numbered c.command.result _ c.print_cmp.ensures.asked here c.command.ensures c.in-Cmp.is (c.print_cmp.ensures.printed c.args.reads.now state h already)

pub returns-in-Cmp-clause-brings : goal.returns-in-Cmp-clause-brings
returns-in-Cmp-clause-brings g c = λ numbered state here h right.
    let places = g.T.Synthetics.size c.args.table.now in
    let pass = g.T.Synthetics.seen c.args.pass.now in
    let after = g.T.Synthetics.seen c.print_cmp.new.pass in
    let there = command_there c.args.script.now c.args.k numbered c.command.result _ here c.command.ensures c.in-Cmp.is in
    let given = outcome_there pass.known state numbered _ c.args.outcome there right in
    let already = subst (IsAlreadyFound (text_order (value_of state c.in-Cmp.a).clusters (value_of state c.in-Cmp.b).clusters)) (sym c.ordering.ensures)
    (cmp_taken pass.known state numbered c.in-Cmp.a c.in-Cmp.b c.args.outcome given) in
    does_brings (given_value (reached_of state) numbered numbered.command) pass after c.args.reads.now state.used c.args.held.now c.print_cmp.new.held c.print_cmp.result _
    (print_never_full state _) c.print_cmp.ensures.asked (c.print_cmp.ensures.printed c.args.reads.now state h already)

pub returns-in-Len-clause-done : goal.returns-in-Len-clause-done
returns-in-Len-clause-done g c = λ numbered state here h right.
    let places = g.T.Synthetics.size c.args.table.now in
    let pass = g.T.Synthetics.seen c.args.pass.now in
    let after = pass in
    step_follows places pass after c.args.reads.now c.args.script.now c.args.k c.args.held.now c.print_len.new.held c.print_len.result
    state numbered c.command.result _ (asked_none pass) here c.command.ensures c.in-Len.is (c.print_len.ensures pass.known c.args.reads.now state h)

pub returns-in-Len-clause-brings : goal.returns-in-Len-clause-brings
returns-in-Len-clause-brings g c = λ numbered state here h right.
    let places = g.T.Synthetics.size c.args.table.now in
    let pass = g.T.Synthetics.seen c.args.pass.now in
    let after = pass in
    does_brings (given_value (reached_of state) numbered numbered.command) pass after c.args.reads.now state.used c.args.held.now c.print_len.new.held c.print_len.result _
    (print_never_full state _) (asked_none pass) (c.print_len.ensures pass.known c.args.reads.now state h)

pub returns-in-Show-clause-done : goal.returns-in-Show-clause-done
returns-in-Show-clause-done g c = λ numbered state here h right.
    let places = g.T.Synthetics.size c.args.table.now in
    let pass = g.T.Synthetics.seen c.args.pass.now in
    let after = g.T.Synthetics.seen c.print_show.new.pass in
    step_follows places pass after c.args.reads.now c.args.script.now c.args.k c.args.held.now c.print_show.new.held c.print_show.result
    state numbered c.command.result _ c.print_show.ensures.asked here c.command.ensures c.in-Show.is (c.print_show.ensures.printed c.args.reads.now state h)

pub returns-in-Show-clause-brings : goal.returns-in-Show-clause-brings
returns-in-Show-clause-brings g c = λ numbered state here h right.
    let places = g.T.Synthetics.size c.args.table.now in
    let pass = g.T.Synthetics.seen c.args.pass.now in
    let after = g.T.Synthetics.seen c.print_show.new.pass in
    does_brings (given_value (reached_of state) numbered numbered.command) pass after c.args.reads.now state.used c.args.held.now c.print_show.new.held c.print_show.result _
    (print_never_full state _) c.print_show.ensures.asked (c.print_show.ensures.printed c.args.reads.now state h)

pub returns-in-Shape-clause-done : goal.returns-in-Shape-clause-done
returns-in-Shape-clause-done g c = λ numbered state here h right.
    let places = g.T.Synthetics.size c.args.table.now in
    let pass = g.T.Synthetics.seen c.args.pass.now in
    let after = pass in
    step_follows places pass after c.args.reads.now c.args.script.now c.args.k c.args.held.now c.print_shape.new.held c.print_shape.result
    state numbered c.command.result _ (asked_none pass) here c.command.ensures c.in-Shape.is (c.print_shape.ensures pass.known c.args.reads.now state h)

pub returns-in-Shape-clause-brings : goal.returns-in-Shape-clause-brings
returns-in-Shape-clause-brings g c = λ numbered state here h right.
    let places = g.T.Synthetics.size c.args.table.now in
    let pass = g.T.Synthetics.seen c.args.pass.now in
    let after = pass in
    does_brings (given_value (reached_of state) numbered numbered.command) pass after c.args.reads.now state.used c.args.held.now c.print_shape.new.held c.print_shape.result _
    (print_never_full state _) (asked_none pass) (c.print_shape.ensures pass.known c.args.reads.now state h)

pub returns-in-Put-clause-done : goal.returns-in-Put-clause-done
returns-in-Put-clause-done g c = λ numbered state here h right.
    let places = g.T.Synthetics.size c.args.table.now in
    let pass = g.T.Synthetics.seen c.args.pass.now in
    let after = g.T.Synthetics.seen c.print_put.new.pass in
    step_follows places pass after c.args.reads.now c.args.script.now c.args.k c.args.held.now c.print_put.new.held c.print_put.result
    state numbered c.command.result _ c.print_put.ensures.asked here c.command.ensures c.in-Put.is (c.print_put.ensures.printed c.args.reads.now state h)

pub returns-in-Put-clause-brings : goal.returns-in-Put-clause-brings
returns-in-Put-clause-brings g c = λ numbered state here h right.
    let places = g.T.Synthetics.size c.args.table.now in
    let pass = g.T.Synthetics.seen c.args.pass.now in
    let after = g.T.Synthetics.seen c.print_put.new.pass in
    does_brings (given_value (reached_of state) numbered numbered.command) pass after c.args.reads.now state.used c.args.held.now c.print_put.new.held c.print_put.result _
    (put_never_full state _ _) c.print_put.ensures.asked (c.print_put.ensures.printed c.args.reads.now state h)
