use Rattle.std.proofs.Common.{◌≡◌, ◌++◌, None, length, take, drop, sym, subst, ◌∙◌, arith}
use Rattle.nfg_syn.specs.Learned.{first_long}
use Rattle.nfg_seam.specs.Numbered.{AreClusters, AreNumbered, AreRefused}
use Rattle.nfg_seam.proofs.RepeatLists.{take-written}
use Rattle.nfg_seam.proofs.RepeatSinks.{Holds-short}
use Rattle.nfg_seam.proofs.repeated_text.number_all.Goals as goal

pub number_each-requires-clause-clusters : goal.number_each-requires-clause-clusters
number_each-requires-clause-clusters g c κs within =
    let none = sym c.first_long-first_long.ensures ∙ c.in_default.is in
    let holds = c.requires.clusters.1 in
    subst AreClusters (sym (Holds-short c.args.clusters.now c.requires.clusters.0 holds none)) holds.are

pub number_each-requires-clause-short : goal.number_each-requires-clause-short
number_each-requires-clause-short g c κs within =
    let none = sym c.first_long-first_long.ensures ∙ c.in_default.is in
    let holds = c.requires.clusters.1 in
    subst (λ cs. first_long cs ≡ None) (sym (Holds-short c.args.clusters.now c.requires.clusters.0 holds none)) (sym holds.first_long ∙ none)

pub returns-in-Ok-number_each-clause-numbers : goal.returns-in-Ok-number_each-clause-numbers
returns-in-Ok-number_each-clause-numbers g c all holds =
    let none = sym c.first_long-first_long.ensures ∙ c.in_default.is in
    let old = (g.T.Synthetics.seen c.args.pass.now).known in
    let new = (g.T.Synthetics.seen c.number_each.new.pass).known in
    let filled = c.number_each.new.into in
    let behind = drop (length filled) c.in-Ok.numbers.items in
    let count : c.in-Ok.numbers.len ≡ length filled = omega (arith, c.number_each.auto.into, c.deref_mut.ensures.len) in
    subst (λ cs. AreNumbered cs old new (take c.in-Ok.numbers.len (filled ++ behind))) (Holds-short c.args.clusters.now all holds none)
    (subst (AreNumbered c.args.clusters.now.heads old new) (sym (take-written c.in-Ok.numbers.len filled behind count)) c.in-Ok-number_each.ensures.numbers)

pub returns-in-Err-number_each-clause-refused : goal.returns-in-Err-number_each-clause-refused
returns-in-Err-number_each-clause-refused g c all holds =
    let none = sym c.first_long-first_long.ensures ∙ c.in_default.is in
    subst (λ cs. AreRefused cs (g.T.Synthetics.seen c.args.pass.now) (g.T.Synthetics.seen c.number_each.new.pass) c.in-Err-number_each.error)
    (Holds-short c.args.clusters.now all holds none) c.in-Err-number_each.ensures.refused
