use Rattle.std.proofs.Common.{◌≡◌, ◌<◌, None, map, ap, sym, subst, ◌∙◌}
use Rattle.std.proofs.lemmas.Bool.{eqb-true}
use Rattle.nfg_syn.specs.Learned.{first_long}
use Rattle.nfg_stream.specs.Load.{HasMade}
use Rattle.nfg_stream.specs.Numbering.{AreClusters}
use Rattle.nfg_stream.proofs.Holding.{Holds-short, clusters-short, heads-none}
use Rattle.nfg_stream.proofs.NumbersLemmas.{narrow-whole, wide-whole, some-length}
use Rattle.nfg_stream.proofs.numbering.string_from.Goals as goal

pub string_of_narrow-requires-clause-clusters : goal.string_of_narrow-requires-clause-clusters
string_of_narrow-requires-clause-clusters g c κs within =
    let wide = c.into_parts-narrow.result.1 in
    let none = sym c.first_long-first_long.ensures ∙ c.in_default.is in
    let all_narrow = narrow-whole c.into_parts-narrow.result.0.items wide.items c.into_parts-numbers.result.0 c.into_parts-narrow.ensures.all
    (sym wide.ok.0 ∙ eqb-true wide.len 0 (sym c.is_empty.ensures ∙ c.if-is_empty.true)) in
    let heads = ap (map _) all_narrow ∙ c.into_parts-numbers.ensures.heads in
    subst AreClusters (sym heads) (clusters-short c.args.clusters c.requires.clusters none)

pub string_of_narrow-requires-clause-short : goal.string_of_narrow-requires-clause-short
string_of_narrow-requires-clause-short g c κs within =
    let wide = c.into_parts-narrow.result.1 in
    let none = sym c.first_long-first_long.ensures ∙ c.in_default.is in
    let all_narrow = narrow-whole c.into_parts-narrow.result.0.items wide.items c.into_parts-numbers.result.0 c.into_parts-narrow.ensures.all
    (sym wide.ok.0 ∙ eqb-true wide.len 0 (sym c.is_empty.ensures ∙ c.if-is_empty.true)) in
    let heads = ap (map _) all_narrow ∙ c.into_parts-numbers.ensures.heads in
    subst (λ cs. first_long cs ≡ None) (sym heads) (heads-none c.args.clusters c.requires.clusters none)

pub returns-then-is_empty-clause-made : goal.returns-then-is_empty-clause-made
returns-then-is_empty-clause-made g c all holds =
    let wide = c.into_parts-narrow.result.1 in
    let none = sym c.first_long-first_long.ensures ∙ c.in_default.is in
    let all_narrow = narrow-whole c.into_parts-narrow.result.0.items wide.items c.into_parts-numbers.result.0 c.into_parts-narrow.ensures.all
    (sym wide.ok.0 ∙ eqb-true wide.len 0 (sym c.is_empty.ensures ∙ c.if-is_empty.true)) in
    let heads = ap (map _) all_narrow ∙ c.into_parts-numbers.ensures.heads in
    subst (λ cs. HasMade cs (g.T.Synthetics.seen c.args.pass.now) (g.T.Synthetics.seen c.string_of_narrow.new.pass) c.string_of_narrow.result)
    (heads ∙ Holds-short c.args.clusters all holds none) c.string_of_narrow.ensures.made

pub string_of_wide-requires-clause-clusters : goal.string_of_wide-requires-clause-clusters
string_of_wide-requires-clause-clusters g c κs within =
    let wide = c.into_parts-narrow.result.1 in
    let none = sym c.first_long-first_long.ensures ∙ c.in_default.is in
    let all_wide = wide-whole c.into_parts-narrow.result.0.items wide.items c.into_parts-numbers.result.0 c.into_parts-narrow.ensures.kept c.into_parts-narrow.ensures.all
    (subst (λ n. 0 < n) wide.ok.0 (some-length wide.len (sym c.is_empty.ensures ∙ c.if-is_empty.false))) in
    let heads = ap (map _) all_wide ∙ c.into_parts-numbers.ensures.heads in
    subst AreClusters (sym heads) (clusters-short c.args.clusters c.requires.clusters none)

pub string_of_wide-requires-clause-short : goal.string_of_wide-requires-clause-short
string_of_wide-requires-clause-short g c κs within =
    let wide = c.into_parts-narrow.result.1 in
    let none = sym c.first_long-first_long.ensures ∙ c.in_default.is in
    let all_wide = wide-whole c.into_parts-narrow.result.0.items wide.items c.into_parts-numbers.result.0 c.into_parts-narrow.ensures.kept c.into_parts-narrow.ensures.all
    (subst (λ n. 0 < n) wide.ok.0 (some-length wide.len (sym c.is_empty.ensures ∙ c.if-is_empty.false))) in
    let heads = ap (map _) all_wide ∙ c.into_parts-numbers.ensures.heads in
    subst (λ cs. first_long cs ≡ None) (sym heads) (heads-none c.args.clusters c.requires.clusters none)

pub returns-clause-made : goal.returns-clause-made
returns-clause-made g c all holds =
    let wide = c.into_parts-narrow.result.1 in
    let none = sym c.first_long-first_long.ensures ∙ c.in_default.is in
    let all_wide = wide-whole c.into_parts-narrow.result.0.items wide.items c.into_parts-numbers.result.0 c.into_parts-narrow.ensures.kept c.into_parts-narrow.ensures.all
    (subst (λ n. 0 < n) wide.ok.0 (some-length wide.len (sym c.is_empty.ensures ∙ c.if-is_empty.false))) in
    let heads = ap (map _) all_wide ∙ c.into_parts-numbers.ensures.heads in
    subst (λ cs. HasMade cs (g.T.Synthetics.seen c.args.pass.now) (g.T.Synthetics.seen c.string_of_wide.new.pass) c.string_of_wide.result)
    (heads ∙ Holds-short c.args.clusters all holds none) c.string_of_wide.ensures.made
