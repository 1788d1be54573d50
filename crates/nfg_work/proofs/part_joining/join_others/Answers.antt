use Rattle.std.proofs.Common.{ℕ, ◌+◌, List, length, Ok, refl, ◌∙◌, arith}
use Rattle.std.proofs.lemmas.List.Elements.{All-pop}
use Rattle.nfg_syn.specs.SeenLaws.{Keeps-refl, Keeps-trans}
use Rattle.nfg_work.specs.Parts.{part_at}
use Rattle.nfg_work.proofs.Growth.{growth_none}
use Rattle.nfg_work.proofs.MetWorkers.{length-popped}
use Rattle.nfg_work.proofs.PartBounds.{rest_from}
use Rattle.nfg_work.proofs.PartStrings.{nothing_behind, joined_further, loaded_last, loaded_before}
use Rattle.nfg_work.proofs.part_joining.join_others.Goals as goal

pub joining-init : goal.joining-init
joining-init g c =
    let seen = g.T.Synthetics.seen c.args.pass.now in
    let many = c.requires.many in
    let counted = c.args.loaders.ok.0 in
    record {
      table = c.requires.table;
      fork_tables = c.requires.fork_tables;
      few = omega arith;
      loaded = λ k d before. c.requires.loaded k d (omega (arith, counted, before));
      behind = nothing_behind seen.known c.args.parts.encoding c.args.parts.bytes.now c.args.parts.bounds.now (length c.args.loaders.items + 1) c.empty.result
          c.requires.bounds (omega (arith, counted, many)) c.empty.ensures.graphemes;
      keeps = Keeps-refl seen;
      forks = refl {a = seen.forks};
      meets = refl {a = seen.meets + length c.args.loaders.items};
      grown = growth_none _ seen.known seen.known (λ k t at. at);
    }

pub meet_one-requires-clause-fork_table : goal.meet_one-requires-clause-fork_table
meet_one-requires-clause-fork_table g c κs within =
    rw c.in-Some.is at (All-pop (λ loader. g.T.Synthetics.is_of c.args.table.now loader.pass) c.joining.loaders.items c.pop.new.self.items c.pop.result c.pop.ensures.items c.joining.invariant.fork_tables).1

pub meet_one-requires-clause-no_root : goal.meet_one-requires-clause-no_root
meet_one-requires-clause-no_root g c κs within =
    (loaded_last (λ loader. g.T.Synthetics.seen loader.pass) (λ loader. loader.string) c.args.parts.encoding
    (λ k. part_at c.args.parts.bytes.now c.args.parts.bounds.now (k + 1)) (g.T.Synthetics.seen c.joining.pass).known
    c.joining.loaders.items c.pop.new.self.items c.pop.result c.in-Some.loader c.pop.ensures.items c.in-Some.is c.joining.invariant.loaded).root

pub meet_one-requires-clause-string : goal.meet_one-requires-clause-string
meet_one-requires-clause-string g c κs within = (
  c.args.parts.encoding,
  part_at c.args.parts.bytes.now c.args.parts.bounds.now (length c.pop.new.self.items + 1),
  (loaded_last (λ loader. g.T.Synthetics.seen loader.pass) (λ loader. loader.string) c.args.parts.encoding
      (λ k. part_at c.args.parts.bytes.now c.args.parts.bounds.now (k + 1)) (g.T.Synthetics.seen c.joining.pass).known
      c.joining.loaders.items c.pop.new.self.items c.pop.result c.in-Some.loader c.pop.ensures.items c.in-Some.is c.joining.invariant.loaded).string,
)

pub meet_one-requires-clause-behind : goal.meet_one-requires-clause-behind
meet_one-requires-clause-behind g c κs within = (
  c.args.parts.encoding,
  rest_from c.args.parts.bytes.now c.args.parts.bounds.now (length c.joining.loaders.items + 1),
  c.joining.invariant.behind,
)

pub joining-preserved : goal.joining-preserved
joining-preserved g c =
    let e = c.args.parts.encoding in
    let bytes = c.args.parts.bytes.now in
    let bounds = c.args.parts.bounds.now in
    let first = g.T.Synthetics.seen c.args.pass.now in
    let old = g.T.Synthetics.seen c.joining.pass in
    let new = g.T.Synthetics.seen c.meet_one.new.pass in
    let all = c.joining.loaders.items in
    let rest = c.pop.new.self.items in
    let i = c.joining.invariant in
    let met = c.in_ok-behind.ensures in
    let part : ℕ → List ℕ = λ k. part_at bytes bounds (k + 1) in
    let last = loaded_last (λ loader. g.T.Synthetics.seen loader.pass) (λ loader. loader.string) e part old.known
    all rest c.pop.result c.in-Some.loader c.pop.ensures.items c.in-Some.is i.loaded in
    let one_less = length-popped all rest c.pop.result c.in-Some.loader c.pop.ensures.items c.in-Some.is in
    let no_meets = last.meets in
    let many = c.requires.many in
    let counted = c.args.loaders.ok.0 in
    let joined = joined_further e bytes bounds (length rest + 1) (length all + 1) first.known old.known new.known (Ok c.in_ok-behind.behind) c.requires.bounds
    (omega (arith, one_less)) (omega (arith, counted, one_less, many, i.few)) i.grown
    (met.joined e (part (length rest)) (rest_from bytes bounds (length all + 1)) c.requires.goes_on last i.behind) in
    record {
      table = met.table;
      fork_tables = (All-pop (λ loader. g.T.Synthetics.is_of c.args.table.now loader.pass) all rest c.pop.result c.pop.ensures.items i.fork_tables).0;
      few = omega (arith, i.few, one_less);
      loaded = loaded_before (λ loader. g.T.Synthetics.seen loader.pass) (λ loader. loader.string) e part old.known new.known
          all rest c.pop.result c.in-Some.loader c.pop.ensures.items c.in-Some.is met.keeps.known i.loaded;
      behind = joined.1;
      keeps = Keeps-trans first old new i.keeps met.keeps;
      forks = met.forks ∙ i.forks;
      meets = omega (arith, met.meets, i.meets, no_meets, one_less);
      grown = joined.0;
    }

pub returns-in_err-behind-clause-keeps : goal.returns-in_err-behind-clause-keeps
returns-in_err-behind-clause-keeps g c = Keeps-trans _ _ _ c.joining.invariant.keeps c.in_err-behind.ensures.keeps

pub returns-in_err-behind-clause-grown : goal.returns-in_err-behind-clause-grown
returns-in_err-behind-clause-grown g c =
    let e = c.args.parts.encoding in
    let bytes = c.args.parts.bytes.now in
    let bounds = c.args.parts.bounds.now in
    let first = g.T.Synthetics.seen c.args.pass.now in
    let old = g.T.Synthetics.seen c.joining.pass in
    let new = g.T.Synthetics.seen c.meet_one.new.pass in
    let all = c.joining.loaders.items in
    let rest = c.pop.new.self.items in
    let i = c.joining.invariant in
    let part : ℕ → List ℕ = λ k. part_at bytes bounds (k + 1) in
    let last = loaded_last (λ loader. g.T.Synthetics.seen loader.pass) (λ loader. loader.string) e part old.known
    all rest c.pop.result c.in-Some.loader c.pop.ensures.items c.in-Some.is i.loaded in
    let one_less = length-popped all rest c.pop.result c.in-Some.loader c.pop.ensures.items c.in-Some.is in
    let many = c.requires.many in
    let counted = c.args.loaders.ok.0 in
    (joined_further e bytes bounds (length rest + 1) (length all + 1) first.known old.known new.known c.meet_one.result c.requires.bounds
    (omega (arith, one_less)) (omega (arith, counted, one_less, many, i.few)) i.grown
    (c.meet_one.ensures.joined e (part (length rest)) (rest_from bytes bounds (length all + 1)) c.requires.goes_on last i.behind)).0
