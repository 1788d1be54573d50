use Rattle.std.proofs.Common.{IfOk, subst, arith}
use Rattle.nfg_syn.specs.SeenLaws.{Keeps-trans}
use Rattle.nfg_work.specs.Parts.{part_at, IsStringOrNone}
use Rattle.nfg_work.proofs.PartBounds.{rest_from, rest-first}
use Rattle.nfg_work.proofs.PartStrings.{IsStringOrNone-grows, joined_further}
use Rattle.nfg_work.proofs.part_joining.join_all.Goals as goal

pub join_both-requires-clause-left : goal.join_both-requires-clause-left
join_both-requires-clause-left g c κs within =
    let e = c.args.parts.encoding in
    let part = part_at c.args.parts.bytes.now c.args.parts.bounds.now 0 in
    let old = g.T.Synthetics.seen c.args.pass.now in
    let mid = g.T.Synthetics.seen c.join_others.new.pass in
    (e, part, IsStringOrNone-grows old.known mid.known c.in_ok-behind.ensures.keeps.known e part c.args.first c.requires.first)

pub join_both-requires-clause-right : goal.join_both-requires-clause-right
join_both-requires-clause-right g c κs within = (
  c.args.parts.encoding,
  rest_from c.args.parts.bytes.now c.args.parts.bounds.now 1,
  c.in_ok-behind.ensures.string,
)

pub returns-clause-keeps : goal.returns-clause-keeps
returns-clause-keeps g c = Keeps-trans _ _ _ c.in_ok-behind.ensures.keeps c.join_both.ensures.keeps

pub returns-clause-grown : goal.returns-clause-grown
returns-clause-grown g c =
    let e = c.args.parts.encoding in
    let bytes = c.args.parts.bytes.now in
    let bounds = c.args.parts.bounds.now in
    let part = part_at bytes bounds 0 in
    let old = g.T.Synthetics.seen c.args.pass.now in
    let mid = g.T.Synthetics.seen c.join_others.new.pass in
    let new = g.T.Synthetics.seen c.join_both.new.pass in
    let here = IsStringOrNone-grows old.known mid.known c.in_ok-behind.ensures.keeps.known e part c.args.first c.requires.first in
    (joined_further e bytes bounds 0 1 old.known mid.known new.known c.join_both.result c.requires.bounds (omega arith) c.requires.bounds.some
    c.in_ok-behind.ensures.grown
    (c.join_both.ensures.joined e part (rest_from bytes bounds 1) c.requires.goes_on here c.in_ok-behind.ensures.string)).0

pub returns-clause-string : goal.returns-clause-string
returns-clause-string g c =
    let e = c.args.parts.encoding in
    let bytes = c.args.parts.bytes.now in
    let bounds = c.args.parts.bounds.now in
    let part = part_at bytes bounds 0 in
    let old = g.T.Synthetics.seen c.args.pass.now in
    let mid = g.T.Synthetics.seen c.join_others.new.pass in
    let new = g.T.Synthetics.seen c.join_both.new.pass in
    let here = IsStringOrNone-grows old.known mid.known c.in_ok-behind.ensures.keeps.known e part c.args.first c.requires.first in
    subst (λ bytes. IfOk c.join_both.result (IsStringOrNone new.known e bytes)) (rest-first bytes bounds c.requires.bounds)
    (joined_further e bytes bounds 0 1 old.known mid.known new.known c.join_both.result c.requires.bounds (omega arith) c.requires.bounds.some
    c.in_ok-behind.ensures.grown
    (c.join_both.ensures.joined e part (rest_from bytes bounds 1) c.requires.goes_on here c.in_ok-behind.ensures.string)).1
