-- one cluster after another, up to a boundary
use Rattle.std.proofs.Common.{rules, ◌≡◌, suc, drop, w32, to_z, of_z, arith}
use Rattle.nfg_syn.specs.RepresentsLaws.{Represents-length}
use Rattle.nfg_seam.proofs.SeamReading.{next-at, next-left, asked-both, cluster-asked, spelled-asked, text-range_more}
use Rattle.nfg_seam.proofs.SeamText.{boundary-at, boundary-none}
use Rattle.nfg_seam.proofs.right_end.append_to_boundary.Goals as goal

pub is_boundary-requires-clause-known : goal.is_boundary-requires-clause-known
is_boundary-requires-clause-known g c κs within =
    let same : to_z w32 (of_z w32 c.next_of-number.result) ≡ c.next_of-number.result = search rules in
    spelled-asked _ _ c.loop-right.invariant.asked c.args.b.now.graphemes c.requires.known c.loop-right.right
    c.next_of-number.result (to_z w32 (of_z w32 c.next_of-number.result)) same (next-at c.args.b.now.graphemes c.loop-right.numbers c.loop-right.right c.next_of-number.result c.loop-right.invariant.numbers c.next_of-number.ensures.first)

pub returns-then-is_boundary-clause-boundary : goal.returns-then-is_boundary-clause-boundary
returns-then-is_boundary-clause-boundary g c = λ list represents.
    let same : to_z w32 (of_z w32 c.next_of-number.result) ≡ c.next_of-number.result = search rules in
    let right = c.loop-right.right in
    let found = cluster-asked _ _ c.loop-right.invariant.asked c.args.b.now.graphemes list represents right
    c.next_of-number.result (to_z w32 (of_z w32 c.next_of-number.result)) same (next-at c.args.b.now.graphemes c.loop-right.numbers c.loop-right.right c.next_of-number.result c.loop-right.invariant.numbers c.next_of-number.ensures.first) in
    boundary-at c.loop-right.text list right found.0 found.1
    (c.is_boundary.ensures.boundary found.0 c.loop-right.text (drop (suc right) list) found.2 c.loop-right.invariant.memory c.is_empty.ensures c.if-is_boundary.true)

pub append_remembered-requires-clause-known : goal.append_remembered-requires-clause-known
append_remembered-requires-clause-known g c κs within =
    let same : to_z w32 (of_z w32 c.next_of-number.result) ≡ c.next_of-number.result = search rules in
    spelled-asked _ _ (asked-both _ _ _ c.loop-right.invariant.asked c.is_boundary.ensures.asked) c.args.b.now.graphemes c.requires.known c.loop-right.right
    c.next_of-number.result (to_z w32 (of_z w32 c.next_of-number.result)) same (next-at c.args.b.now.graphemes c.loop-right.numbers c.loop-right.right c.next_of-number.result c.loop-right.invariant.numbers c.next_of-number.ensures.first)

pub loop-right-preserved : goal.loop-right-preserved
loop-right-preserved g c =
    let same : to_z w32 (of_z w32 c.next_of-number.result) ≡ c.next_of-number.result = search rules in
    let right = c.loop-right.right in
    let asked = asked-both _ _ _ c.loop-right.invariant.asked c.is_boundary.ensures.asked in
    record {
      later = omega (arith, c.loop-right.invariant.later);
      within = omega (arith, c.loop-right-test.true, c.len.ensures.len);
      numbers = next-left c.args.b.now.graphemes c.loop-right.numbers c.next_of-number.new.numbers right c.loop-right.invariant.numbers c.next_of-number.ensures.left;
      table = c.in_ok-memory.ensures.table;
      asked = asked-both _ _ _ asked c.in_ok-memory.ensures.asked;
      memory = c.in_ok-memory.ensures.memory;
      added = λ list represents.
          let found = cluster-asked _ _ asked c.args.b.now.graphemes list represents right
          c.next_of-number.result (to_z w32 (of_z w32 c.next_of-number.result)) same (next-at c.args.b.now.graphemes c.loop-right.numbers c.loop-right.right c.next_of-number.result c.loop-right.invariant.numbers c.next_of-number.ensures.first) in
          text-range_more c.args.text.now c.loop-right.text c.append_remembered.new.text list c.args.start right found.0 c.loop-right.invariant.later found.1
          (c.loop-right.invariant.added list represents) (c.in_ok-memory.ensures.added found.0 found.2);
    }

pub returns-clause-boundary : goal.returns-clause-boundary
returns-clause-boundary g c = λ list represents.
    let long = Represents-length _ c.args.b.now.graphemes list represents in
    boundary-none c.loop-right.text list c.loop-right.right (omega (arith, long, c.loop-right-test.false, c.len.ensures.len))
