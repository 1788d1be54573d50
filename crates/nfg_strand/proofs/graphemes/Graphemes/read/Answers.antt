-- what is read ahead comes first, and the source after it
use Rattle.std.proofs.Common.{◌≡◌, ◌+◌, ◌-◌, ◌≤◌, ◌++◌, [], length, take, drop, ap, sym, ◌∙◌, arith, append-nil, length-append, length-drop}
use Rattle.std.proofs.lemmas.List.{drop-drop, take-take}
use Rattle.nfg_strand.proofs.Ranges.{front_len, range_front, range_inside, range_rest, put_mid-next}
use Rattle.nfg_strand.proofs.graphemes.Graphemes.read.Goals as goal

pub returns-then-count-into-clause-left : goal.returns-then-count-into-clause-left
returns-then-count-into-clause-left c =
    let i = c.self.inside in
    range_rest i.buffer i.source c.args.self.now i.at i.filled c.min-count.result (omega (arith, c.min-count.ensures, c.self.invariant.0))
    (omega (arith, c.self.invariant.1, c.self.told)) c.self.view_is

pub returns-clause-left : goal.returns-clause-left
returns-clause-left c =
    let i = c.self.inside in
    let count = c.min-count.result in
    let ahead : i.at + count ≤ i.filled = omega (arith, c.min-count.ensures, c.self.invariant.0) in
    let inside : i.filled ≤ length i.buffer = omega (arith, c.self.invariant.1, c.self.told) in
    let few : count ≤ 64 - i.at = omega (arith, ahead, c.self.invariant.1) in
    let copied = c.copy_from_slice.ensures.after ∙ take-take count (64 - i.at) (drop i.at i.buffer) few in
    let written = ap length copied ∙ front_len i.buffer i.source c.args.self.now i.at i.filled count ahead inside c.self.view_is in
    let none : i.filled - (i.at + count) ≡ 0 =
    omega (arith, c.min-count.ensures, c.if-count-into.false, written, length-append c.copy_from_slice.new.self (drop count c.args.into.now), length-drop count c.args.into.now) in
    let reached = range_rest i.buffer i.source c.args.self.now i.at i.filled count ahead inside c.self.view_is in
    ap (λ n. take n (drop (i.at + count) i.buffer) ++ c.read.new.self) none ∙ c.read.ensures.left
    ∙ ap (drop c.read.result) (ap (λ n. take n (drop (i.at + count) i.buffer) ++ i.source) (sym none) ∙ reached) ∙ drop-drop c.read.result count c.args.self.now

pub returns-clause-read : goal.returns-clause-read
returns-clause-read c =
    let i = c.self.inside in
    let count = c.min-count.result in
    let all = c.args.self.now in
    let into = c.args.into.now in
    let ahead : i.at + count ≤ i.filled = omega (arith, c.min-count.ensures, c.self.invariant.0) in
    let inside : i.filled ≤ length i.buffer = omega (arith, c.self.invariant.1, c.self.told) in
    let few : count ≤ 64 - i.at = omega (arith, ahead, c.self.invariant.1) in
    let copied = c.copy_from_slice.ensures.after ∙ take-take count (64 - i.at) (drop i.at i.buffer) few in
    let written = ap length copied ∙ front_len i.buffer i.source all i.at i.filled count ahead inside c.self.view_is in
    let front = copied ∙ sym (range_front i.buffer i.source all i.at i.filled count ahead inside c.self.view_is) in
    let none : i.filled - (i.at + count) ≡ 0 =
    omega (arith, c.min-count.ensures, c.if-count-into.false, written, length-append c.copy_from_slice.new.self (drop count into), length-drop count into) in
    let reached = range_rest i.buffer i.source all i.at i.filled count ahead inside c.self.view_is in
    let source : i.source ++ [] ≡ drop count all = append-nil i.source ∙ ap (λ n. take n (drop (i.at + count) i.buffer) ++ i.source) (sym none) ∙ reached in
    put_mid-next all i.source [] into (c.copy_from_slice.new.self ++ drop count into) c.read.new.into count c.read.result
    (range_inside i.buffer i.source all i.at i.filled count ahead inside c.self.view_is) (omega (arith, c.read.ensures.count)) source
    (ap (λ xs. xs ++ drop count into) front) c.read.ensures.read
