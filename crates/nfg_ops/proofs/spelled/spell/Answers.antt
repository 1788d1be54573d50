-- the text of each number comes behind that of the numbers before it
use Rattle.std.proofs.Common.{rules, ◌≡◌, ◌-◌, ◌++◌, pos, Some, get_or, length, take, w32, to_z, of_z, ap, sym, subst, ◌∙◌, arith}
use borrow.Rule.Slice.PartMut.{put_mid}
use Rattle.nfg_text.specs.Text.{text_of}
use Rattle.nfg_syn.specs.Represents.{spelling}
use Rattle.nfg_ops.proofs.Asked.{asked-both}
use Rattle.nfg_ops.proofs.Spelling.{Represents-same_known}
use Rattle.nfg_ops.proofs.Writing.{spelled-next, take-written}
use Rattle.nfg_ops.proofs.spelled.spell.Goals as goal

pub write_cluster-filled-requires-clause-known : goal.write_cluster-filled-requires-clause-known
write_cluster-filled-requires-clause-known g c κs within =
    let now = (g.T.Synthetics.seen c.loop-read.pass).known in
    let numbers = c.args.numbers.now in
    let number = get_or numbers c.loop-read.read (pos 0) in
    let same : to_z w32 (of_z w32 number) ≡ number = search rules in
    let known = Represents-same_known _ _ c.loop-read.invariant.asked.known numbers c.requires.known.0 c.requires.known.1 in
    let next = spelled-next now numbers c.requires.known.0 known c.loop-read.read c.loop-read-test.true in
    (next.0, subst (λ n. spelling now n ≡ Some next.0) (sym same) next.1)

pub loop-read-preserved : goal.loop-read-preserved
loop-read-preserved g c =
    let now = (g.T.Synthetics.seen c.loop-read.pass).known in
    let numbers = c.args.numbers.now in
    let into = c.loop-read.into in
    let part = c.write_cluster-filled.new.into in
    let filled = c.loop-read.filled in
    let count = c.write_cluster-filled.result in
    let number = get_or numbers c.loop-read.read (pos 0) in
    let same : to_z w32 (of_z w32 number) ≡ number = search rules in
    let long : length part ≡ length into - filled = search rules in
    let all : length (put_mid filled (length into - filled) into part) ≡ length into = search rules in
    record {
      high = omega (arith, c.loop-read-test.true);
      filled = omega (arith, all, long, c.write_cluster-filled.ensures.within, c.loop-read.invariant.filled);
      room = all ∙ c.loop-read.invariant.room;
      none = λ never. absurd (omega (arith, never));
      table = c.write_cluster-filled.ensures.table;
      asked = asked-both _ _ _ c.loop-read.invariant.asked c.write_cluster-filled.ensures.asked;
      written = λ clusters represents.
          let known = Represents-same_known _ _ c.loop-read.invariant.asked.known numbers clusters represents in
          let next = spelled-next now numbers clusters known c.loop-read.read c.loop-read-test.true in
          let is = c.write_cluster-filled.ensures.written next.0 (subst (λ n. spelling now n ≡ Some next.0) (sym same) next.1) in
          take-written into part filled (length into - filled) count c.loop-read.invariant.filled c.write_cluster-filled.ensures.within
          ∙ ap (λ t. t ++ take count part) (c.loop-read.invariant.written clusters represents)
          ∙ ap (λ t. text_of (take c.loop-read.read clusters) ++ t) is
          ∙ sym next.2;
    }
