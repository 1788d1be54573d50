use Rattle.std.proofs.Common.{◌≡◌, ◌+◌, ◌-◌, ◌∙◌, ap, sym, arith, ◌≤◌, refl, length, take, drop, length-drop, length-take}
use Rattle.std.proofs.lemmas.List.{take-take}
use Rattle.std.proofs.lemmas.Slice.{take-put_mid}
use Rattle.nfg_encode.proofs.TextLemmas.{code_more}
use Rattle.nfg_encode.proofs.part.fill_each.Goals as goal

pub loop-code-preserved : goal.loop-code-preserved
loop-code-preserved c =
    let l = c.loop-code in
    let was = l.invariant in
    let put = c.put_code-at.ensures in
    let n = c.put_code-at.result in
    let bytes = c.put_code-at.new.out in
    let out = l.out in
    let at = l.at in
    let len : length bytes ≡ length out - at = omega (arith, c.put_code-at.auto.out, length-take (length out - at) (drop at out), length-drop at out) in
    let put_len = put.len in
    let within : at + 4 ≤ length out = omega (arith, c.requires.room) in
    record {
      within = omega (arith, put.len);
      bytes =
          sym (take-take (at + n) (at + length bytes) _ (omega arith))
          ∙ ap (take (at + n)) (take-put_mid at (length out - at) out bytes (at + length bytes) refl (omega arith))
          ∙ code_more c.args.e c.args.codes.now out bytes at l.code-index n c.loop-code-test.true (omega arith) was.bytes put.bytes (omega arith);
    }
