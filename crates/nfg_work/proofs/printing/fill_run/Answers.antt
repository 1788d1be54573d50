use Rattle.std.proofs.Common.{◌≡◌, ◌+◌, ◌-◌, ◌∙◌, ap, sym, arith, ◌≤◌, ◌<◌, refl, length, take, drop, length-drop, length-take, slice_index_or, pos, nat_abs, w32, to_z, of_z, rules}
use Rattle.std.proofs.lemmas.List.{take-take}
use Rattle.std.proofs.lemmas.Slice.{take-put_mid}
use Rattle.nfg_work.proofs.Shown.{shown_more}
use Rattle.nfg_work.proofs.Tables.{slice_get-at}
use Rattle.nfg_work.proofs.printing.fill_run.Goals as goal

pub filling-preserved : goal.filling-preserved
filling-preserved c =
    let l = c.filling in
    let was = l.invariant in
    let put = c.put_number-len.ensures in
    let n = c.put_number-len.result in
    let bytes = c.put_number-len.new.out in
    let out = l.scratch in
    let at = l.len in
    let number = slice_index_or c.args.numbers.now l.count (pos 0) in
    let there : l.count < length c.args.numbers.now = omega (arith, c.filling-test.true) in
    let count_is = was.count in
    let len_is = was.len in
    let room = c.requires.room in
    let same_len = l.auto.scratch in
    let within : at + 9 ≤ length out = omega (arith, room, there, len_is, same_len) in
    let len : length bytes ≡ length out - at = omega (arith, c.put_number-len.auto.out, length-take (length out - at) (drop at out), length-drop at out) in
    let put_len = put.len in
    let n_is : to_z w32 (of_z w32 number) ≡ number = search rules in
    let test = c.if-numbers-count-ge0.true in
    let code = nat_abs (to_z w32 (of_z w32 number)) in
    let whole : pos code ≡ number = search rules in
    record {
      count = omega (arith, there);
      len = omega (arith, put_len, len_is);
      shown = λ known clusters are.
          sym (take-take (at + n) (at + length bytes) _ (omega arith))
          ∙ ap (take (at + n)) (take-put_mid at (length out - at) out bytes (at + length bytes) refl (omega arith))
          ∙ shown_more known c.args.numbers.now clusters l.count code at n number out bytes are (slice_get-at c.args.numbers.now l.count (pos 0) there)
          (sym whole) (omega (arith, within)) (was.shown known clusters are) put.bytes;
    }
