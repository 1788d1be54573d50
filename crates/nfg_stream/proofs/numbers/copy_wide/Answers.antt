use Rattle.std.proofs.Common.{◌<◌, ◌++◌, ◌∷◌, [], pos, take, map, get_or, ap, sym, ap₂, ◌∙◌, arith, w32, length}
use Rattle.std.proofs.lemmas.List.{take_more, take_more_set, map-append}
use Rattle.std.proofs.lemmas.Int.{to_z_pos}
use Rattle.nfg_stream.proofs.CollectedLemmas.{small-at}
use Rattle.nfg_stream.proofs.numbers.copy_wide.Goals as goal

pub overflow_cast-into : goal.overflow_cast-into
overflow_cast-into c = omega (arith, small-at c.args.codes.now c.codes.k 0 c.requires.text c.codes-test.true)

pub codes-preserved : goal.codes-preserved
codes-preserved c =
    let codes = c.args.codes.now in
    let k = c.codes.k in
    let x = to_z_pos w32 (get_or codes k 0) (small-at codes k 0 c.requires.text c.codes-test.true) in
    let within : k < length c.codes.into = omega (arith, c.codes-test.true, c.codes.auto.into, c.requires.room) in
    take_more_set c.codes.into k _ within
    ∙ ap₂ (λ l y. l ++ y ∷ []) c.codes.invariant x
    ∙ sym (ap (map (λ n. pos n)) (take_more codes k 0 c.codes-test.true) ∙ map-append (λ n. pos n) (take k codes) (get_or codes k 0 ∷ []))
