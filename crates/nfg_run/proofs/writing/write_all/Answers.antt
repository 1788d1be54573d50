use Rattle.std.proofs.Common.{◌≡◌, ◌-◌, ◌+◌, arith}
use Rattle.nfg_run.proofs.Sending.{Grew-piece, piece-within}
use Rattle.nfg_run.proofs.writing.write_all.Goals as goal

pub writing-preserved : goal.writing-preserved
writing-preserved g c =
    let i = c.writing.invariant in
    let sent = c.writing.sent in
    let bytes = c.args.bytes.now in
    let count = c.in_ok-sent.field-0 in
    let write = c.in_ok-sent.ensures in
    let size : sent + c.min.result - sent ≡ c.min.result = omega arith in
    let fits = piece-within bytes sent c.min.result count i.within (rw size at write.bound) in
    record {
      within = fits.1;
      grew = Grew-piece _ _ _ bytes sent c.min.result count i.within fits.0 i.grew (rw size at write.taken);
      never_falls = omega (arith, i.never_falls, write.never_falls);
    }
