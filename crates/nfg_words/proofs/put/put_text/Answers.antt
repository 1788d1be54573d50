use Rattle.std.proofs.Common.{◌<◌, ℕ, subst, arith}
use Rattle.nfg_words.proofs.ProbeTableLemmas.{within_size}
use Rattle.nfg_words.proofs.Putting.{can_publish, finds_published, full_published}
use Rattle.nfg_words.proofs.put.put_text.Goals as goal

pub publish_bucket-found-requires-clause-place : goal.publish_bucket-found-requires-clause-place
publish_bucket-found-requires-clause-place g c = subst (λ (p : ℕ). p < c.args.n) c.requires.reaches (within_size c.args.n c.args.codes.now c.args.index c.requires.index)

pub publish_bucket-found-requires-clause-can : goal.publish_bucket-found-requires-clause-can
publish_bucket-found-requires-clause-can g c =
    let pass = c.args.pass.now in
    let room = c.requires.ready.room in
    let held_end = c.requires.held.end in (
      c.args.codes.now,
      can_publish _ pass.unspent c.args.codes.now c.bucket_word-bucket.ensures c.requires.storable pass.holder.me.0 (λ i. let fits = c.type_inv.codes i in omega (arith, fits)) c.requires.ready.written
          c.args.n c.args.place c.args.index c.requires.held.unspent (omega arith) c.requires.index c.requires.reaches c.requires.passed,
    )

pub returns-then-found-eq0-clause-put : goal.returns-then-found-eq0-clause-put
returns-then-found-eq0-clause-put g c = λ is.
    let pass = c.args.pass.now in
    finds_published _ pass.unspent c.args.codes.now c.bucket_word-bucket.ensures c.requires.storable pass.holder.me.0 (λ i. let fits = c.type_inv.codes i in omega (arith, fits)) c.requires.ready.written
    _ c.args.place (c.publish_bucket-found.ensures.published is) c.publish_bucket-found.ensures.grows

pub returns-then-found-eq0-clause-put_in_full : goal.returns-then-found-eq0-clause-put_in_full
returns-then-found-eq0-clause-put_in_full g c = λ is.
    let pass = c.args.pass.now in
    full_published _ pass.unspent c.args.codes.now c.bucket_word-bucket.ensures c.requires.storable pass.holder.me.0 (λ i. let fits = c.type_inv.codes i in omega (arith, fits)) c.requires.ready.written
    _ c.args.place (c.publish_bucket-found.ensures.published is) c.publish_bucket-found.ensures.grows c.requires.in_full
