use Rattle.std.proofs.Common.{◌≡◌, true, false, ⊎_elim, sym, ap, ◌∙◌}
use Rattle.std.proofs.lemmas.Bool.{cases_Bool}
use Rattle.nfg_words.proofs.Comparing.{passed_more}
use Rattle.nfg_words.proofs.Looking.{Finds-after, finds_reads, full_reads, held_reads}
use Rattle.nfg_words.specs.Comparing.{numbered}
use Rattle.nfg_words.specs.Passes.{LooksOn, view_of}
use Rattle.nfg_words.specs.SoundLaws.{same_word}
use Rattle.nfg_words.specs.declared.view.View.{View}
use Rattle.nfg_words.proofs.visit.visit.Goals as goal

pub read_text-requires-clause-passed : goal.read_text-requires-clause-passed
read_text-requires-clause-passed g c =
    let looks : LooksOn (view_of c.args.pass.now) (view_of c.find_bucket.new.pass) =
    c.find_bucket.ensures.looks (λ is. c.if-bucket-eq0.false (same_word _ _ (sym c.in-Some.is ∙ is))) in
    passed_more c.args.n (view_of c.args.pass.now) (view_of c.find_bucket.new.pass) c.args.codes.now c.args.index looks.grows.buckets looks.grows.codes c.requires.passed

pub returns-else-bucket-eq0-clause-pass : goal.returns-else-bucket-eq0-clause-pass
returns-else-bucket-eq0-clause-pass g c =
    let mid = c.find_bucket.new.pass in
    let new = c.read_text.new.holder.me.0 in
    let held = c.find_bucket.ensures.held in
    let but = c.find_bucket.ensures.but in
    let seat = c.read_text.ensures.table in
    let place = c.args.place in
    ⊎_elim
    (λ (is : c.read_text.result ≡ true). let on = c.read_text.ensures.found is in record {
      held = held_reads _ c.args.n mid c.read_text.new.holder held seat (ap (λ (v : View). v.unspent) on.same) (ap (λ (v : View). v.end) on.same) (ap (λ (v : View). v.chunks) on.same);
      in_full = full_reads (numbered (view_of mid) place) new place on but c.args.codes.now (c.read_text.ensures.here is);
    })
    (λ (is : c.read_text.result ≡ false). let on = c.read_text.ensures.other is in let other = c.read_text.ensures.differs is in record {
      held = held_reads _ c.args.n mid c.read_text.new.holder held seat (ap (λ (v : View). v.unspent) on.same) (ap (λ (v : View). v.end) on.same) (ap (λ (v : View). v.chunks) on.same);
      in_full = full_reads (view_of mid) new place on but other.0 other.1;
    })
    (cases_Bool c.read_text.result)

pub returns-else-bucket-eq0-clause-here : goal.returns-else-bucket-eq0-clause-here
returns-else-bucket-eq0-clause-here g c = λ is.
    let yes : c.read_text.result ≡ true = cc in
    let mid = view_of c.find_bucket.new.pass in
    let looks : LooksOn (view_of c.args.pass.now) mid =
    c.find_bucket.ensures.looks (λ is. c.if-bucket-eq0.false (same_word _ _ (sym c.in-Some.is ∙ is))) in
    Finds-after (view_of c.args.pass.now) mid c.read_text.new.holder.me.0 c.args.place c.args.codes.now looks
    (finds_reads mid c.read_text.new.holder.me.0 c.args.place c.args.codes.now (c.read_text.ensures.found yes) (c.read_text.ensures.here yes))
