use Rattle.std.proofs.Common.{refl, arith}
use Rattle.nfg_words.specs.Passes.{view_of}
use Rattle.nfg_words.proofs.Comparing.{reads_on, says_read}
use Rattle.nfg_words.proofs.KnownLemmas.{code_named, code_read}
use Rattle.nfg_words.proofs.Looking.{Grows-trans, LooksOn-trans, ReadsOn-refl, looks_reads, pass_reads}
use Rattle.nfg_words.proofs.read.read_word.Goals as goal

pub read_codes-requires-clause-named : goal.read_codes-requires-clause-named
read_codes-requires-clause-named g c =
    let is_start = c.start_of.ensures in
    code_named c.args.n (view_of c.args.pass.now) (view_of c.read_again-bucket.new.pass) c.requires.pass.held.seat.sound c.read_again-bucket.ensures.looks.grows.buckets c.args.place c.requires.read.0 c.requires.read.1
    c.args.k c.read_again-bucket.result _ c.read_again-bucket.ensures.recorded c.requires.read.2 (omega arith)

pub returns-clause-pass : goal.returns-clause-pass
returns-clause-pass g c =
    let mid = view_of c.read_again-bucket.new.pass in
    let new = c.read_codes.new.holder.me.0 in
    pass_reads _ c.args.n c.read_again-bucket.new.pass c.read_codes.new.holder c.read_again-bucket.ensures.pass c.read_codes.ensures.table
    (reads_on mid mid new _ _ (ReadsOn-refl mid) c.read_codes.ensures.grows.codes c.read_codes.ensures.read)

pub returns-clause-looks : goal.returns-clause-looks
returns-clause-looks g c =
    let mid = view_of c.read_again-bucket.new.pass in
    let new = c.read_codes.new.holder.me.0 in
    LooksOn-trans (view_of c.args.pass.now) mid new c.read_again-bucket.ensures.looks
    (looks_reads mid new (reads_on mid mid new _ _ (ReadsOn-refl mid) c.read_codes.ensures.grows.codes c.read_codes.ensures.read))

pub returns-clause-even : goal.returns-clause-even
returns-clause-even g c = λ text read low.
    let old = view_of c.args.pass.now in
    let mid = view_of c.read_again-bucket.new.pass in
    let new = c.read_codes.new.holder.me.0 in
    let is_start = c.start_of.ensures in
    (code_read c.args.n old new c.requires.pass.held.seat.sound c.read_codes.ensures.table.sound (Grows-trans old mid new c.read_again-bucket.ensures.looks.grows c.read_codes.ensures.grows) c.args.place text read
    c.args.k c.read_again-bucket.result _ c.read_codes.result c.read_again-bucket.ensures.recorded low (omega arith) (says_read mid new _ _ _ c.read_codes.ensures.read refl)).0

pub returns-clause-odd : goal.returns-clause-odd
returns-clause-odd g c = λ text read low.
    let old = view_of c.args.pass.now in
    let mid = view_of c.read_again-bucket.new.pass in
    let new = c.read_codes.new.holder.me.0 in
    let is_start = c.start_of.ensures in
    (code_read c.args.n old new c.requires.pass.held.seat.sound c.read_codes.ensures.table.sound (Grows-trans old mid new c.read_again-bucket.ensures.looks.grows c.read_codes.ensures.grows) c.args.place text read
    c.args.k c.read_again-bucket.result _ c.read_codes.result c.read_again-bucket.ensures.recorded low (omega arith) (says_read mid new _ _ _ c.read_codes.ensures.read refl)).1
