use Rattle.std.proofs.Common.{◌≡◌, ◌≢◌, inl, ◌+◌, ◌-◌, ◌/◌, ℕ, sym, ◌∙◌, arith}
use Rattle.std.proofs.lemmas.Bool.{eqb-true, eqb-false}
use Rattle.nfg_words.specs.Layout.{length_of, pair_at}
use Rattle.nfg_words.proofs.Comparing.{read_other, bucket_some, bucket_lengths, still_says, passed_more, last_named, last_justified, whole_same, whole_other, last_other, says_read, says_numbered}
use Rattle.nfg_words.proofs.compare.read_text.Goals as goal

pub read_front-same-requires-clause-length : goal.read_front-same-requires-clause-length
read_front-same-requires-clause-length g c = bucket_lengths c.args.n c.args.holder.now.me.0 c.requires.table.sound c.args.place c.args.bucket c.requires.bucket

pub overflow_sub-index_of_last : goal.overflow_sub-index_of_last
overflow_sub-index_of_last g c =
    let long = (bucket_lengths c.args.n c.args.holder.now.me.0 c.requires.table.sound c.args.place c.args.bucket c.requires.bucket).0 in omega arith

pub number_codes-requires-clause-named : goal.number_codes-requires-clause-named
number_codes-requires-clause-named g c =
    let long = (bucket_lengths c.args.n c.args.holder.now.me.0 c.requires.table.sound c.args.place c.args.bucket c.requires.bucket).0 in
    let front = c.read_front-same.new.holder.me.0 in
    last_named front c.args.place c.args.bucket _ (still_says c.args.holder.now.me.0 front c.args.place c.args.bucket c.read_front-same.ensures.reads c.requires.bucket) long (omega arith)

pub number_codes-requires-clause-justified : goal.number_codes-requires-clause-justified
number_codes-requires-clause-justified g c =
    let sound = c.requires.table.sound in
    let old = c.args.holder.now.me.0 in
    let front = c.read_front-same.new.holder.me.0 in
    let place = c.args.place in
    let bucket = c.args.bucket in
    let long = (bucket_lengths c.args.n old sound place bucket c.requires.bucket).0 in
    let text = c.args.codes.now in
    let count : ℕ = (c.length_of-length.result + 1) / 2 - 1 in
    let reads = c.read_front-same.ensures.reads in
    let same = c.read_front-same.ensures.same c.if-same.true in
    let is_length = c.length_of-length.ensures in
    let is_start = c.start_of.ensures in
    let says = still_says old front place bucket reads c.requires.bucket in
    last_justified front place bucket count says (omega arith) text (bucket_some c.args.n old sound place bucket c.requires.bucket) (λ i. let fits = c.type_inv.codes i in omega (arith, fits)) same.0
    (λ k j is low. same.1 k j is (omega arith)) c.args.n c.args.index _ _ (omega arith) c.pair_of-wanted.ensures c.requires.index c.requires.reaches
    (passed_more c.args.n old front text c.args.index (λ k w s. still_says old front k w reads s) reads.codes c.requires.passed)

pub read_codes-requires-clause-named : goal.read_codes-requires-clause-named
read_codes-requires-clause-named g c =
    let long = (bucket_lengths c.args.n c.args.holder.now.me.0 c.requires.table.sound c.args.place c.args.bucket c.requires.bucket).0 in
    let front = c.read_front-same.new.holder.me.0 in
    last_named front c.args.place c.args.bucket _ (still_says c.args.holder.now.me.0 front c.args.place c.args.bucket c.read_front-same.ensures.reads c.requires.bucket) long (omega arith)

pub returns-then-same-clause-here : goal.returns-then-same-clause-here
returns-then-same-clause-here g c = λ is.
    let sound = c.requires.table.sound in
    let old = c.args.holder.now.me.0 in
    let front = c.read_front-same.new.holder.me.0 in
    let new = c.number_codes.new.holder.me.0 in
    let place = c.args.place in
    let bucket = c.args.bucket in
    let long = (bucket_lengths c.args.n old sound place bucket c.requires.bucket).0 in
    let text = c.args.codes.now in
    let count : ℕ = (c.length_of-length.result + 1) / 2 - 1 in
    let reads = c.read_front-same.ensures.reads in
    let same = c.read_front-same.ensures.same c.if-same.true in
    let is_length = c.length_of-length.ensures in
    let is_start = c.start_of.ensures in
    let says = still_says old front place bucket reads c.requires.bucket in
    let found : c.number_codes.result ≡ c.pair_of-wanted.result = eqb-true _ _ is in
    whole_same front place bucket count says (omega arith) text (bucket_some c.args.n old sound place bucket c.requires.bucket) (λ i. let fits = c.type_inv.codes i in omega (arith, fits)) same.0
    (λ k j is low. same.1 k j is (omega arith)) new c.number_codes.ensures.grows.codes (c.number_codes.ensures.grows.buckets place bucket says)
    (says_numbered front new _ _ place _ (pair_at text count) (c.number_codes.ensures.numbered found) (omega arith) (found ∙ c.pair_of-wanted.ensures))

pub returns-then-same-clause-differs : goal.returns-then-same-clause-differs
returns-then-same-clause-differs g c = λ is.
    let sound = c.requires.table.sound in
    let old = c.args.holder.now.me.0 in
    let front = c.read_front-same.new.holder.me.0 in
    let new = c.number_codes.new.holder.me.0 in
    let place = c.args.place in
    let bucket = c.args.bucket in
    let long = (bucket_lengths c.args.n old sound place bucket c.requires.bucket).0 in
    let text = c.args.codes.now in
    let count : ℕ = (c.length_of-length.result + 1) / 2 - 1 in
    let reads = c.read_front-same.ensures.reads in
    let is_length = c.length_of-length.ensures in
    let is_start = c.start_of.ensures in
    let says = still_says old front place bucket reads c.requires.bucket in
    let other : c.number_codes.result ≢ c.pair_of-wanted.result = eqb-false _ _ is in
    last_other front place bucket count says (omega arith) text c.args.n new c.number_codes.ensures.table.sound c.number_codes.ensures.grows.codes (c.number_codes.ensures.grows.buckets place bucket says)
    c.number_codes.result (says_read front new _ _ _ (c.number_codes.ensures.read other) (omega arith)) (λ k low high. c.read_front-same.ensures.recorded k low (omega arith))
    (λ same. other (same ∙ sym c.pair_of-wanted.ensures))

pub returns-then-same-clause-made : goal.returns-then-same-clause-made
returns-then-same-clause-made g c =
    let long = (bucket_lengths c.args.n c.args.holder.now.me.0 c.requires.table.sound c.args.place c.args.bucket c.requires.bucket).1 in
    let front = c.read_front-same.ensures.made in let last = c.number_codes.ensures.made in omega arith

pub returns-else-same-clause-differs : goal.returns-else-same-clause-differs
returns-else-same-clause-differs g c = λ is.
    let sound = c.requires.table.sound in
    let old = c.args.holder.now.me.0 in
    let front = c.read_front-same.new.holder.me.0 in
    let new = c.read_codes.new.holder.me.0 in
    let place = c.args.place in
    let bucket = c.args.bucket in
    let long = (bucket_lengths c.args.n old sound place bucket c.requires.bucket).0 in
    let text = c.args.codes.now in
    let count : ℕ = (length_of bucket + 1) / 2 - 1 in
    let whole : count + 1 ≡ (length_of bucket + 1) / 2 = omega arith in
    let reads = c.read_front-same.ensures.reads in
    let is_length = c.length_of-length.ensures in
    let is_start = c.start_of.ensures in
    let says = still_says old front place bucket reads c.requires.bucket in
    whole_other front place bucket count says whole text c.args.n new c.read_codes.ensures.table.sound c.read_codes.ensures.grows.codes (c.read_codes.ensures.grows.buckets place bucket says)
    c.read_codes.result (says_read front new _ _ _ c.read_codes.ensures.read (omega arith)) (λ k low high. c.read_front-same.ensures.recorded k low (omega arith))
    (c.read_front-same.ensures.other c.if-same.false)

pub returns-else-same-clause-made : goal.returns-else-same-clause-made
returns-else-same-clause-made g c =
    let long = (bucket_lengths c.args.n c.args.holder.now.me.0 c.requires.table.sound c.args.place c.args.bucket c.requires.bucket).1 in
    let front = c.read_front-same.ensures.made in let last = c.read_codes.ensures.made in omega arith

pub returns-then-length-codes-clause-differs : goal.returns-then-length-codes-clause-differs
returns-then-length-codes-clause-differs g c = λ is.
    let new = c.read_words.new.holder.me.0 in
    let on = c.read_words.ensures.reads in
    read_other c.args.n new c.read_words.ensures.table.sound c.args.place c.args.bucket (still_says c.args.holder.now.me.0 new c.args.place c.args.bucket on c.requires.bucket)
    c.args.codes.now c.read_words.ensures.recorded (inl (λ same. c.if-length-codes.true (c.length_of-length.ensures ∙ sym same)))

pub returns-then-length-codes-clause-made : goal.returns-then-length-codes-clause-made
returns-then-length-codes-clause-made g c =
    let long = (bucket_lengths c.args.n c.args.holder.now.me.0 c.requires.table.sound c.args.place c.args.bucket c.requires.bucket).1 in
    let all = c.read_words.ensures.made in omega arith
