use Rattle.std.proofs.Common.{Ok, sym, ap, ◌∙◌, arith}
use Rattle.nfg_words.proofs.Comparing.{passed_more}
use Rattle.nfg_words.proofs.Looking.{Finds-after, Grows-trans, LooksOn-trans, found_more, found_one, found_seen, found_within, ok_apart, passed_next}
use Rattle.nfg_words.specs.Comparing.{IsFound}
use Rattle.nfg_words.specs.Passes.{view_of}
use Rattle.nfg_words.specs.View.{places_of}
use Rattle.nfg_words.proofs.walk.walk.Goals as goal

pub returns-then-here-clause-found : goal.returns-then-here-clause-found
returns-then-here-clause-found g c =
    let finds = c.visit.ensures.here (c.in-Ok.is ∙ ap (λ b. Ok b) c.if-here.true) in
    record {
      here = finds.here;
      index = c.loop-index.index;
      on_sequence = c.loop-index-test.true;
      reaches = sym c.probed_place-place.ensures.place;
      passed = passed_more c.args.n (view_of c.loop-index.pass) (view_of c.visit.new.pass) c.args.codes.now c.loop-index.index finds.grows.buckets finds.grows.codes c.loop-index.invariant.passed;
    }

pub returns-then-here-clause-finds : goal.returns-then-here-clause-finds
returns-then-here-clause-finds g c =
    Finds-after (view_of c.args.pass.now) (view_of c.loop-index.pass) (view_of c.visit.new.pass) c.probed_place-place.result c.args.codes.now c.loop-index.invariant.looks
    (c.visit.ensures.here (c.in-Ok.is ∙ ap (λ b. Ok b) c.if-here.true))

pub returns-then-here-clause-already_found : goal.returns-then-here-clause-already_found
returns-then-here-clause-already_found g c = λ k found.
    let finds = c.visit.ensures.here (c.in-Ok.is ∙ ap (λ b. Ok b) c.if-here.true) in
    let first = view_of c.args.pass.now in
    let old = view_of c.loop-index.pass in
    let new = view_of c.visit.new.pass in
    let here : IsFound c.args.n (places_of new) c.probed_place-place.result c.args.codes.now = returns-then-here-clause-found g c in
    ap (λ p. Ok p) (found_one c.args.n (places_of new) c.args.codes.now _ k here
    (found_more c.args.n first new k c.args.codes.now (Grows-trans first old new c.loop-index.invariant.looks.grows finds.grows) found))

pub returns-in-Err-clause-already_found : goal.returns-in-Err-clause-already_found
returns-in-Err-clause-already_found g c = λ k found.
    let first = view_of c.args.pass.now in
    let old = view_of c.loop-index.pass in
    absurd (found_seen c.args.n (places_of old) c.args.codes.now k c.loop-index.index _ (found_more c.args.n first old k c.args.codes.now c.loop-index.invariant.looks.grows found)
    c.loop-index.invariant.passed (sym c.probed_place-place.ensures.place) c.in-Err.ensures.unseen)

pub returns-then-here-clause-no_chunk : goal.returns-then-here-clause-no_chunk
returns-then-here-clause-no_chunk g c = λ room. c.visit.ensures.no_chunk (c.loop-index.invariant.still_room room) ∙ c.loop-index.invariant.no_chunk room

pub returns-then-here-clause-found_no_chunk : goal.returns-then-here-clause-found_no_chunk
returns-then-here-clause-found_no_chunk g c = λ k found. c.visit.ensures.seen (λ none.
    let first = view_of c.args.pass.now in
    let old = view_of c.loop-index.pass in
    found_seen c.args.n (places_of old) c.args.codes.now k c.loop-index.index _ (found_more c.args.n first old k c.args.codes.now c.loop-index.invariant.looks.grows found)
    c.loop-index.invariant.passed (sym c.probed_place-place.ensures.place) none) ∙ c.loop-index.invariant.found_no_chunk k found

pub returns-in-Err-clause-no_chunk : goal.returns-in-Err-clause-no_chunk
returns-in-Err-clause-no_chunk g c = λ room. c.visit.ensures.no_chunk (c.loop-index.invariant.still_room room) ∙ c.loop-index.invariant.no_chunk room

pub returns-in-Err-clause-found_no_chunk : goal.returns-in-Err-clause-found_no_chunk
returns-in-Err-clause-found_no_chunk g c = λ k found. c.visit.ensures.seen (λ none.
    let first = view_of c.args.pass.now in
    let old = view_of c.loop-index.pass in
    found_seen c.args.n (places_of old) c.args.codes.now k c.loop-index.index _ (found_more c.args.n first old k c.args.codes.now c.loop-index.invariant.looks.grows found)
    c.loop-index.invariant.passed (sym c.probed_place-place.ensures.place) none) ∙ c.loop-index.invariant.found_no_chunk k found

pub loop-index-preserved : goal.loop-index-preserved
loop-index-preserved g c =
    let is = c.in-Ok.is ∙ ap (λ b. Ok b) c.if-here.false in
    let inv = c.loop-index.invariant in
    let old = view_of c.loop-index.pass in
    let new = view_of c.visit.new.pass in
    let looks = c.visit.ensures.looks (ok_apart c.visit.result is) in
    let text = c.args.codes.now in
    record {
      pass = c.visit.ensures.pass;
      looks = LooksOn-trans (view_of c.args.pass.now) old new inv.looks looks;
      ready = c.visit.ensures.still_ready is;
      passed = passed_next c.args.n new text c.loop-index.index c.probed_place-place.result
          (passed_more c.args.n old new text c.loop-index.index looks.grows.buckets looks.grows.codes inv.passed) (sym c.probed_place-place.ensures.place) (c.visit.ensures.other is);
      chunks = let now = c.visit.ensures.chunks c.in-Ok.here c.in-Ok.is in let was = inv.chunks in omega arith;
      no_chunk = λ room. c.visit.ensures.no_chunk (inv.still_room room) ∙ inv.no_chunk room;
      still_room = λ room. c.visit.ensures.still_room (ok_apart c.visit.result is) (inv.still_room room);
      found_no_chunk = λ k found. c.visit.ensures.seen (λ none.
          let first = view_of c.args.pass.now in
          let old = view_of c.loop-index.pass in
          found_seen c.args.n (places_of old) c.args.codes.now k c.loop-index.index _ (found_more c.args.n first old k c.args.codes.now c.loop-index.invariant.looks.grows found)
          c.loop-index.invariant.passed (sym c.probed_place-place.ensures.place) none) ∙ inv.found_no_chunk k found;
      made = let now = c.visit.ensures.made c.in-Ok.here c.in-Ok.is in let was = inv.made in omega arith;
      counted = let now = c.visit.ensures.counted in let was = inv.counted in omega arith;
    }

pub returns-clause-already_found : goal.returns-clause-already_found
returns-clause-already_found g c = λ k found.
    let first = view_of c.args.pass.now in
    let last = view_of c.loop-index.pass in
    let all = c.loop-index-test.false in
    absurd (found_within c.args.n (places_of last) c.args.codes.now k (found_more c.args.n first last k c.args.codes.now c.loop-index.invariant.looks.grows found)
    (λ earlier low. c.loop-index.invariant.passed earlier (omega arith)))
