use Rattle.std.proofs.Common.{◌≡◌, refl, ◌≤◌, ◌++◌, ◌∷◌, [], suc, pos, ◌+◌, ◌<◌, length, map, take, drop, arith, ap, sym, subst, ◌∙◌}
use Rattle.std.proofs.lemmas.List.{take_more, take_more_set, length-map}
use Rattle.nfg_syn.specs.SeenLaws.{Keeps-refl, Keeps-trans, SameCounts-trans}
use Rattle.nfg_stream.specs.Collected.{kept_as, IsCounted}
use Rattle.nfg_stream.specs.Numbering.{IsCluster, AreNumbered}
use Rattle.nfg_stream.proofs.CollectedLemmas.{IsCounted-at, same_at, same_behind, kept-at, back}
use Rattle.nfg_stream.proofs.Holding.{cluster_at, cluster_short, split_at}
use Rattle.nfg_stream.proofs.Numbered.{Numbered-none, Numbered-push, made-refused}
use Rattle.nfg_stream.proofs.PassedOver.{Numbered-on, same_later}
use Rattle.nfg_stream.proofs.numbering.number_each.Goals as goal

pub final_number-requires-clause-counted : goal.final_number-requires-clause-counted
final_number-requires-clause-counted g c κs within =
    let k = c.numbering.k in
    let h : k < length c.args.numbers.now = omega (arith, c.numbering-test.true, c.numbering.invariant.count) in
    let e = back c.at-kept.result c.at-kept.type_inv ∙ c.at-kept.ensures ∙ same_at c.numbering.numbers c.args.numbers.now k (pos 0) c.numbering.invariant.rest in
    subst (IsCounted (length c.args.longer.now)) (sym e) (IsCounted-at (length c.args.longer.now) c.args.numbers.now k (pos 0) c.requires.counted h)

pub final_number-requires-clause-cluster : goal.final_number-requires-clause-cluster
final_number-requires-clause-cluster g c κs within =
    let k = c.numbering.k in
    let longer = c.args.longer.now in
    let h : k < length c.args.numbers.now = omega (arith, c.numbering-test.true, c.numbering.invariant.count) in
    let e = ap (kept_as longer) (back c.at-kept.result c.at-kept.type_inv ∙ c.at-kept.ensures) ∙ kept-at longer c.numbering.numbers c.args.numbers.now k c.numbering.invariant.rest h in
    subst IsCluster (sym e) (cluster_at (map (kept_as longer) c.args.numbers.now) k c.requires.clusters (omega (arith, h, length-map c.args.numbers.now (kept_as longer))))

pub final_number-requires-clause-short : goal.final_number-requires-clause-short
final_number-requires-clause-short g c κs within =
    let k = c.numbering.k in
    let longer = c.args.longer.now in
    let h : k < length c.args.numbers.now = omega (arith, c.numbering-test.true, c.numbering.invariant.count) in
    let e = ap (kept_as longer) (back c.at-kept.result c.at-kept.type_inv ∙ c.at-kept.ensures) ∙ kept-at longer c.numbering.numbers c.args.numbers.now k c.numbering.invariant.rest h in
    subst (λ t. length t ≤ 1024) (sym e) (cluster_short (map (kept_as longer) c.args.numbers.now) k c.requires.short (omega (arith, h, length-map c.args.numbers.now (kept_as longer))))

pub returns-in-Err-clause-keeps : goal.returns-in-Err-clause-keeps
returns-in-Err-clause-keeps g c = Keeps-trans _ _ _ c.numbering.invariant.keeps c.in-Err.ensures.keeps

pub returns-in-Err-clause-refused : goal.returns-in-Err-clause-refused
returns-in-Err-clause-refused g c =
    let k = c.numbering.k in
    let longer = c.args.longer.now in
    let heads = map (kept_as longer) c.args.numbers.now in
    let h : k < length c.args.numbers.now = omega (arith, c.numbering-test.true, c.numbering.invariant.count) in
    let e = ap (kept_as longer) (back c.at-kept.result c.at-kept.type_inv ∙ c.at-kept.ensures) ∙ kept-at longer c.numbering.numbers c.args.numbers.now k c.numbering.invariant.rest h in
    made-refused heads (take k heads) _ (drop (suc k) heads)
    (g.T.Synthetics.seen c.args.pass.now) (g.T.Synthetics.seen c.numbering.pass) (g.T.Synthetics.seen c.final_number.new.pass)
    (take k c.numbering.numbers) c.in-Err.error
    (split_at heads k (omega (arith, h, length-map c.args.numbers.now (kept_as longer))) ∙ ap (λ t. take k heads ++ t ∷ drop (suc k) heads) (sym e))
    c.requires.short c.numbering.invariant.numbered c.in-Err.ensures.number

pub numbering-init : goal.numbering-init
numbering-init g c =
    let ns = c.args.numbers.now in
    let seen = g.T.Synthetics.seen c.args.pass.now in
    record {
      within = c.next_longer-k.ensures.within;
      count = refl;
      table = c.requires.table;
      keeps = Keeps-refl seen;
      counts = record { forks = refl; meets = refl };
      numbered =
          Numbered-on c.args.longer.now ns ns 0 c.next_longer-k.result seen.known seen.known c.next_longer-k.ensures.later refl c.next_longer-k.ensures.plain
          c.requires.clusters (Numbered-none seen.known [] refl);
      room = c.requires.room;
      interned = c.requires.interned;
      rest = refl;
    }

pub numbering-preserved : goal.numbering-preserved
numbering-preserved g c =
    let k = c.numbering.k in
    let i = c.numbering.invariant in
    let longer = c.args.longer.now in
    let heads = map (kept_as longer) c.args.numbers.now in
    let h : k < length c.args.numbers.now = omega (arith, c.numbering-test.true, c.numbering.invariant.count) in
    let e = ap (kept_as longer) (back c.at-kept.result c.at-kept.type_inv ∙ c.at-kept.ensures) ∙ kept-at longer c.numbering.numbers c.args.numbers.now k i.rest h in
    let behind : drop (k + 1) c.put.new.numbers ≡ drop (k + 1) c.args.numbers.now =
    ap (drop (k + 1)) c.put.ensures ∙ same_behind c.numbering.numbers c.args.numbers.now k _ i.rest in
    let so_far =
    subst (λ cs. AreNumbered cs (g.T.Synthetics.seen c.args.pass.now).known (g.T.Synthetics.seen c.final_number.new.pass).known (take (k + 1) c.put.new.numbers))
    (ap (λ t. take k heads ++ t ∷ []) e ∙ sym (take_more heads k [] (omega (arith, h, length-map c.args.numbers.now (kept_as longer)))))
    (Numbered-push (take k heads) _ (g.T.Synthetics.seen c.args.pass.now).known
    (g.T.Synthetics.seen c.numbering.pass) (g.T.Synthetics.seen c.final_number.new.pass)
    (take k c.numbering.numbers) (take (k + 1) c.put.new.numbers) c.in-Ok.n c.in-Ok.ensures.keeps.known i.numbered
    (ap (take (k + 1)) c.put.ensures ∙ take_more_set c.numbering.numbers k _ (omega (arith, h, c.numbering.invariant.count)) ∙ ap (λ n. take k c.numbering.numbers ++ n ∷ []) (back c.in-Ok.n (rw c.in-Ok.is at c.final_number.type_inv).1.1.1.1.0.1)) c.in-Ok.ensures.number)
    in
    record {
      within = c.next_longer-k-in-numbering.ensures.within;
      count = omega (arith, c.put.auto.numbers, i.count);
      table = c.in-Ok.ensures.table;
      keeps = Keeps-trans _ _ _ i.keeps c.in-Ok.ensures.keeps;
      counts = SameCounts-trans _ _ _ i.counts c.in-Ok.ensures.counts;
      numbered =
          Numbered-on longer c.args.numbers.now c.put.new.numbers (k + 1) c.next_longer-k-in-numbering.result
          (g.T.Synthetics.seen c.args.pass.now).known (g.T.Synthetics.seen c.final_number.new.pass).known
          c.next_longer-k-in-numbering.ensures.later behind c.next_longer-k-in-numbering.ensures.plain c.requires.clusters so_far;
      room = c.in-Ok.ensures.room;
      interned = c.in-Ok.ensures.interned;
      rest = same_later c.put.new.numbers c.args.numbers.now (k + 1) c.next_longer-k-in-numbering.result c.next_longer-k-in-numbering.ensures.later behind;
    }
