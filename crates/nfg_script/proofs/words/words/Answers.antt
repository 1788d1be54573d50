use Rattle.std.proofs.Common.{◌≡◌, ◌==◌, subst, rules, arith, List, ℕ, IfOk, length, nat_lt, map, Bor}
use borrow.Author.Tests.{tests}
use Rattle.std.specs.List.{slice_split, filter}
use Rattle.std.proofs.lemmas.Iterator.Splits.{YieldsList-from_str_split}
use Rattle.std.proofs.lemmas.Iterator.Adapters.{YieldsList-from_flat_map}
use Rattle.std.proofs.lemmas.Iterator.Consumers.{YieldsList-at, YieldsList-from_filter, map_from_collect}
use Rattle.nfg_script.specs.Words.{words_of}
use Rattle.nfg_script.proofs.Blanks.{both_cuts}
use Rattle.nfg_script.proofs.words.words.Goals as goal

pub returns : goal.returns
unfolding words_of
returns c =
    let cut = both_cuts (λ (b : ℕ). b == 32) (λ (b : ℕ). b == 9) c.args.line.now in
    let found = map_from_collect {v = λ (x : Bor (List ℕ)). x.now} c.collect.result c.collect.ensures.ran
    (YieldsList-from_filter _ (λ (w : List ℕ). nat_lt 0 (length w))
    (YieldsList-at c.filter.ensures.source
    (YieldsList-from_flat_map _ _ _ (λ (x : Bor (List ℕ)). x.now) (slice_split (λ (b : ℕ). b == 9)) _
    (λ x u q k. (search (rules, tests), λ j b. YieldsList-from_str_split {s = j} 9 x.now (omega arith) (search (rules, tests)) (search (rules, tests)) (search (rules, tests))))
    (YieldsList-at c.flat_map.ensures.source (YieldsList-from_str_split 32 c.args.line.now (omega arith) c.split.ensures.text c.split.ensures.has_more c.split.ensures.pattern))
    c.flat_map.ensures.closure c.flat_map.ensures.front c.flat_map.ensures.back c.flat_map.ensures.done))
    c.filter.ensures.closure (λ x r q k. search (rules, tests))) in
    subst (λ v. IfOk c.collect.result (λ words. map (λ (x : Bor (List ℕ)). x.now) words.items ≡ filter (λ (w : List ℕ). nat_lt 0 (length w)) v)) cut found
