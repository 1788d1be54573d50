use Rattle.std.proofs.Common.{◌≡◌, ℕ, length, get_or, sym, subst, ◌∙◌, ap, arith}
use Rattle.std.proofs.lemmas.Grind.{common_steps}
use Rattle.std.proofs.lemmas.List.{length-replicate}
use Rattle.atomic_table.specs.Table.{Me}
use Rattle.nfg_words.specs.Words.{IsSound}
use Rattle.nfg_words.specs.Layout.{word_count}
use Rattle.nfg_words.specs.declared.view.View.{View}
use Rattle.nfg_words.proofs.Asks.{fresh_sound}
use Rattle.nfg_words.proofs.words.new_words.Goals as goal

pub returns-clause-table : goal.returns-clause-table
returns-clause-table c =
    let made = c.in_ok-words.ensures in
    let all = c.in_ok-zeros.ensures.items_if_clones_equal (λ y same. same) in
    let zeros : (index : ℕ) → get_or c.as_slice.result.now index 0 ≡ 0 = λ index. grind (arith, common_steps) in
    let long : length c.as_slice.result.now ≡ word_count c.args.n = ap length c.as_slice.ensures.value ∙ (ap length all ∙ (length-replicate _ _ ∙ c.word_count.ensures)) in
    record {
      table = made.2;
      words = made.0 ∙ long;
      size = ap (λ (me : Me ℕ View). me.0.size) made.4;
      no_slots = ap (λ (me : Me ℕ View). me.1) made.4;
      sound = subst (λ (me : Me ℕ View). IsSound c.args.n me.0) (sym made.4) (fresh_sound c.args.n c.as_slice.result.now long zeros);
    }
