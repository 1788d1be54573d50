-- What a pass has written, and the chunks that it has found taken, one step after another.
use Rattle.std.proofs.Common.{◌≡◌, ◌≢◌, ℕ, ◌+◌, ◌<◌, ◌≤◌, List, Some, inl, inr, ⊎_elim, sym, ap, ◌∙◌, subst, arith}
use mathlib.Core.Logic.{dite}
use native.Mathlib.Decide.{ℕ_discrete}
use Rattle.nfg_words.proofs.Entries.{entry-cons, says-first, says-without}
use Rattle.nfg_words.specs.Layout.{pair_at}
use Rattle.nfg_words.specs.Steps.{chunk_found, codes_written, without}
use Rattle.nfg_words.specs.View.{entry, Says, IsAmong}
use Rattle.nfg_words.specs.Writing.{FindsOn, WritesOn, HasWritten}
use Rattle.nfg_words.specs.declared.view.View.{View}

-- what was written stays where another code word is written
says-written : (old : View) (c word k found : ℕ) → k ≢ c → Says old.written k found → Says (codes_written old c word).written k found
says-written old c word k found differ says = ⊎_elim
    (λ here. absurd (differ (sym here.0)))
    (λ past. past.1 ∙ says-without c old.written k found differ says)
    (entry-cons c word (without c old.written) k)

-- one code word more of a text
pub written_more : (old new : View) (start count c word : ℕ) (text : List ℕ) → c ≡ start + count → word ≡ pair_at text count → new ≡ codes_written old c word
    → HasWritten old start count text → HasWritten new start (count + 1) text
written_more old new start count c word text at is written known k j is_at low =
    ap (λ (v : View). entry v.written k) written ∙ dite (ℕ_discrete j count)
    (λ same. let here : k ≡ c = omega arith in
    ap (entry (codes_written old c word).written) here ∙ (says-first c word (without c old.written) ∙ ap (λ m. Some m) (is ∙ ap (pair_at text) (sym same))))
    (λ differ. says-written old c word k (pair_at text j) (λ same. differ (omega arith)) (known k j is_at (omega arith)))

pub writes_more : (first old new : View) (c word : ℕ) → WritesOn first old → new ≡ codes_written old c word → WritesOn first new
writes_more first old new c word on is =
    is ∙ (ap (λ (v : View). codes_written v c word) on ∙ ap (λ (v : View). record first { written = v.written; steps = v.steps }) (sym is))

-- one chunk more is found taken
pub finds_more : (first old new : View) (chunk : ℕ) → FindsOn first old → new ≡ chunk_found old chunk → FindsOn first new
finds_more first old new chunk on is = record {
  same = is ∙ (ap (λ (v : View). chunk_found v chunk) on.same ∙ ap (λ (v : View). record first { chunks = v.chunks; steps = v.steps }) (sym is));
  chunks = λ other among. subst (λ (v : View). IsAmong v.chunks other) (sym is) (inr (on.chunks other among));
}

pub found_more : (old new : View) (first chunk : ℕ) → new ≡ chunk_found old chunk → ((other : ℕ) → first ≤ other → other < chunk → IsAmong old.chunks other)
    → (other : ℕ) → first ≤ other → other < chunk + 1 → IsAmong new.chunks other
found_more old new first chunk is found other low high = subst (λ (v : View). IsAmong v.chunks other) (sym is) (dite (ℕ_discrete other chunk)
    (λ same. inl (sym same))
    (λ differ. inr (found other low (omega arith))))
