-- What a pass has written, and the chunks that it has looked for (this project's own).
use Rattle.std.specs.Prelude.{◌≡◌, ℕ, ◌+◌, ◌<◌, List}
use Rattle.nfg_words.specs.Layout.{pair_at, chunk_count}
use Rattle.nfg_words.specs.Steps.{chunk_taken}
use Rattle.nfg_words.specs.View.{Says, IsAmong}
use Rattle.nfg_words.specs.declared.view.View.{View}

-- the pass has found more chunks taken, and nothing else of it has changed but the count of its steps
pub record FindsOn (old new : View) : Type 0 where
  pub same : new ≡ record old { chunks = new.chunks; steps = new.steps }
  pub chunks : (chunk : ℕ) → IsAmong old.chunks chunk → IsAmong new.chunks chunk

-- and then it has taken one
pub record TakesOn (old : View) (chunk : ℕ) (new : View) : Type 0 where
  pub between : View
  pub finds : FindsOn old between
  pub takes : new ≡ chunk_taken between chunk

-- the pass has written some of its code words, and nothing else of it has changed but the count of its steps
abbrev pub WritesOn : View → View → Type 0
WritesOn old new = new ≡ record old { written = new.written; steps = new.steps }

-- so many code words from `start` on are written, and are those of the text
abbrev pub HasWritten : View → ℕ → ℕ → List ℕ → Type 0
HasWritten view start count text = (c j : ℕ) → c ≡ start + j → j < count → Says view.written c (pair_at text j)

-- each chunk word was found taken
abbrev pub AreChunksSpent : ℕ → View → Type 0
AreChunksSpent n view = (chunk : ℕ) → chunk < chunk_count n → IsAmong view.chunks chunk
