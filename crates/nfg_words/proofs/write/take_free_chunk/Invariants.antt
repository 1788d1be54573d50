use Rattle.std.proofs.Common.{◌≡◌, ◌+◌, ◌-◌, ◌<◌, ◌≤◌, ℕ}
use Rattle.nfg_words.specs.Layout.{chunk_count}
use Rattle.nfg_words.specs.View.{IsAmong}
use Rattle.nfg_words.specs.Words.{IsSeatOf}
use Rattle.nfg_words.specs.Writing.{FindsOn}
use Rattle.nfg_words.proofs.write.take_free_chunk.Given as goal

abbrev pub invariant-loop-chunk : goal.invariant-loop-chunk
invariant-loop-chunk g l = record {
  table : IsSeatOf l.words.shared.table_id l.n l.holder;
  within : (l.first ≤ l.chunk) × (l.chunk ≤ chunk_count l.n);
  finds : FindsOn l.fn.holder.me.0 l.holder.me.0;
  found : (chunk : ℕ) → l.first ≤ chunk → chunk < l.chunk → IsAmong l.holder.me.0.chunks chunk;
  made : l.holder.me.0.steps + l.first ≡ l.fn.holder.me.0.steps + l.chunk;
  counted : l.steps + l.first ≡ l.fn.steps + l.chunk;
}

abbrev pub decreases-loop-chunk : goal.decreases-loop-chunk
decreases-loop-chunk g l = l.count - l.chunk
