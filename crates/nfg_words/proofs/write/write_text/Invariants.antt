use Rattle.std.proofs.Common.{◌≡◌, ◌+◌}
use Rattle.nfg_words.specs.Words.{IsSeatOf}
use Rattle.nfg_words.specs.Writing.{WritesOn, HasWritten}
use Rattle.nfg_words.proofs.write.write_text.Given as goal

abbrev pub invariant-loop-k : goal.invariant-loop-k
invariant-loop-k g l = record {
  table : IsSeatOf l.words.shared.table_id l.n l.holder;
  writes : WritesOn l.fn.holder.me.0 l.holder.me.0;
  written : HasWritten l.holder.me.0 l.start l.k l.codes;
  made : l.holder.me.0.steps ≡ l.fn.holder.me.0.steps + l.k;
  counted : l.steps ≡ l.fn.steps + l.k;
}
