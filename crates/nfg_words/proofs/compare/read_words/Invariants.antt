use Rattle.std.proofs.Common.{◌≡◌, ◌+◌}
use Rattle.nfg_words.specs.Comparing.{ReadsOn, AreRecorded}
use Rattle.nfg_words.specs.Layout.{start_of}
use Rattle.nfg_words.specs.Words.{IsSeatOf}
use Rattle.nfg_words.proofs.compare.read_words.Given as goal

abbrev pub invariant-loop-k : goal.invariant-loop-k
invariant-loop-k g l = record {
  table : IsSeatOf l.words.shared.table_id l.n l.holder;
  reads : ReadsOn l.fn.holder.me.0 l.holder.me.0;
  recorded : AreRecorded l.holder.me.0 (start_of l.bucket) l.k;
  made : l.holder.me.0.steps ≡ l.fn.holder.me.0.steps + l.k;
  counted : l.steps ≡ l.fn.steps + l.k;
}
