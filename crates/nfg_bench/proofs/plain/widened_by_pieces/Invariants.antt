use Rattle.std.proofs.Common.{◌≡◌, ◌+◌, ◌<◌, length}
use Rattle.nfg_bench.proofs.plain.widened_by_pieces.Given as goal

abbrev pub invariant-loop-piece : goal.invariant-loop-piece
invariant-loop-piece l = record {
  counted : l.count + length l.piece-iterator.rest.now ≡ length l.bytes;
  pieces : l.piece-iterator.size ≡ l.room;
  list : length l.codes.items ≡ l.room;
  some : 0 < l.room;
}
