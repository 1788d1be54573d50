use Rattle.std.proofs.Common.{◌≡◌, ◌-◌, ◌<◌, ◌≤◌, map, take, length}
use Rattle.nfg_passes.specs.Ids.{id_number}
use Rattle.nfg_passes.specs.Unsettled.{IsSettledText}
use Rattle.nfg_segment.proofs.settled_run.settled_front.Given as goal

abbrev pub invariant-loop-front : goal.invariant-loop-front
invariant-loop-front l = record {
  front : l.front ≤ l.end;
  end : l.end ≤ l.most;
  some : 0 < l.end;
  settled : IsSettledText (take l.front l.text);
  ids : take l.front l.ids ≡ map id_number (take l.front l.text);
  size : length l.ids ≡ 256;
}

abbrev pub decreases-loop-front : goal.decreases-loop-front
decreases-loop-front l = l.most - l.end
