use Rattle.std.proofs.Common.{◌≡◌, ◌<◌, length, take, None, Some, MatchOption}
use Rattle.std.specs.FinMap.{get}
use Rattle.nfg_io.specs.Entries.{paths_of, bytes_at}
use Rattle.nfg_io.proofs.stored_file.find.Given as goal

-- what was found so far is right of the files so far
abbrev pub invariant-loop-index : goal.invariant-loop-index
invariant-loop-index l =
    MatchOption l.found
    (get (paths_of (take l.index l.files)) l.path ≡ None)
    (λ k. (k < length l.files) × (get (paths_of (take l.index l.files)) l.path ≡ Some (bytes_at l.files k)))
