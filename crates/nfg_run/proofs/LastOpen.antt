-- The path that is opened last.
use Rattle.std.proofs.Common.{◌≡◌, ℕ, ◌+◌, ◌≤◌, false, true, List, [], ◌∷◌, ◌++◌, length, drop, sym, ap, ◌∙◌, subst, append_assoc}
use Rattle.std.proofs.lemmas.List.{append-nil, drop_all}
use Rattle.nfg_io.specs.Files.{FilesState, HasFailedAt}
use Rattle.nfg_script.specs.Script.{NumberedCommand, load_paths}
use Rattle.nfg_work.specs.declared.output.FileRead.{FileRead}
use Rattle.nfg_work.specs.declared.output.FileRead.TheVariants.{Bytes, TooLong, Failed}
use Rattle.nfg_run.specs.Headline.{most_after, IsOpen, IsLastOpen}

-- a path that a call has failed on is open, however much was read of it
pub IsOpen-failed : (before after : FilesState) (path : List ℕ) (most : ℕ) → HasFailedAt before after path → IsOpen after path most
IsOpen-failed before after path most failed = record {
  open_path = failed.open_path;
  position = λ whole. absurd (let never : false ≡ true = sym whole ∙ failed.broken in cc);
}

-- A front of what is read for the paths, and the path that was opened last for it. What is read for the
-- paths that are left goes on from there.
pub record OpensGoOn (now : FilesState) (path : List ℕ) (most : ℕ) (paths : List (List ℕ)) (reads : List FileRead) (left : List (List ℕ)) (earlier : ℕ) : Type 0 where
  pub last : List ℕ
  pub last_most : ℕ
  pub is_open : IsOpen now last last_most
  pub rest : (after : FilesState) (more : List FileRead) → IsLastOpen after last last_most earlier left more → IsLastOpen after path most 0 paths (reads ++ more)

-- nothing is read yet
pub OpensGoOn-first : (now : FilesState) (path : List ℕ) (most : ℕ) (paths : List (List ℕ)) → IsOpen now path most → OpensGoOn now path most paths [] paths 0
OpensGoOn-first now path most paths is = record { last = path; last_most = most; is_open = is; rest = λ after more goes. goes }

-- one more file is read whole
pub OpensGoOn-bytes : (now new : FilesState) (path : List ℕ) (most : ℕ) (paths : List (List ℕ)) (reads grown : List FileRead) (left : List (List ℕ)) (earlier : ℕ)
    (next : List ℕ) (rest : List (List ℕ)) (bytes : List ℕ)
    → OpensGoOn now path most paths reads left earlier → left ≡ next ∷ rest → grown ≡ reads ++ Bytes bytes ∷ []
    → IsOpen new next (most_after earlier) → OpensGoOn new path most paths grown rest (earlier + length bytes)
OpensGoOn-bytes now new path most paths reads grown left earlier next rest bytes go here e is =
    let go_on : OpensGoOn now path most paths reads (next ∷ rest) earlier = subst (λ v. OpensGoOn now path most paths reads v earlier) here go in
    record {
      last = next;
      last_most = most_after earlier;
      is_open = is;
      rest = λ after more goes. subst (IsLastOpen after path most 0 paths) (sym (ap (λ v. v ++ more) e ∙ append_assoc reads (Bytes bytes ∷ []) more))
          (go_on.rest after (Bytes bytes ∷ more) goes);
    }

-- the last file is too long
pub OpensGoOn-too_long : (now new : FilesState) (path : List ℕ) (most : ℕ) (paths : List (List ℕ)) (reads grown : List FileRead) (left : List (List ℕ)) (earlier : ℕ)
    (next : List ℕ) (rest : List (List ℕ))
    → OpensGoOn now path most paths reads left earlier → left ≡ next ∷ rest → grown ≡ reads ++ TooLong ∷ []
    → IsOpen new next (most_after earlier) → IsLastOpen new path most 0 paths grown
OpensGoOn-too_long now new path most paths reads grown left earlier next rest go here e is =
    let go_on : OpensGoOn now path most paths reads (next ∷ rest) earlier = subst (λ v. OpensGoOn now path most paths reads v earlier) here go in
    subst (IsLastOpen new path most 0 paths) (sym e) (go_on.rest new (TooLong ∷ []) is)

-- the last file failed
pub OpensGoOn-failed : (now new : FilesState) (path : List ℕ) (most : ℕ) (paths : List (List ℕ)) (reads grown : List FileRead) (left : List (List ℕ)) (earlier : ℕ)
    (next : List ℕ) (rest : List (List ℕ))
    → OpensGoOn now path most paths reads left earlier → left ≡ next ∷ rest → grown ≡ reads ++ Failed ∷ []
    → IsOpen new next (most_after earlier) → IsLastOpen new path most 0 paths grown
OpensGoOn-failed now new path most paths reads grown left earlier next rest go here e is =
    let go_on : OpensGoOn now path most paths reads (next ∷ rest) earlier = subst (λ v. OpensGoOn now path most paths reads v earlier) here go in
    subst (IsLastOpen new path most 0 paths) (sym e) (go_on.rest new (Failed ∷ []) is)

-- all commands are done
pub OpensGoOn-last : (now : FilesState) (path : List ℕ) (most : ℕ) (script : List NumberedCommand) (reads : List FileRead) (k earlier : ℕ)
    → OpensGoOn now path most (load_paths script) reads (load_paths (drop k script)) earlier → length script ≤ k
    → IsLastOpen now path most 0 (load_paths script) reads
OpensGoOn-last now path most script reads k earlier go past =
    let none : load_paths (drop k script) ≡ [] = ap load_paths (drop_all k script past) in
    let go_on : OpensGoOn now path most (load_paths script) reads [] earlier =
    subst (λ v. OpensGoOn now path most (load_paths script) reads v earlier) none go in
    subst (IsLastOpen now path most 0 (load_paths script)) (append-nil reads) (go_on.rest now [] go_on.is_open)
