-- What was read for the first loads of a script, and how reading goes on.
use Rattle.std.proofs.Common.{◌≡◌, ℕ, zero, suc, ◌+◌, ◌<◌, ◌≤◌, Bool, true, false, ◌||◌, nat_lt, List, [], ◌∷◌, ◌++◌, length, drop, Option, Some, None, IfSome, slice_get, refl, sym, ap, ◌∙◌, subst, append_assoc, arith}
use Rattle.std.proofs.lemmas.Bool.{ltb-false}
use Rattle.std.proofs.lemmas.List.{append-nil, drop_all}
use Rattle.std.proofs.lemmas.List.Elements.{All-nil, All-cons}
use Rattle.nfg_io.specs.Files.{Contents}
use Rattle.nfg_script.specs.declared.command.Command.{Command}
use Rattle.nfg_script.specs.Script.{NumberedCommand, is_load, load_paths}
use Rattle.nfg_work.specs.declared.output.FileRead.{FileRead}
use Rattle.nfg_work.specs.declared.output.FileRead.TheVariants.{Bytes, TooLong, Failed}
use Rattle.nfg_work.specs.Evaluation.{file_limit, IsWithinLimit, AreWithinLimit}
use Rattle.nfg_run.specs.Headline.{AreLoadsRead, failed_load, files_limit, is_over_limit}

-- A front of what is read for the paths: it has `earlier` bytes, and what is read for the paths that
-- are left completes it.
pub record LoadsGoOn (contents : Option Contents) (paths : List (List ℕ)) (reads : List FileRead) (left : List (List ℕ)) (earlier : ℕ) : Type 0 where
  pub within : earlier ≤ files_limit
  pub read : (more : List FileRead) → AreLoadsRead contents earlier left more → AreLoadsRead contents 0 paths (reads ++ more)
  pub failed : (more : List FileRead) → failed_load paths (reads ++ more) ≡ failed_load left more

-- nothing is read yet
pub LoadsGoOn-first : (contents : Option Contents) (paths : List (List ℕ)) → LoadsGoOn contents paths [] paths 0
LoadsGoOn-first contents paths = record {
  within = omega arith;
  read = λ more are. are;
  failed = λ more. refl;
}

both_within : (earlier count : ℕ) (a b : Bool) → nat_lt file_limit count ≡ a → nat_lt files_limit (earlier + count) ≡ b
    → (a || b) ≡ false → (count ≤ file_limit) × (earlier + count ≤ files_limit)
both_within earlier count true b one all e = cc
both_within earlier count false true one all e = cc
both_within earlier count false false one all e =
    (ltb-false file_limit count one, ltb-false files_limit (earlier + count) all)

-- a file that isn't over a limit
pub within-limits : (earlier count : ℕ) → is_over_limit earlier count ≡ false
    → (count ≤ file_limit) × (earlier + count ≤ files_limit)
within-limits earlier count e = both_within earlier count _ _ refl refl e

-- the next path to read, and what was read for it
pub record IsNextRead (contents : Option Contents) (left : List (List ℕ)) (earlier : ℕ) (path : List ℕ) (rest : List (List ℕ)) (read : FileRead) : Type 0 where
  pub next : left ≡ path ∷ rest
  pub here : Option Contents
  pub unchanged : here ≡ contents
  pub one : AreLoadsRead here earlier (path ∷ []) (read ∷ [])

-- one more file is read whole
pub LoadsGoOn-bytes : (contents : Option Contents) (paths : List (List ℕ)) (reads grown : List FileRead) (left : List (List ℕ)) (earlier : ℕ)
    (path : List ℕ) (rest : List (List ℕ)) (read : FileRead) (bytes : List ℕ)
    → LoadsGoOn contents paths reads left earlier → IsNextRead contents left earlier path rest read
    → read ≡ Bytes bytes → grown ≡ reads ++ Bytes bytes ∷ []
    → LoadsGoOn contents paths grown rest (earlier + length bytes)
LoadsGoOn-bytes contents paths reads grown left earlier path rest read bytes go is same e =
    let go_on : LoadsGoOn contents paths reads (path ∷ rest) earlier = subst (λ v. LoadsGoOn contents paths reads v earlier) is.next go in
    let here : AreLoadsRead contents earlier (path ∷ []) (read ∷ []) = subst (λ v. AreLoadsRead v earlier (path ∷ []) (read ∷ [])) is.unchanged is.one in
    let one : AreLoadsRead contents earlier (path ∷ []) (Bytes bytes ∷ []) = subst (λ v. AreLoadsRead contents earlier (path ∷ []) (v ∷ [])) same here in
    record {
      within = (within-limits earlier (length bytes) one.1).1;
      read = λ more are.
          let whole : AreLoadsRead contents 0 paths (reads ++ Bytes bytes ∷ more) = go_on.read (Bytes bytes ∷ more) (one.0, one.1, are) in
          subst (AreLoadsRead contents 0 paths) (sym (ap (λ v. v ++ more) e ∙ append_assoc reads (Bytes bytes ∷ []) more)) whole;
      failed = λ more. ap (λ v. failed_load paths (v ++ more)) e ∙ ap (failed_load paths) (append_assoc reads (Bytes bytes ∷ []) more)
          ∙ go_on.failed (Bytes bytes ∷ more);
    }

failed_load-none : (paths : List (List ℕ)) → failed_load paths [] ≡ None
failed_load-none [] = refl
failed_load-none (path ∷ paths) = refl

-- the last file is too long, and none failed
pub LoadsGoOn-too_long : (contents : Option Contents) (paths : List (List ℕ)) (reads grown : List FileRead) (left : List (List ℕ)) (earlier : ℕ)
    (path : List ℕ) (rest : List (List ℕ)) (read : FileRead)
    → LoadsGoOn contents paths reads left earlier → IsNextRead contents left earlier path rest read
    → read ≡ TooLong → grown ≡ reads ++ TooLong ∷ []
    → AreLoadsRead contents 0 paths grown × (failed_load paths grown ≡ None)
LoadsGoOn-too_long contents paths reads grown left earlier path rest read go is same e =
    let go_on : LoadsGoOn contents paths reads (path ∷ rest) earlier = subst (λ v. LoadsGoOn contents paths reads v earlier) is.next go in
    let here : AreLoadsRead contents earlier (path ∷ []) (read ∷ []) = subst (λ v. AreLoadsRead v earlier (path ∷ []) (read ∷ [])) is.unchanged is.one in
    let one : AreLoadsRead contents earlier (path ∷ []) (TooLong ∷ []) = subst (λ v. AreLoadsRead contents earlier (path ∷ []) (v ∷ [])) same here in (
      subst (AreLoadsRead contents 0 paths) (sym e) (go_on.read (TooLong ∷ []) one),
      ap (failed_load paths) e ∙ go_on.failed (TooLong ∷ []) ∙ failed_load-none rest,
    )

-- the last file failed
pub LoadsGoOn-failed : (contents : Option Contents) (paths : List (List ℕ)) (reads grown : List FileRead) (left : List (List ℕ)) (earlier : ℕ)
    (path : List ℕ) (rest : List (List ℕ))
    → LoadsGoOn contents paths reads left earlier → left ≡ path ∷ rest → grown ≡ reads ++ Failed ∷ []
    → AreLoadsRead contents 0 paths grown × (failed_load paths grown ≡ Some path)
LoadsGoOn-failed contents paths reads grown left earlier path rest go next e =
    let go_on : LoadsGoOn contents paths reads (path ∷ rest) earlier = subst (λ v. LoadsGoOn contents paths reads v earlier) next go in (
      subst (AreLoadsRead contents 0 paths) (sym e) (go_on.read (Failed ∷ []) refl),
      ap (failed_load paths) e ∙ go_on.failed (Failed ∷ []),
    )

-- all commands are done
pub LoadsGoOn-last : (contents : Option Contents) (script : List NumberedCommand) (reads : List FileRead) (k earlier : ℕ)
    → LoadsGoOn contents (load_paths script) reads (load_paths (drop k script)) earlier → length script ≤ k
    → AreLoadsRead contents 0 (load_paths script) reads × (failed_load (load_paths script) reads ≡ None)
LoadsGoOn-last contents script reads k earlier go past =
    let e : load_paths (drop k script) ≡ [] = ap load_paths (drop_all k script past) in
    let none : AreLoadsRead contents earlier (load_paths (drop k script)) [] = rw e refl in (
      subst (AreLoadsRead contents 0 (load_paths script)) (append-nil reads) (go.read [] none),
      ap (failed_load (load_paths script)) (sym (append-nil reads)) ∙ go.failed [] ∙ failed_load-none (load_paths (drop k script)),
    )

none_within : AreWithinLimit []
none_within = All-nil IsWithinLimit

-- no file that was read whole is over the limit
pub AreWithinLimit-of : (contents : Option Contents) (earlier : ℕ) (paths : List (List ℕ)) (reads : List FileRead)
    → AreLoadsRead contents earlier paths reads → AreWithinLimit reads
AreWithinLimit-of contents earlier [] reads are = rw are none_within
AreWithinLimit-of contents earlier (path ∷ paths) [] are = none_within
AreWithinLimit-of contents earlier (path ∷ paths) (Failed ∷ reads) are = rw are (All-cons IsWithinLimit Failed [] tt none_within)
AreWithinLimit-of contents earlier (path ∷ paths) (TooLong ∷ reads) are = rw are.1 (All-cons IsWithinLimit TooLong [] tt none_within)
AreWithinLimit-of contents earlier (path ∷ paths) (Bytes bytes ∷ reads) are =
    All-cons IsWithinLimit (Bytes bytes) reads (within-limits earlier (length bytes) are.1).0
    (AreWithinLimit-of contents (earlier + length bytes) paths reads are.2)

-- the paths from a load on
pub load_paths-at_load : (script : List NumberedCommand) (k : ℕ) (command : Command) (path : List ℕ) → k < length script
    → IfSome (slice_get script k) (λ numbered. command ≡ numbered.command) → is_load command ≡ true
    → IfSome (slice_get script k) (λ numbered. path ≡ numbered.path)
    → load_paths (drop k script) ≡ path ∷ load_paths (drop (suc k) script)
load_paths-at_load [] k command path inside here load path_is = absurd (omega (arith, inside))
load_paths-at_load (first ∷ script) zero command path inside here load path_is =
    let e : is_load first.command ≡ true = ap is_load (sym here) ∙ load in rw (e, path_is) refl
load_paths-at_load (first ∷ script) (suc k) command path inside here load path_is =
    let within : k < length script = omega (arith, inside) in
    load_paths-at_load script k command path within here load path_is

-- the paths from another command on
pub load_paths-at_other : (script : List NumberedCommand) (k : ℕ) (command : Command) → k < length script
    → IfSome (slice_get script k) (λ numbered. command ≡ numbered.command) → is_load command ≡ false
    → load_paths (drop k script) ≡ load_paths (drop (suc k) script)
load_paths-at_other [] k command inside here other = absurd (omega (arith, inside))
load_paths-at_other (first ∷ script) zero command inside here other =
    let e : is_load first.command ≡ false = ap is_load (sym here) ∙ other in rw e refl
load_paths-at_other (first ∷ script) (suc k) command inside here other =
    let within : k < length script = omega (arith, inside) in
    load_paths-at_other script k command within here other
