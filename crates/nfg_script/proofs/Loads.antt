-- How many loads a script has, as commands come.
use Rattle.std.proofs.Common.{◌≡◌, ℕ, suc, ◌+◌, ◌≤◌, Bool, true, false, cond, List, [], ◌∷◌, ◌++◌, length, refl, arith}
use Rattle.nfg_script.specs.Script.{NumberedCommand, is_load, load_paths}

-- one more command is at most one more load
counted : (b : Bool) (path : List ℕ) (paths more : List (List ℕ)) (n : ℕ) → length more ≡ length paths + n
    → length (cond b (path ∷ more) more) ≡ length (cond b (path ∷ paths) paths) + n
counted true path paths more n e = omega arith
counted false path paths more n e = e

pub loads-push : (script : List NumberedCommand) (numbered : NumberedCommand)
    → length (load_paths (script ++ numbered ∷ [])) ≡ length (load_paths script) + cond (is_load numbered.command) 1 0
loads-push [] numbered = last (is_load numbered.command) where
  last : (b : Bool) → length (cond b (numbered.path ∷ []) []) ≡ 0 + cond b 1 0
  last true = refl
  last false = refl
loads-push (first ∷ script) numbered =
    counted (is_load first.command) first.path (load_paths script) (load_paths (script ++ numbered ∷ [])) _ (loads-push script numbered)

fewer : (b : Bool) (path : List ℕ) (paths : List (List ℕ)) (n : ℕ) → length paths ≤ n → length (cond b (path ∷ paths) paths) ≤ suc n
fewer true path paths n l = omega arith
fewer false path paths n l = omega arith

pub loads-le : (script : List NumberedCommand) → length (load_paths script) ≤ length script
loads-le [] = omega arith
loads-le (first ∷ script) = fewer (is_load first.command) first.path (load_paths script) (length script) (loads-le script)

pub one_at_most : (b : Bool) → cond b 1 0 ≤ 1
one_at_most true = omega arith
one_at_most false = omega arith
