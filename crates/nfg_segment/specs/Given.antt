-- What has been given out (this project's own).
use Rattle.std.specs.Prelude.{◌≡◌, ℕ, Bool, List, [], ◌∷◌, ◌++◌, length, take, Option, Some, None, if◌then◌else◌}
use Rattle.nfg_text.specs.Graphemes.{is_too_long}

-- clusters in order, each by its first 1,024 code points, and the index of the first that is too long
pub record Given : Type 0 where
  pub heads : List (List ℕ)
  pub first_long : Option ℕ

-- none
abbrev pub nothing : Given
nothing = record { heads = []; first_long = None }

-- the index that is known, or else this one where the cluster there is too long
abbrev pub first_or : Option ℕ → Bool → ℕ → Option ℕ
first_or (Some k) is_long here = Some k
first_or None is_long here = if is_long then Some here else None

-- one cluster more, by its first code points
abbrev pub with_head : Given → List ℕ → Bool → Given
with_head given head is_long =
    record {
      heads = given.heads ++ head ∷ [];
      first_long = first_or given.first_long is_long (length given.heads);
    }

-- one cluster more
abbrev pub with_cluster : Given → List ℕ → Given
with_cluster given cluster = with_head given (take 1024 cluster) (is_too_long cluster)

-- some clusters more, one after another
abbrev pub with_clusters : Given → List (List ℕ) → Given
with_clusters given [] = given
with_clusters given (cluster ∷ clusters) = with_clusters (with_cluster given cluster) clusters

-- what was there before is still there, at the front
abbrev pub Grew : Given → Given → Type 0
Grew old new = (more : List (List ℕ)) × (new.heads ≡ old.heads ++ more)
