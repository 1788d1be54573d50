-- The places at which a text may stand, in the order in which they are tried (this project's own).
use Rattle.std.specs.Prelude.{◌≡◌, ◌≢◌, ℕ, ◌+◌, ◌*◌, ◌%◌, ◌<◌, List, [], ◌∷◌, Some}
use Rattle.nfg_syn.specs.Known.{Texts}

-- the hash of more code points: for each, 31 times the hash and the code point, modulo 2^32
abbrev pub hash_from : ℕ → List ℕ → ℕ
hash_from hash [] = hash
hash_from hash (code ∷ codes) = hash_from ((hash * 31 + code) % 4294967296) codes

-- the place that is tried after `step` others, in a row of n places: it goes on from the hash, around the row
abbrev pub probed : ℕ → List ℕ → ℕ → ℕ
probed n text step = (hash_from 0 text + step) % n

-- the places that are tried first, as many as `steps`, hold other texts
abbrev pub ArePassed : ℕ → Texts → List ℕ → ℕ → Type 0
ArePassed n places text steps =
    (step : ℕ) → step < steps → (other : List ℕ) × (places (probed n text step) ≡ Some other) × (other ≢ text)

-- the text stands at place k, and each place that is tried before holds another text
pub record IsFound (n : ℕ) (places : Texts) (k : ℕ) (text : List ℕ) : Type 0 where
  pub here : places k ≡ Some text
  pub step : ℕ
  pub within : step < n
  pub reached : probed n text step ≡ k
  pub passed : ArePassed n places text step
