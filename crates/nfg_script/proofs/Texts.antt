-- The words that are left of a list of words.
use Rattle.std.proofs.Common.{◌≡◌, ℕ, ◌+◌, ◌<◌, List, ◌∷◌, length, drop, get_or, Bor, ap, add-one, drop-cons}
use Rattle.nfg_script.specs.Answer.{texts}

pub texts-drop : (words : List (Bor (List ℕ))) (k : ℕ) (d : Bor (List ℕ)) → k < length words
    → texts (drop k words) ≡ (get_or words k d).now ∷ texts (drop (k + 1) words)
texts-drop words k d l = rw add-one (ap texts (drop-cons words k d l))
