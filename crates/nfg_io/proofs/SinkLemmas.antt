-- What grows by one list and then by another has grown by both.
use Rattle.std.proofs.Common.{◌≡◌, ℕ, List, [], ◌++◌, Option, Some, None, refl, ap, append-nil, append_assoc}
use Rattle.nfg_io.specs.Sink.{grown}

pub grown-nothing : (taken : Option (List ℕ)) → grown taken [] ≡ taken
grown-nothing None = refl
grown-nothing (Some taken) = ap Some (append-nil taken)

pub grown-append : (taken : Option (List ℕ)) (xs ys : List ℕ) → grown (grown taken xs) ys ≡ grown taken (xs ++ ys)
grown-append None xs ys = refl
grown-append (Some taken) xs ys = ap Some (append_assoc taken xs ys)
