-- The parts of a file, their passes, and what they bring.
use Rattle.std.proofs.Common.{ℕ, suc, ◌<◌, List, ◌++◌, length, get_or, take, drop, Option, sym, ap, ◌∙◌, append_assoc}
use Rattle.std.proofs.lemmas.List.{take-append-drop}
use Rattle.std.proofs.lemmas.List.Folds.{drop_split}
use Rattle.nfg_decode.specs.declared.encoding.Encoding.{Encoding}
use Rattle.nfg_syn.specs.Known.{Texts, IsWithin}
use Rattle.nfg_syn.specs.Seen.{Seen}
use Rattle.nfg_strand.specs.Value.{Rope}
use Rattle.nfg_work.specs.Parts.{AreBounds, part_at, IsOfParts, GrowsByParts, IsLoaded}
use Rattle.nfg_work.proofs.Growth.{growth_within}
use Rattle.nfg_work.proofs.PartGrowth.{may_itself, growth_through}

-- what a part brings, all bytes bring
pub part_grows : (e : Encoding) (bytes bounds : List ℕ) (k : ℕ) (old new : Texts) → AreBounds (length bytes) bounds → suc k < length bounds
    → GrowsByParts e (part_at bytes bounds k) old new → GrowsByParts e bytes old new
part_grows e bytes bounds k old new are inside grown =
    let start = get_or bounds k 0 in
    let end = get_or bounds (suc k) 0 in
    growth_through e e bytes (take start bytes) (part_at bytes bounds k) (drop end bytes) old new
    (sym (take-append-drop start bytes) ∙ ap (λ l. take start bytes ++ l) (drop_split bytes start end (are.ascending k inside))
    ∙ sym (append_assoc (take start bytes) (part_at bytes bounds k) (drop end bytes))) (may_itself e) grown

-- a part is loaded as well for a pass that knows more
pub IsLoaded-grows : (e : Encoding) (part : List ℕ) (less more : Texts) → IsWithin less more → (fork : Seen) (string : Option Rope)
    → IsLoaded e part less fork string → IsLoaded e part more fork string
IsLoaded-grows e part less more within fork string loaded = record {
  root = loaded.root;
  meets = loaded.meets;
  grown = growth_within (IsOfParts e part) less more fork.known within loaded.grown;
  string = loaded.string;
}
