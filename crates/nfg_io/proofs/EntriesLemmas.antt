-- Looking a path up, entry by entry.
use Rattle.std.proofs.Common.{◌≡◌, ℕ, ◌+◌, ◌<◌, Bool, cond, List, [], ◌∷◌, length, take, Some, sym, ap, ◌∙◌, get_or, add-one}
use Rattle.std.proofs.Math.Seq.{take-suc}
use Rattle.std.proofs.lemmas.List.{get_or_default}
use Rattle.std.proofs.lemmas.Grind.{fold-append}
use Rattle.std.specs.Cmp.Lexicographic.{nat_list_cmp_total, texts_ties}
use Rattle.std.specs.FinMap.{get, insert, empty, get-insert}
use Rattle.std.specs.Str.{bytes_eq}
use Rattle.nfg_io.specs.Entries.{Entry, paths_of, bytes_at}

-- the last entry decides where it has the path, and else those before it
pub get-one_more : (entries : List Entry) (index : ℕ) (path : List ℕ) (last : Entry) (same : Bool)
    → index < length entries → last ≡ get_or entries index last → same ≡ bytes_eq path last.0
    → get (paths_of (take (index + 1) entries)) path ≡ cond same (Some (bytes_at entries index)) (get (paths_of (take index entries)) path)
get-one_more entries index path last same inside is_last decides =
    let before = paths_of (take index entries) in
    let entry = get_or entries index ([], []) in
    let is_entry : last ≡ entry = is_last ∙ get_or_default entries index last ([], []) inside in
    ap (λ n. get (paths_of (take n entries)) path) (add-one index)
    ∙ ap (λ front. get (paths_of front) path) (take-suc entries index ([], []) inside)
    ∙ ap (λ files. get files path) (fold-append (λ files e. insert files e.0 e.1) empty (take index entries) (entry ∷ []))
    ∙ get-insert nat_list_cmp_total before entry.0 entry.1 path
    ∙ ap (λ b. cond b (Some entry.1) (get before path)) (sym (texts_ties path entry.0) ∙ ap (λ e. bytes_eq path e.0) (sym is_entry) ∙ sym decides)
