use Rattle.std.proofs.Common.{◌≡◌, ◌∙◌, ◌++◌, ◌∷◌, [], refl, ap, map, length, List, ℕ, Bor, None, arith}
use Rattle.std.proofs.lemmas.List.{map-append, length-map}
use Rattle.std.proofs.lemmas.Map.Text.{btree_map_updates_str}
use Rattle.nfg_script.specs.Words.{place_of}
use Rattle.nfg_script.proofs.Places.{place_of-push}
use Rattle.nfg_script.proofs.names.Names.push.Goals as goal

pub invariant_of-self-in-Ok : goal.invariant_of-self-in-Ok
invariant_of-self-in-Ok c = λ word.
    let text = λ (x : Bor (List ℕ)). x.now in
    let name = c.args.name.now in
    let names = map text c.self.inside.in_order.items in
    let updated = btree_map_updates_str name c.self.inside.places c.insert.new.self _ c.in-Ok.ensures.updates word in
    let before = c.self.invariant word in
    let absent : place_of names name ≡ None = rw c.self.view_is c.requires.new in
    let pushed = place_of-push names name word absent in
    let items : map text c.push.new.self.items ≡ names ++ name ∷ [] =
    ap (map text) c.in_ok-push.ensures.items ∙ map-append text c.self.inside.in_order.items (c.args.name ∷ []) in
    let len : c.len-place.result ≡ length names = omega (arith, length-map c.self.inside.in_order.items text) in
    rw (updated, items, pushed, len, before) refl
