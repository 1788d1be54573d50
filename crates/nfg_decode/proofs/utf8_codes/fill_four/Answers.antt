use Rattle.std.proofs.Common.{◌≡◌, true, [], ◌∷◌, get_or, rules, subst, sym, refl}
use Rattle.std.proofs.lemmas.Simd.{take_more_put_chunk}
use Rattle.std.specs.List.{list_all}
use Rattle.nfg_decode.specs.Utf8.{IsFront, is_three_lead}
use Rattle.nfg_decode.proofs.FrontLemmas.{four_front}
use Rattle.nfg_decode.proofs.utf8_codes.fill_four.Goals as goal

pub returns-clause-front : goal.returns-clause-front
returns-clause-front c =
    let t = c.args.text.now in
    let leads : list_all is_three_lead (get_or t 0 0 ∷ get_or t 3 0 ∷ get_or t 6 0 ∷ get_or t 9 0 ∷ []) ≡ true = search rules in
    subst (IsFront t 12) (sym (take_more_put_chunk 0 c.args.codes.now _ 4 refl c.requires.room)) (four_front t c.requires.source c.type_inv.text c.requires.text leads)
