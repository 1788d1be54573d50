use Rattle.std.proofs.Common.{◌++◌, ◌∙◌, ap, sym, subst}
use Rattle.std.specs.Prelude.{flat_map}
use Rattle.nfg_decode.specs.Encoding.{encode_code}
use Rattle.nfg_encode.specs.Refusal.{AreEncodable}
use Rattle.nfg_encode.proofs.TextLemmas.{Grew-more, encodable-drop, part_more}
use Rattle.nfg_encode.proofs.encode.append_codes.Goals as goal

pub loop-rest-preserved : goal.loop-rest-preserved
loop-rest-preserved c =
    let l = c.loop-rest in
    let was = l.invariant in
    let k = c.min.result in
    let e = c.args.e in
    let parts = c.split_at.ensures in
    let added = c.in_ok-append.ensures.ok in
    record {
      encodable = subst (AreEncodable e) (sym parts.back) (encodable-drop e l.rest.now k was.encodable);
      together =
          (λ i. added i ++ flat_map (encode_code e) (parts.back i))
          ∙ part_more e l.into l.rest.now _ k (c.fill-len.ensures.bytes ∙ ap (flat_map (encode_code e)) parts.front)
          ∙ was.together;
      grew = Grew-more c.args.into.now l.into _ _ was.grew added;
    }
