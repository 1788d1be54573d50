use Rattle.std.proofs.Common.{◌≡◌, ◌++◌, length}
use Rattle.std.specs.Prelude.{flat_map}
use Rattle.nfg_decode.specs.Encoding.{encode_code}
use Rattle.nfg_encode.specs.Refusal.{AreEncodable, Grew}
use Rattle.nfg_encode.proofs.encode.append_codes.Given as goal

abbrev pub invariant-loop-rest : goal.invariant-loop-rest
invariant-loop-rest l = record {
  encodable : AreEncodable l.e l.rest;
  together : l.into ++ flat_map (encode_code l.e) l.rest ≡ l.initial.into ++ flat_map (encode_code l.e) l.codes;
  grew : Grew l.initial.into l.into;
}

abbrev pub decreases-loop-rest : goal.decreases-loop-rest
decreases-loop-rest l = length l.rest
