use Rattle.std.proofs.Common.{◌∙◌, sym}
use Rattle.nfg_encode.proofs.TextLemmas.{encodable}
use Rattle.nfg_encode.proofs.encode.encode_into.Goals as goal

pub append_text-requires : goal.append_text-requires
append_text-requires c = encodable c.args.e c.args.codes.now c.requires (sym c.lacked.ensures ∙ c.in_default.is)
