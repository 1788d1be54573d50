use Rattle.std.proofs.Common.{Err, ap}
use Rattle.nfg_work.proofs.Encoded.{wrote, wrote_none, ok_error}
use Rattle.nfg_work.proofs.put.write.Goals as goal

pub returns-in-Ok : goal.returns-in-Ok
returns-in-Ok c = wrote c.args.e c.args.codes.now c.args.output.now c.encode_into.new.into c.len.result c.len.ensures
    (λ k some. ok_error _ _ ((c.in-Ok.ensures.unencodable k).1 some)) c.in-Ok.ensures.ok

pub returns-in-Err-Unencodable : goal.returns-in-Err-Unencodable
returns-in-Err-Unencodable c = wrote_none c.args.e c.args.codes.now c.args.output.now c.encode_into.new.into c.in-Err-Unencodable.field-0-0
    ((c.in-Err-Unencodable.ensures.unencodable c.in-Err-Unencodable.field-0-0).0 (ap (λ v. Err v) c.in-Err-Unencodable.field-0-is)) c.in-Err-Unencodable.ensures.unchanged
