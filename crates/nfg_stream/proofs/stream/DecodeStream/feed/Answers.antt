use Rattle.std.proofs.Common.{arith, ◌++◌, Ok, Err, ap, sym, subst}
use Rattle.nfg_decode.proofs.StreamLemmas.{bytes_all}
use Rattle.nfg_stream.specs.Reading.{IsOpenFor}
use Rattle.nfg_stream.proofs.StreamLemmas.{read-again, read-early, read-reading, early-malformed, early-found, same_error, found_again, open-early, open-some, open-taken, taken-is_early}
use Rattle.nfg_stream.proofs.ReadingLemmas.{early-more}
use Rattle.nfg_stream.proofs.stream.DecodeStream.feed.Goals as goal

pub returns-in-Some-clause-read : goal.returns-in-Some-clause-read
returns-in-Some-clause-read c e bytes read =
    read-again c.args.self.now _ e bytes c.args.piece.now c.in-Some.error c.in-Some.is c.in-Some.is
    (bytes_all c.args.piece.now (λ i. omega (arith, c.type_inv.piece i))) read

pub returns-in-Some-clause-malformed : goal.returns-in-Some-clause-malformed
returns-in-Some-clause-malformed c e bytes at read is =
    early-malformed e (bytes ++ c.args.piece.now) c.in-Some.error at (same_error c.in-Some.error at is)
    (early-more e bytes c.args.piece.now c.in-Some.error (bytes_all c.args.piece.now (λ i. omega (arith, c.type_inv.piece i)))
    (read-early c.args.self.now e bytes c.in-Some.error c.in-Some.is read))

pub returns-in-Some-clause-found : goal.returns-in-Some-clause-found
returns-in-Some-clause-found c e bytes at read bad memory =
    found_again e (bytes ++ c.args.piece.now) c.in-Some.error at
    (early-more e bytes c.args.piece.now c.in-Some.error (bytes_all c.args.piece.now (λ i. omega (arith, c.type_inv.piece i)))
    (read-early c.args.self.now e bytes c.in-Some.error c.in-Some.is read))
    bad memory

pub returns-in-Some-clause-only : goal.returns-in-Some-clause-only
returns-in-Some-clause-only c =
    (open-early c.args.self.now.reader c.args.self.now.refused c.in-Some.error c.in-Some.is c.args.self.now.read)

pub take-requires-clause-reading : goal.take-requires-clause-reading
take-requires-clause-reading c = open-some c.args.self.now.reader c.args.self.now.refused c.in_default.is c.args.self.now.read

pub invariant_of-self-in-Ok : goal.invariant_of-self-in-Ok
invariant_of-self-in-Ok c = record {
  counted = omega (arith, c.take.ensures.count, c.args.self.now.counted);
  read =
      subst (IsOpenFor c.take.new.self) (sym c.in_default.is)
      (open-taken c.args.self.now.reader c.take.new.self c.args.piece.now (Ok tt)
      (open-some c.args.self.now.reader c.args.self.now.refused c.in_default.is c.args.self.now.read) c.in-Ok.ensures.taken);
}

pub invariant_of-self-in-Err : goal.invariant_of-self-in-Err
invariant_of-self-in-Err c = record {
  counted = omega (arith, c.take.ensures.count, c.args.self.now.counted);
  read =
      open-taken c.args.self.now.reader c.take.new.self c.args.piece.now (Err c.in-Err.error)
      (open-some c.args.self.now.reader c.args.self.now.refused c.in_default.is c.args.self.now.read) c.in-Err.ensures.taken;
}

pub returns-in-Err-clause-found : goal.returns-in-Err-clause-found
returns-in-Err-clause-found c e bytes at read bad memory =
    ap (λ x. Err x)
    (early-found e (bytes ++ c.args.piece.now) c.in-Err.error at
    (c.in-Err.ensures.taken e bytes (read-reading c.args.self.now e bytes c.in_default.is read))
    bad (λ same. memory (ap (λ x. Err x) same)))

pub returns-in-Err-clause-only : goal.returns-in-Err-clause-only
returns-in-Err-clause-only c =
    taken-is_early c.args.self.now.reader c.take.new.self c.args.piece.now c.in-Err.error
    (open-some c.args.self.now.reader c.args.self.now.refused c.in_default.is c.args.self.now.read) c.in-Err.ensures.taken
