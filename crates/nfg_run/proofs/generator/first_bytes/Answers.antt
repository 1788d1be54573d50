use Rattle.std.proofs.Common.{refl}
use Rattle.std.specs.Char.{encode_utf8}
use Rattle.nfg_run.proofs.generator.first_bytes.Goals as goal

pub returns-in-1-clause-bytes : goal.returns-in-1-clause-bytes
unfolding encode_utf8
returns-in-1-clause-bytes c = rw c.in-1.is refl

pub returns-in-2-clause-bytes : goal.returns-in-2-clause-bytes
unfolding encode_utf8
returns-in-2-clause-bytes c = rw c.in-2.is refl

pub returns-in-4-clause-bytes : goal.returns-in-4-clause-bytes
unfolding encode_utf8
returns-in-4-clause-bytes c = rw c.in-4.is refl

pub returns-in-5-clause-bytes : goal.returns-in-5-clause-bytes
unfolding encode_utf8
returns-in-5-clause-bytes c = rw c.in-5.is refl

pub returns-in-6-clause-bytes : goal.returns-in-6-clause-bytes
unfolding encode_utf8
returns-in-6-clause-bytes c = rw c.in-6.is refl

pub returns-in-7-clause-bytes : goal.returns-in-7-clause-bytes
unfolding encode_utf8
returns-in-7-clause-bytes c = rw c.in-7.is refl

pub returns-in-8-clause-bytes : goal.returns-in-8-clause-bytes
unfolding encode_utf8
returns-in-8-clause-bytes c = rw c.in-8.is refl

pub returns-in-9-clause-bytes : goal.returns-in-9-clause-bytes
unfolding encode_utf8
returns-in-9-clause-bytes c = rw c.in-9.is refl

pub returns-in-10-clause-bytes : goal.returns-in-10-clause-bytes
unfolding encode_utf8
returns-in-10-clause-bytes c = rw c.in-10.is refl

pub returns-in-11-clause-bytes : goal.returns-in-11-clause-bytes
unfolding encode_utf8
returns-in-11-clause-bytes c = rw c.in-11.is refl

pub returns-in-12-clause-bytes : goal.returns-in-12-clause-bytes
unfolding encode_utf8
returns-in-12-clause-bytes c = rw c.in-12.is refl

pub returns-in-13-clause-bytes : goal.returns-in-13-clause-bytes
unfolding encode_utf8
returns-in-13-clause-bytes c = rw c.in-13.is refl

pub returns-in-14-clause-bytes : goal.returns-in-14-clause-bytes
unfolding encode_utf8
returns-in-14-clause-bytes c = rw c.in-14.is refl
