use Rattle.std.proofs.Common.{ap, sym, arith}
use Rattle.nfg_decode.specs.Tail.{bytes_of}
use Rattle.nfg_decode.specs.Answer.{answer_of}
use Rattle.nfg_decode.proofs.StateLemmas.{open_end, open_cut}
use Rattle.nfg_decode.proofs.StreamLemmas.{malformed_now, read_malformed, read_open, nothing_held}
use Rattle.nfg_decode.proofs.stream.ByteStream.finish.Goals as goal

pub returns-in-Some-clause-answer : goal.returns-in-Some-clause-answer
returns-in-Some-clause-answer c e bytes h =
    ap answer_of (sym (malformed_now e bytes c.in-Some.at (read_malformed c.args.self.now e bytes c.in-Some.at c.in-Some.is h)))

pub returns-then-tail_len-ne0-clause-answer : goal.returns-then-tail_len-ne0-clause-answer
returns-then-tail_len-ne0-clause-answer c e bytes h =
    let s = c.args.self.now in
    ap answer_of (sym (open_cut s.state e bytes (read_open s e bytes c.in_default.is h) (omega arith)))

pub returns-clause-answer : goal.returns-clause-answer
returns-clause-answer c e bytes h =
    let s = c.args.self.now in
    ap answer_of (sym (open_end s.state e bytes (read_open s e bytes c.in_default.is h) (nothing_held (bytes_of s.state.tail) (omega arith))))

pub returns-clause-whole : goal.returns-clause-whole
returns-clause-whole c e bytes h =
    let s = c.args.self.now in
    open_end s.state e bytes (read_open s e bytes c.in_default.is h) (nothing_held (bytes_of s.state.tail) (omega arith))
