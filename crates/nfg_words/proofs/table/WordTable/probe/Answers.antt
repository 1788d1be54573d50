use Rattle.std.proofs.Common.{rules, ◌≡◌, Ok, negsuc, ap, arith}
use Rattle.nfg_syn.specs.Known.{crlf}
use Rattle.nfg_syn.specs.KnownLaws.{row_size_most}
use Rattle.nfg_words.proofs.KnownLemmas.{line_end_first}
use Rattle.nfg_words.specs.Passes.{view_of}
use Rattle.nfg_words.proofs.table.WordTable.probe.Goals as goal

pub find-requires-clause-limit : goal.find-requires-clause-limit
find-requires-clause-limit g c = row_size_most _ c.requires.table.row_size

pub number_of-requires : goal.number_of-requires
number_of-requires g c = let most = row_size_most _ c.requires.table.row_size in let within = c.in-Ok.ensures.within in omega arith

pub returns-then-eq-clause-already_known : goal.returns-then-eq-clause-already_known
returns-then-eq-clause-already_known g c = λ m e.
    let same : c.args.codes.now ≡ crlf = search rules in
    ap (λ k. Ok (negsuc k)) (line_end_first _ (view_of c.args.pass.now) c.requires.table.of_pass.held.seat.sound c.args.codes.now same m e)
