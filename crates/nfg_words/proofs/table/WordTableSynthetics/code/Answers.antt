use Rattle.std.proofs.Common.{◌∙◌}
use Rattle.nfg_syn.specs.KnownLaws.{row_size_most}
use Rattle.nfg_words.specs.Passes.{view_of}
use Rattle.nfg_words.proofs.KnownLemmas.{kept, known_same}
use Rattle.nfg_words.proofs.table.WordTableSynthetics.code.Goals as goal

pub code_of-requires-clause-limit : goal.code_of-requires-clause-limit
code_of-requires-clause-limit c = row_size_most _ c.requires.table.row_size

pub returns-clause-keeps : goal.returns-clause-keeps
returns-clause-keeps c =
    let looks = c.code_of.ensures.looks in
    let is = c.requires.table.of_pass in
    kept _ c.args.self.now.n c.args.pass.now c.code_of.new.pass is c.code_of.ensures.pass looks.grows
    (λ m t e. known_same c.args.self.now.n (view_of c.args.pass.now) (view_of c.code_of.new.pass) is.held.seat.sound looks.grows looks.numbered m ∙ e) looks.origin.root

pub returns-clause-known : goal.returns-clause-known
returns-clause-known c =
    let looks = c.code_of.ensures.looks in
    known_same c.args.self.now.n (view_of c.args.pass.now) (view_of c.code_of.new.pass) c.requires.table.of_pass.held.seat.sound looks.grows looks.numbered
