use Rattle.std.proofs.Common.{sym, ◌∙◌}
use Rattle.std.proofs.lemmas.Bool.{eqb-true}
use Rattle.nfg_stream.proofs.NumbersLemmas.{AreKept-ascii}
use Rattle.nfg_stream.proofs.numbers.Numbers.append_codes.Goals as goal

pub invariant_of-self-then-are_ascii : goal.invariant_of-self-then-are_ascii
invariant_of-self-then-are_ascii c =
    let s = c.self.inside in
    AreKept-ascii s.narrow.items s.wide.items c.append_narrow.new.numbers.items c.args.run.now c.self.invariant
    (sym s.wide.ok.0 ∙ eqb-true s.wide.len 0 (sym c.is_empty.ensures ∙ c.if-is_empty.true))
    (sym c.are_ascii.ensures ∙ c.if-are_ascii.true) c.in_ok-append_narrow.ensures.appended
