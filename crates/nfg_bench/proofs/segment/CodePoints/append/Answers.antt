use Rattle.std.proofs.Common.{[], ◌∷◌, ◌++◌, sym, ap, ◌∙◌, append-nil, append_assoc}
use Rattle.std.proofs.lemmas.List.{nil_from_length}
use Rattle.std.proofs.lemmas.Str.{IsUtf8-past_char, chars-nil, chars_past_char}
use Rattle.std.specs.Prelude.{chars}
use Rattle.nfg_bench.proofs.segment.CodePoints.append.Goals as goal

pub loop-c-preserved : goal.loop-c-preserved
loop-c-preserved c =
    let before = c.loop-c.invariant in
    let bytes = c.loop-c.c-iterator.rest.now in
    let rest = c.next.new.self.rest.now in
    let first = c.in-Some.ensures.steps.0 in
    record {
      utf8 = IsUtf8-past_char bytes rest c.in-Some.c before.utf8 first;
      codes =
          ap (λ l. l ++ chars rest) c.in_ok-push.ensures ∙ append_assoc c.loop-c.self (c.in-Some.c ∷ []) (chars rest)
          ∙ ap (λ l. c.loop-c.self ++ l) (sym (chars_past_char bytes rest c.in-Some.c before.utf8 first)) ∙ before.codes;
    }

pub returns : goal.returns
returns c =
    let none = nil_from_length c.loop-c.c-iterator.rest.now c.in-None.ensures.steps.0.0 in
    sym (append-nil c.loop-c.self) ∙ ap (λ l. c.loop-c.self ++ l) (sym (ap chars none ∙ chars-nil)) ∙ c.loop-c.invariant.codes
