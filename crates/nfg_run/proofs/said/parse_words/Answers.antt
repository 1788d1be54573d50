use Rattle.std.proofs.Common.{◌∙◌, map, string_bytes, sym, ap, subst, inl, inr}
use Rattle.clap.specs.Words.{fault_of, found_of, is_simple, is_simple_and_free, kind_of, matches_of, IsAmong}
use Rattle.nfg_run.proofs.BuiltCommand.{is_free, is_simple_app}
use Rattle.nfg_run.proofs.ClapMatches.{others_utf8, said_by-matches, said_by-error}
use Rattle.nfg_run.proofs.said.parse_words.Goals as goal

pub returns-in-Ok-clause-ok : goal.returns-in-Ok-clause-ok
returns-in-Ok-clause-ok c =
    let command_is = c.in_ok-command.ensures in
    let words = map string_bytes c.args.words.now in
    said_by-matches words (found_of c.in-Ok.matches) (others_utf8 c.args.words.now)
    (sym (ap (λ a. fault_of a words) command_is) ∙ c.in-Ok.ensures.kinds (ap is_simple_and_free command_is ∙ is_free))
    ((c.in-Ok.ensures.matches (ap is_simple command_is ∙ is_simple_app)).0 ∙ ap (λ a. matches_of a words) command_is)

pub returns : goal.returns
returns c =
    let command_is = c.in_ok-command.ensures in
    let words = map string_bytes c.args.words.now in
    record {
      ok = tt;
      unlawful = λ _. elim (c.in-Err.ensures.kinds (ap is_simple_and_free command_is ∙ is_free)) [
        | inl out ↦ absurd (c.in_default.not-OutOfMemory (c.kind.ensures ∙ out))
        | inr among ↦ said_by-error words (kind_of c.in-Err.error) (others_utf8 c.args.words.now)
            (subst (λ a. IsAmong (kind_of c.in-Err.error) (fault_of a words)) command_is among)
      ];
    }
