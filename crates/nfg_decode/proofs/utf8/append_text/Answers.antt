use Rattle.std.proofs.Common.{◌∙◌, ◌++◌, ap, sym, subst, refl, IsUtf8, eqb-true}
use Rattle.std.proofs.lemmas.List.{append-nil}
use Rattle.std.proofs.lemmas.Str.{IsUtf8-drop}
use Rattle.std.specs.Str.{chars}
use Rattle.nfg_decode.proofs.ReadsLemmas.{on_err, Grew-refl, Grew-more}
use Rattle.nfg_decode.proofs.Utf8Text.{part_more, chars_of_empty}
use Rattle.nfg_decode.proofs.utf8.append_text.Goals as goal

pub loop-rest-init : goal.loop-rest-init
loop-rest-init c = record { utf8 = c.utf8.text; together = refl; grew = Grew-refl c.args.into.now }

pub loop-rest-preserved : goal.loop-rest-preserved
loop-rest-preserved c =
    let l = c.loop-rest in
    let was = l.invariant in
    let k = c.part_len.result in
    let parts = c.split_at.ensures in
    let added = c.in_ok-append.ensures.ok in
    record {
      utf8 = subst IsUtf8 (sym parts.back) (IsUtf8-drop l.rest.now k was.utf8 c.part_len.ensures.boundary);
      together =
          (λ i. added i ++ chars (parts.back i))
          ∙ part_more l.into l.rest.now _ k was.utf8 c.part_len.ensures.boundary (c.fill-n.ensures.codes ∙ ap chars parts.front)
          ∙ was.together;
      grew = Grew-more c.args.into.now l.into _ _ was.grew added;
    }

pub returns-clause-ok : goal.returns-clause-ok
returns-clause-ok c =
    let l = c.loop-rest in
    let none = chars_of_empty l.rest.now (eqb-true _ 0 (sym c.is_empty.ensures ∙ c.loop-rest-test.false)) in
    sym (append-nil l.into) ∙ ap (λ t. l.into ++ t) (sym none) ∙ l.invariant.together

pub returns-in_err-append-clause-err : goal.returns-in_err-append-clause-err
returns-in_err-append-clause-err c =
    let l = c.loop-rest in
    on_err c.from_residual.result _ (Grew-more _ l.into _ _ l.invariant.grew (c.in_err-append.ensures.err ∙ sym (append-nil l.into)))
