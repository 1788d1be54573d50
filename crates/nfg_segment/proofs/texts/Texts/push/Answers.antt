use Rattle.std.proofs.Common.{◌∙◌, [], length, sym, ap, append-nil, arith}
use Rattle.std.proofs.lemmas.List.{length-append}
use Rattle.nfg_segment.proofs.KeptLemmas.{texts-unspanned, within-unspanned, within-pushed, texts-pushed}
use Rattle.nfg_segment.proofs.texts.Texts.push.Goals as goal

pub invariant_of-self-in_err-push : goal.invariant_of-self-in_err-push
invariant_of-self-in_err-push c =
    let s = c.self.inside in
    within-unspanned s.codes.items c.extend_from_slice.new.self.items c.args.text.now s.spans.items c.push.new.self.items c.self.invariant c.in_ok-extend_from_slice.ensures.items c.in_err-push.ensures.items

pub returns-in_err-push-clause-grew : goal.returns-in_err-push-clause-grew
returns-in_err-push-clause-grew c =
    let s = c.self.inside in (
      [],
      texts-unspanned s.codes.items c.extend_from_slice.new.self.items c.args.text.now s.spans.items c.push.new.self.items c.args.self.now c.self.invariant c.in_ok-extend_from_slice.ensures.items c.in_err-push.ensures.items c.self.view_is
          ∙ sym (append-nil c.args.self.now),
    )

pub invariant_of-self-2 : goal.invariant_of-self-2
invariant_of-self-2 c =
    let s = c.self.inside in
    within-pushed s.codes.items c.extend_from_slice.new.self.items c.args.text.now s.spans.items c.push.new.self.items c.in_ok-span.span c.self.invariant
    c.in_ok-extend_from_slice.ensures.items (omega (arith, c.in_ok-span.ensures.0)) (omega (arith, c.in_ok-span.ensures.1, ap length c.in_ok-extend_from_slice.ensures.items, length-append s.codes.items c.args.text.now)) c.in_ok-push.ensures.items

pub returns-clause-pushed : goal.returns-clause-pushed
returns-clause-pushed c =
    let s = c.self.inside in
    texts-pushed s.codes.items c.extend_from_slice.new.self.items c.args.text.now s.spans.items c.push.new.self.items c.in_ok-span.span c.args.self.now c.self.invariant
    c.in_ok-extend_from_slice.ensures.items (omega (arith, c.in_ok-span.ensures.0)) (omega (arith, c.in_ok-span.ensures.1, ap length c.in_ok-extend_from_slice.ensures.items, length-append s.codes.items c.args.text.now)) c.in_ok-push.ensures.items c.self.view_is

pub returns-clause-grew : goal.returns-clause-grew
returns-clause-grew c =
    let s = c.self.inside in (
      _,
      texts-pushed s.codes.items c.extend_from_slice.new.self.items c.args.text.now s.spans.items c.push.new.self.items c.in_ok-span.span c.args.self.now c.self.invariant
          c.in_ok-extend_from_slice.ensures.items (omega (arith, c.in_ok-span.ensures.0)) (omega (arith, c.in_ok-span.ensures.1, ap length c.in_ok-extend_from_slice.ensures.items, length-append s.codes.items c.args.text.now)) c.in_ok-push.ensures.items c.self.view_is,
    )
