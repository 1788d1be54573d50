use Rattle.std.proofs.Common.{◌≡◌, ◌-◌, ◌∙◌, [], ◌∷◌, map, sym, ap, ap₂, subst, length, append-nil, arith}
use Rattle.std.proofs.lemmas.List.{length-map, length-append}
use Rattle.nfg_segment.specs.Given.{first_or}
use Rattle.nfg_segment.proofs.KeptLemmas.{given_of}
use Rattle.nfg_stream.specs.Collected.{AreCounted, kept_as}
use Rattle.nfg_stream.proofs.CollectedLemmas.{heads-known, counted-known, heads-pushed, counted-pushed}
use Rattle.nfg_stream.proofs.collected.CollectedClusterSink.push.Goals as goal

pub invariant_of-self : goal.invariant_of-self
invariant_of-self c =
    let s = c.self.inside in
    let grew = c.push_kept.ensures.grew in
    subst (AreCounted (length c.push_kept.new.longer)) (sym c.in_err-push_kept.ensures.none) (counted-known s.longer c.push_kept.new.longer grew.0 s.graphemes c.self.invariant grew.1)

pub returns-in_err-push_kept-clause-grew : goal.returns-in_err-push_kept-clause-grew
returns-in_err-push_kept-clause-grew c =
    let s = c.self.inside in
    let grew = c.push_kept.ensures.grew in (
      [],
      ap (map (kept_as c.push_kept.new.longer)) c.in_err-push_kept.ensures.none
          ∙ heads-known s.longer c.push_kept.new.longer grew.0 s.graphemes c.args.self.now.heads c.self.invariant grew.1 (ap (λ v. v.heads) c.self.view_is) ∙ sym (append-nil c.args.self.now.heads),
    )

pub invariant_of-self-2 : goal.invariant_of-self-2
invariant_of-self-2 c =
    let s = c.self.inside in
    let grew = c.push_kept.ensures.grew in
    let pushed = c.in_ok-push_kept.ensures.pushed in
    counted-pushed s.longer c.push_kept.new.longer grew.0 s.graphemes c.push_kept.new.graphemes pushed.0 c.self.invariant grew.1 pushed.1 pushed.3

pub returns-clause-pushed : goal.returns-clause-pushed
returns-clause-pushed c =
    let s = c.self.inside in
    let grew = c.push_kept.ensures.grew in
    let pushed = c.in_ok-push_kept.ensures.pushed in
    let heads = heads-pushed s.longer c.push_kept.new.longer grew.0 s.graphemes c.push_kept.new.graphemes pushed.0 c.args.head.now c.args.self.now.heads c.self.invariant grew.1
    pushed.1 pushed.2 (ap (λ v. v.heads) c.self.view_is) in
    let here : c.len.result - 1 ≡ length c.args.self.now.heads =
    omega (arith, c.len.ensures, ap length pushed.1, length-append s.graphemes (pushed.0 ∷ []), length-map s.graphemes (kept_as s.longer), ap (λ v. length v.heads) c.self.view_is) in
    ap₂ given_of heads (c.first_or-self-inside.ensures ∙ ap₂ (λ o n. first_or o c.args.is_long n) (ap (λ v. v.first_long) c.self.view_is) here)

pub returns-clause-grew : goal.returns-clause-grew
returns-clause-grew c =
    let s = c.self.inside in
    let grew = c.push_kept.ensures.grew in
    let pushed = c.in_ok-push_kept.ensures.pushed in (
      _,
      heads-pushed s.longer c.push_kept.new.longer grew.0 s.graphemes c.push_kept.new.graphemes pushed.0 c.args.head.now c.args.self.now.heads c.self.invariant grew.1
          pushed.1 pushed.2 (ap (λ v. v.heads) c.self.view_is),
    )
