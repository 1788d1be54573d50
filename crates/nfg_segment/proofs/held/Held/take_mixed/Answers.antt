use Rattle.std.proofs.Common.{◌++◌, ◌∙◌, [], take, refl, sym, subst, append-nil}
use Rattle.nfg_segment.specs.Follows.{Follows}
use Rattle.nfg_segment.proofs.SafeRuns.{take-one}
use Rattle.nfg_segment.proofs.TextLemmas.{IsText-take, scalar-at}
use Rattle.nfg_segment.proofs.held.Held.take_mixed.Goals as goal

pub starts_safely-requires : goal.starts_safely-requires
starts_safely-requires g c = scalar-at c.args.text.now 0 0 c.requires.text c.requires.some

pub compose_last-requires : goal.compose_last-requires
compose_last-requires g c = scalar-at c.args.text.now 0 0 c.requires.text c.requires.some

pub hold-requires : goal.hold-requires
hold-requires g c = IsText-take c.unsafe_len-n.result c.args.text.now c.requires.text

pub returns-then-branch-clause-follows : goal.returns-then-branch-clause-follows
returns-then-branch-clause-follows g c fed given f =
    let text = c.args.text.now in
    let unsafe = sym c.starts_safely.ensures ∙ c.if-starts_safely.false in
    let after = c.in_ok-compose_last.ensures.follows fed given unsafe f c.if-branch.true in (
      [],
      subst (λ l. Follows c.compose_last.new.self.now (fed ++ l) (given ++ [])) (take-one text _ c.requires.some refl)
          (subst (Follows c.compose_last.new.self.now _) (sym (append-nil given)) after),
      refl,
    )

pub returns-clause-follows : goal.returns-clause-follows
returns-clause-follows g c fed given f =
    let text = c.args.text.now in
    let n = c.unsafe_len-n.result in
    let here = subst (λ h. Follows h fed given) (sym (c.in_ok-compose_last.ensures.same c.if-branch.false)) f in
    let after = c.in_ok-hold.ensures.follows fed given c.unsafe_len-n.ensures.none here in
    ([], subst (Follows c.hold.new.self.now (fed ++ take n text)) (sym (append-nil given)) after, refl)
