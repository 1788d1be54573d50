use Rattle.std.proofs.Common.{◌≡◌, ◌++◌, suc, ◌+◌, ap, sym, subst, ◌∙◌, arith}
use Rattle.std.specs.List.{repeat}
use Rattle.nfg_segment.specs.Follows.{Follows}
use Rattle.nfg_segment.specs.Given.{nothing, with_clusters}
use Rattle.nfg_seam.proofs.RepeatLists.{repeat-push, IsText-repeat}
use Rattle.nfg_seam.proofs.RepeatSinks.{Holds-finished, with_clusters-append}
use Rattle.nfg_seam.proofs.repeated_text.clusters_of.Goals as goal

pub copies-preserved : goal.copies-preserved
copies-preserved c =
    let i = c.copies.invariant in
    let copy = c.copies._copy in
    let text = c.args.text.now in
    let fed = c.in_ok-feed.ensures.fed (repeat copy text) i.given i.follows in
    let one_more : suc copy ≡ copy + 1 = omega arith in
    record {
      given = i.given ++ fed.more;
      follows =
          subst (λ t. Follows c.feed.new.self t (i.given ++ fed.more))
          (repeat-push copy text ∙ ap (λ k. repeat k text) one_more) fed.follows;
      collected = fed.appended ∙ ap (λ given. with_clusters given fed.more) i.collected ∙ sym (with_clusters-append nothing i.given fed.more);
    }

pub returns : goal.returns
returns c =
    let i = c.copies.invariant in
    let text = c.args.text.now in
    let all : c.copies._copy ≡ c.args.n = omega (arith, c.copies-test.false, c.copies.auto._copy-end) in
    let finished = c.in_ok-finish.ensures.finished (repeat c.args.n text) i.given (subst (λ k. Follows c.copies.segmenter (repeat k text) i.given) all i.follows) in
    Holds-finished c.copies.clusters c.finish.new.out i.given finished.more (repeat c.args.n text) (IsText-repeat c.args.n text c.requires) i.collected finished.appended finished.whole
