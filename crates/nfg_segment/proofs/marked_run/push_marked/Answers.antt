use Rattle.std.proofs.Common.{[], ◌∙◌, length, sym, subst}
use Rattle.std.proofs.lemmas.List.{take_rest}
use Rattle.nfg_segment.specs.Held.{Keeps}
use Rattle.nfg_segment.proofs.Reaching.{slice_text}
use Rattle.nfg_segment.proofs.marked_run.push_marked.Goals as goal

pub memory_of-requires : goal.memory_of-requires
memory_of-requires g c = slice_text c.args.text.now c.in_ok-start.start (length c.args.text.now) c.requires.text

pub join_all-requires : goal.join_all-requires
join_all-requires g c = slice_text c.args.text.now c.in_ok-start.start (length c.args.text.now) c.requires.text

pub returns-clause-given : goal.returns-clause-given
returns-clause-given g c keeps =
    let text = c.args.text.now in
    let last = take_rest text c.in_ok-start.start ∙ sym c.in_ok-start.ensures.last in
    (subst (Keeps c.join_all.new.self.now) last (c.in_ok-join_all.ensures.joined [] keeps c.memory_of.ensures), c.in_ok-start.ensures.given)
