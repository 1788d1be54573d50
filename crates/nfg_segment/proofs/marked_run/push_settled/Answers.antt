use Rattle.std.proofs.Common.{◌∙◌, length, map, drop, sym, ap}
use Rattle.std.proofs.lemmas.List.{take_rest, drop-map}
use Rattle.nfg_passes.specs.Ids.{id_number}
use Rattle.nfg_segment.proofs.Reaching.{slice_text}
use Rattle.nfg_segment.proofs.marked_run.push_settled.Goals as goal

pub push_marked-requires-clause-text : goal.push_marked-requires-clause-text
push_marked-requires-clause-text g c = slice_text c.args.text.now c.in_ok-passed.passed (length c.args.text.now) c.requires.text

pub push_marked-requires-clause-ids : goal.push_marked-requires-clause-ids
push_marked-requires-clause-ids g c =
    let text = c.args.text.now in
    let ids = c.args.ids.now in
    let at = c.in_ok-passed.passed in
    take_rest ids at ∙ ap (drop at) c.requires.ids ∙ drop-map id_number at text ∙ ap (map id_number) (sym (take_rest text at))
