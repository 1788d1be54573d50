use Rattle.std.proofs.Common.{◌≡◌, slice_range, sym, ◌∙◌, subst, rules}
use Rattle.nfg_text.specs.Text.{IsText, text_of}
use Rattle.nfg_work.proofs.Encoded.{part_text}
use Rattle.nfg_work.proofs.put.write_part.Goals as goal

pub write-requires : goal.write-requires
write-requires g c =
    let clusters = c.requires.known.0 in
    let text : c.as_slice.result.now ≡ text_of (slice_range clusters c.args.start c.args.end) =
    c.as_slice.ensures ∙ c.in_ok-append_codes.ensures.added clusters c.requires.known.1 ∙ search rules in
    record {
      text = subst IsText (sym text)
          (part_text (g.T.Synthetics.size c.args.table.now) (g.T.Synthetics.seen c.args.pass.now).known (g.T.Synthetics.seen c.args.pass.now).places c.args.string.now.graphemes clusters c.args.start c.args.end
          (g.met.T.Synthetics.knows c.args.table.now c.args.pass.now c.requires.table) c.requires.known.1);
    }
