use Rattle.std.proofs.Common.{◌++◌, ◌∙◌, sym, ap, arith, refl, [], take, append_assoc, length-drop}
use Rattle.std.proofs.lemmas.List.{append-nil, take_rest}
use Rattle.nfg_decode.specs.Utf16.{decode_utf16}
use Rattle.nfg_decode.proofs.Stepwise.{two_texts}
use Rattle.nfg_decode.proofs.Utf16Laws.{utf16_stepwise}
use Rattle.nfg_decode.proofs.utf16.append_units.Goals as goal

pub loop-run-init : goal.loop-run-init
unfolding decode_utf16
loop-run-init c =
    let run = c.read_run-run.ensures in
    record {
      within = omega arith;
      room = omega arith;
      run_within = run.bytes;
      run_codes = run.codes;
      text = ([], refl, sym (append-nil c.args.into.now));
      run_text = run.text;
      none = run.none;
    }

pub loop-run-preserved : goal.loop-run-preserved
loop-run-preserved c =
    let l = c.loop-run in
    let was = l.invariant in
    let codes = take l.run.codes l.codes in
    let run = c.read_run-run-in-loop-run.ensures in
    let o = c.args.order in
    record {
      within = omega (arith, was.run_within, length-drop l.at c.args.bytes.now);
      room = omega arith;
      run_within = rw take_rest at run.bytes;
      run_codes = run.codes;
      text = (
        was.text.0 ++ codes,
        two_texts (decode_utf16 o) (utf16_stepwise o) c.args.bytes.now l.at l.run.bytes was.text.0 codes was.text.1 was.run_text,
        c.in_ok-append.ensures.ok ∙ ap (λ t. t ++ codes) was.text.2 ∙ append_assoc c.args.into.now was.text.0 codes,
      );
      run_text = rw take_rest at run.text;
      none = rw take_rest at run.none;
    }
