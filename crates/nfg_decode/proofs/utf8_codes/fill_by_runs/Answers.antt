use Rattle.std.proofs.Common.{◌≡◌, ◌+◌, ◌-◌, [], ◌++◌, ◌∙◌, refl, sym, ap, length, take, drop, arith, length-drop}
use Rattle.std.proofs.lemmas.List.{append-nil, take_rest}
use Rattle.std.specs.Str.{chars}
use borrow.Rule.Slice.PartMut.{put_mid, same_len_mid}
use Rattle.nfg_decode.proofs.Utf8Text.{chars_of_empty}
use Rattle.nfg_decode.proofs.FrontLemmas.{front_behind, front_none}
use Rattle.nfg_decode.proofs.utf8_codes.fill_by_runs.Goals as goal

pub loop-at-init : goal.loop-at-init
loop-at-init c = record { front = front_none c.as_bytes-bytes.result.now c.as_bytes-bytes.ensures.utf8; count = omega arith }

pub loop-at-preserved : goal.loop-at-preserved
loop-at-preserved c =
    let l = c.loop-at in
    let t = c.as_bytes-bytes.result.now in
    let run = c.fill_ascii-run in
    let single = c.fill_through_other-len in
    let by_runs = rw take_rest at run.ensures in
    let behind = rw take_rest at single.ensures.front in
    let once = put_mid l.n (length l.codes - l.n) l.codes run.new.codes in
    let kept = same_len_mid l.n (length l.codes - l.n) l.codes run.new.codes run.auto.codes in
    let first = front_behind t l.codes run.new.codes l.at l.n (length l.codes - l.n) run.result run.result _ _ l.invariant.front by_runs (omega arith)
    (omega (arith, run.auto.codes, by_runs.within, length-drop l.at t)) refl refl in
    record {
      front = front_behind t once single.new.codes (l.at + run.result) (l.n + run.result) _ single.result.0 single.result.1 _ _ first behind
          (omega (arith, kept, by_runs.within, length-drop l.at t))
          (omega (arith, single.auto.codes, kept, single.ensures.most, behind.within, length-drop (l.at + run.result) t)) refl refl;
      count = omega (arith, single.ensures.most, l.invariant.count);
    }

pub returns-clause-codes : goal.returns-clause-codes
returns-clause-codes c =
    let l = c.loop-at in
    let bytes = c.as_bytes-bytes.result.now in
    let none : chars (drop l.at bytes) ≡ [] = chars_of_empty (drop l.at bytes) (omega (arith, length-drop l.at bytes)) in
    sym (append-nil (take l.n l.codes)) ∙ ap (λ t. take l.n l.codes ++ t) (sym none) ∙ sym l.invariant.front.codes ∙ ap chars c.as_bytes-bytes.ensures.value
