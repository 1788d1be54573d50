use Rattle.std.proofs.Common.{◌≡◌, take, drop, ◌++◌, sym, subst, arith}
use Rattle.unicode_normalization.specs.Forms.{nfc}
use Rattle.nfg_text.proofs.KeptFront.{kept-whole, kept-before}
use Rattle.nfg_text.proofs.normal.kept_len.Goals as goal

pub returns-then-safe-t-clause-kept : goal.returns-then-safe-t-clause-kept
returns-then-safe-t-clause-kept c = kept-whole c.args.t.now c.safe_len-safe.result (omega arith) c.safe_len-safe.ensures.safe

pub returns-else-safe-t-clause-kept : goal.returns-else-safe-t-clause-kept
returns-else-safe-t-clause-kept c =
    subst (λ n. nfc c.args.t.now ≡ take n c.args.t.now ++ nfc (drop n c.args.t.now)) (sym c.saturating_sub.ensures)
    (kept-before c.args.t.now c.safe_len-safe.result c.safe_len-safe.ensures.bound c.safe_len-safe.ensures.safe)
