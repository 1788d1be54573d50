use Rattle.std.proofs.Common.{rules, ◌≡◌, ℕ, ◌+◌, ◌*◌, ◌%◌, [], ◌∷◌, ◌++◌, take, get_or, sym, ap, ◌∙◌}
use Rattle.std.proofs.lemmas.List.{take_more}
use Rattle.nfg_cells.specs.Probe.{hash_from}
use Rattle.nfg_cells.specs.ProbeLaws.{hash_from-push}
use Rattle.nfg_cells.proofs.probe.hash.Goals as goal

pub loop-code-preserved : goal.loop-code-preserved
loop-code-preserved c =
    let i = c.loop-code.code-index in
    let codes = c.args.codes.now in
    let code : ℕ = get_or codes i 0 in
    let more : take (i + 1) codes ≡ take i codes ++ code ∷ [] = take_more codes i 0 c.loop-code-test.true in
    record {
      within = search rules;
      so_far = ap (λ hash. (hash * 31 + code) % 4294967296) c.loop-code.invariant.so_far ∙ (sym (hash_from-push 0 (take i codes) code) ∙ ap (hash_from 0) (sym more));
    }
