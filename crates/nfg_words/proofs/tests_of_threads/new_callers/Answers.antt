use Rattle.std.proofs.Common.{◌≡◌, false}
use Rattle.std.proofs.lemmas.List.Elements.{All-push, All-same}
use Rattle.nfg_words.specs.Table.{IsWordPass, seen_of}
use Rattle.nfg_words.proofs.tests_of_threads.new_callers.Goals as goal

pub forking-preserved : goal.forking-preserved
forking-preserved c =
    let i = c.forking.invariant in
    let made = c.in_ok-new_caller.ensures in
    let one = c.in_ok-new_caller.field-0 in
    let pushed = c.in_ok-push.ensures.items in
    record {
      table = made.table;
      root = made.root;
      fork_tables = All-same (λ caller. IsWordPass c.args.table.now caller.fork) _ _ pushed
          (All-push (λ caller. IsWordPass c.args.table.now caller.fork) c.forking.callers.items one i.fork_tables made.fork_table);
      no_roots = All-same (λ caller. (seen_of caller.fork).root ≡ false) _ _ pushed
          (All-push (λ caller. (seen_of caller.fork).root ≡ false) c.forking.callers.items one i.no_roots made.no_root);
    }
