use Rattle.std.proofs.Common.{◌≡◌, ℕ, ◌+◌, ◌*◌, ◌≤◌, true}
use Rattle.nfg_words.specs.Comparing.{ArePassed, IsFound}
use Rattle.nfg_words.specs.Layout.{chunk_count}
use Rattle.nfg_words.specs.Passes.{HasUnspentRoom, IsPassOf, IsReady, LooksOn, ready_chunks, ready_steps, view_of}
use Rattle.nfg_words.specs.View.{places_of}
use Rattle.nfg_words.proofs.walk.walk.Given as goal

abbrev pub invariant-loop-index : goal.invariant-loop-index
invariant-loop-index g l = record {
  pass : IsPassOf l.words.shared.table_id l.n l.pass;
  looks : LooksOn (view_of l.fn.pass) (view_of l.pass);
  ready : l.ready ≡ true → IsReady l.pass l.codes;
  passed : ArePassed l.n (places_of (view_of l.pass)) l.codes l.index;
  chunks : (view_of l.pass).taken + ready_chunks l.ready ≤ (view_of l.fn.pass).taken + 1;
  no_chunk : HasUnspentRoom (view_of l.fn.pass) l.codes → (view_of l.pass).taken ≡ (view_of l.fn.pass).taken;
  still_room : HasUnspentRoom (view_of l.fn.pass) l.codes → HasUnspentRoom (view_of l.pass) l.codes;
  found_no_chunk : (k : ℕ) → IsFound l.n (places_of (view_of l.fn.pass)) k l.codes
      → (view_of l.pass).taken ≡ (view_of l.fn.pass).taken;
  made : (view_of l.pass).steps + ready_steps l.n l.ready ≤ (view_of l.fn.pass).steps + (chunk_count l.n + 512) + 514 * l.index;
  counted : l.steps + (view_of l.fn.pass).steps ≡ l.fn.steps + (view_of l.pass).steps;
}
