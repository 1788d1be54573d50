-- What each kind of step makes of the view of the pass that takes it (this project's own).
use Rattle.std.specs.Prelude.{◌≡◌, ◌≢◌, ℕ, zero, suc, ◌+◌, ◌-◌, ◌*◌, ◌%◌, ◌<◌, ◌≤◌, ◌==◌, nat_lt, List, [], ◌∷◌, ◌++◌, Some, false, if◌then◌else◌}
use Rattle.nfg_words.specs.Layout.{start_of, length_of, stop_of, second_code, text_named}
use Rattle.nfg_words.specs.ProbeTable.{IsStorable, probe_sequence}
use Rattle.nfg_words.specs.View.{entry, Says, places_of}
use Rattle.nfg_words.specs.declared.view.View.{View}

-- TakeChunk, an exchange of a chunk word from 0 to 1: the pass has taken the chunk, whose code words are now its own
abbrev pub chunk_taken : View → ℕ → View
chunk_taken view chunk = record view {
  chunks = chunk ∷ view.chunks;
  unspent = 512 * chunk;
  end = 512 * chunk + 512;
  written = [];
  taken = view.taken + 1;
  steps = view.steps + 1;
}

-- TakeChunk, where another pass has taken the chunk before
abbrev pub chunk_found : View → ℕ → View
chunk_found view chunk = record view { chunks = chunk ∷ view.chunks; steps = view.steps + 1 }

-- the pairs of other indexes
abbrev pub without : ℕ → List (ℕ × ℕ) → List (ℕ × ℕ)
without index [] = []
without index (pair ∷ pairs) = if pair.0 == index then without index pairs else pair ∷ without index pairs

-- WriteCodes, a store of one of its own code words, in place of what it has written there before
abbrev pub codes_written : View → ℕ → ℕ → View
codes_written view c written = record view { written = (c, written) ∷ without c view.written; steps = view.steps + 1 }

-- ReadBucket, a load of a bucket word: one that is not 0 is recorded
abbrev pub bucket_read : View → ℕ → ℕ → View
bucket_read view place zero = record view { steps = view.steps + 1 }
bucket_read view place (suc less) = record view { buckets = (place, suc less) ∷ view.buckets; steps = view.steps + 1 }

-- a recorded bucket word names the code word, which ReadCodes needs
abbrev pub IsNamed : View → ℕ → Type 0
IsNamed view c = (place : ℕ) × (bucket : ℕ) × Says view.buckets place bucket × (start_of bucket ≤ c) × (c < stop_of bucket)

-- ReadCodes, a load of a code word that a recorded bucket word names
abbrev pub codes_read : View → ℕ → ℕ → View
codes_read view c found = record view { codes = (c, found) ∷ view.codes; steps = view.steps + 1 }

-- the same, where the load is the last that the number of a place wants
abbrev pub number_read : View → ℕ → ℕ → ℕ → View
number_read view c found place = record view { codes = (c, found) ∷ view.codes; numbered = place ∷ view.numbered; steps = view.steps + 1 }

-- the pairs whose index is below a bound, and the other ones
abbrev pub below : ℕ → List (ℕ × ℕ) → List (ℕ × ℕ)
below bound [] = []
below bound (pair ∷ pairs) = if nat_lt pair.0 bound then pair ∷ below bound pairs else below bound pairs

abbrev pub from : ℕ → List (ℕ × ℕ) → List (ℕ × ℕ)
from bound [] = []
from bound (pair ∷ pairs) = if nat_lt pair.0 bound then from bound pairs else pair ∷ from bound pairs

-- PublishBucket, an exchange of a bucket word from 0: the code words that the new word names are spent, and the pass has
-- put a text and knows its number. Where another word was found, it is read, as by ReadBucket.
abbrev pub bucket_published : View → ℕ → ℕ → View
bucket_published view place bucket = record view {
  buckets = (place, bucket) ∷ view.buckets;
  codes = below (stop_of bucket) view.written ++ view.codes;
  inserted = place ∷ view.inserted;
  numbered = place ∷ view.numbered;
  unspent = stop_of bucket;
  written = from (stop_of bucket) view.written;
  steps = view.steps + 1;
}

-- What PublishBucket needs: the new word names code words at the start of the unspent ones, which the pass has written and
-- which spell the text, and at each place before this one on the text's probe sequence the pass has read another text.
pub record CanPublish (n : ℕ) (view : View) (place bucket : ℕ) (text : List ℕ) : Type 0 where
  pub storable : IsStorable text
  pub lengths : (2 ≤ length_of bucket) × (length_of bucket ≤ 1024)
  pub begins : start_of bucket ≡ view.unspent
  pub ends : stop_of bucket ≤ view.end
  pub spelled : text_named (entry view.written) (Some bucket) ≡ Some text
  pub padded : length_of bucket % 2 ≡ 1 → (last : ℕ) × Says view.written (stop_of bucket - 1) last × (second_code last ≡ 0)
  pub index : ℕ
  pub on_sequence : index < n
  pub reaches : probe_sequence n text index ≡ place
  pub passed : (earlier : ℕ) → earlier < index
      → (other : List ℕ) × (places_of view (probe_sequence n text earlier) ≡ Some other) × (other ≢ text)

-- SplitView: the new pass knows what the old one knows, and has no code words and no history of its own
abbrev pub split_off : View → View
split_off view = record view {
  unspent = 0;
  end = 0;
  written = [];
  inserted = [];
  taken = 0;
  steps = 0;
  root = false;
  forks = 0;
  meets = 0;
}

-- SplitView: the old pass counts the split
abbrev pub split : View → View
split view = record view { forks = view.forks + 1 }

-- JoinViews: one pass knows what both knew, and keeps its own code words; the other view is emptied
abbrev pub joined : View → View → View
joined view other = record view {
  buckets = view.buckets ++ other.buckets;
  codes = view.codes ++ other.codes;
  chunks = view.chunks ++ other.chunks;
  inserted = view.inserted ++ other.inserted;
  numbered = view.numbered ++ other.numbered;
  meets = view.meets + other.meets + 1;
}
