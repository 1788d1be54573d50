-- What a pass holds when the program runs, and what one call does to its view (this project's own).
use Rattle.std.specs.Prelude.{◌≡◌, ◌≢◌, ℕ, ◌+◌, ◌*◌, ◌/◌, ◌<◌, ◌≤◌, Bool, List, ◌∷◌, length, Some, ◌⊎◌, if◌then◌else◌}
use Rattle.atomic_table.specs.Seated.{TableId}
use Rattle.nfg_words.specs.Layout.{chunk_count}
use Rattle.nfg_words.specs.View.{Says, IsAmong, Grows, places_of}
use Rattle.nfg_words.specs.Words.{IsSeatOf}
use Rattle.nfg_words.specs.Writing.{HasWritten}
use Rattle.nfg_words.specs.declared.pass.WordPass.{WordPass}
use Rattle.nfg_words.specs.declared.view.View.{View}

-- what the pass knows
abbrev pub view_of : WordPass → View
view_of pass = pass.holder.me.0

-- The pass is one of the table of this name, which has n buckets, and holds where its unspent code words lie, and how many
-- chunks it has found taken, from the first one on.
pub record IsHeld (id : TableId) (n : ℕ) (pass : WordPass) : Type 0 where
  pub seat : IsSeatOf id n pass.holder
  pub unspent : (view_of pass).unspent ≡ pass.unspent
  pub end : (view_of pass).end ≡ pass.end
  pub ordered : pass.unspent ≤ pass.end
  pub inside : pass.end ≤ 512 * chunk_count n
  pub tried : (chunk : ℕ) → chunk < pass.tried → IsAmong (view_of pass).chunks chunk
  pub tried_within : pass.tried ≤ chunk_count n

-- the text of each bucket word that the pass has read is read in full, but for that at one place
abbrev pub AreReadBut : ℕ → View → Type 0
AreReadBut place view = (other found : ℕ) → other ≢ place → Says view.buckets other found → (text : List ℕ) × (places_of view other ≡ Some text)

-- the text of each bucket word that the pass has read is read in full
abbrev pub AreReadInFull : View → Type 0
AreReadInFull view = (place found : ℕ) → Says view.buckets place found → (text : List ℕ) × (places_of view place ≡ Some text)

-- so it is between two calls
pub record IsPassOf (id : TableId) (n : ℕ) (pass : WordPass) : Type 0 where
  pub held : IsHeld id n pass
  pub in_full : AreReadInFull (view_of pass)

-- the pass has a text of so many code words ready at the start of its unspent ones
pub record IsReady (pass : WordPass) (text : List ℕ) : Type 0 where
  pub written : HasWritten (view_of pass) pass.unspent ((length text + 1) / 2) text
  pub room : pass.unspent + (length text + 1) / 2 ≤ pass.end

-- the unspent code words of the pass are as many as the text needs
abbrev pub HasUnspentRoom : View → List ℕ → Type 0
HasUnspentRoom view text = view.unspent + (length text + 1) / 2 ≤ view.end

-- what no step of a call changes but a split or a join: where the pass came from, and its counts of both
pub record SameOrigin (old new : View) : Type 0 where
  pub root : new.root ≡ old.root
  pub forks : new.forks ≡ old.forks
  pub meets : new.meets ≡ old.meets

-- the pass records more, but numbers no place and puts no text
pub record LooksOn (old new : View) : Type 0 where
  pub grows : Grows old new
  pub numbered : new.numbered ≡ old.numbered
  pub inserted : new.inserted ≡ old.inserted
  pub origin : SameOrigin old new

-- the pass records more, and knows the number of one place more, at which the text stands
pub record Finds (place : ℕ) (text : List ℕ) (old new : View) : Type 0 where
  pub grows : Grows old new
  pub here : places_of new place ≡ Some text
  pub numbered : new.numbered ≡ place ∷ old.numbered
  pub origin : SameOrigin old new

-- the pass has put no text, or one at this place
abbrev pub PutsAtMost : ℕ → View → View → Type 0
PutsAtMost place old new = (new.inserted ≡ old.inserted) ⊎ (new.inserted ≡ place ∷ old.inserted)

-- how many steps a call may still need for getting a text ready, and how many chunks
abbrev pub ready_steps : ℕ → Bool → ℕ
ready_steps n ready = if ready then 0 else chunk_count n + 512

abbrev pub ready_chunks : Bool → ℕ
ready_chunks ready = if ready then 0 else 1
