-- What the pass of a `WordTable` knows is knowledge, as the trait `Synthetics` asks.
use Rattle.std.proofs.Common.{◌≡◌, ℕ, zero, suc, ◌<◌, ◌≤◌, Bool, true, false, List, Some, None, Option, if◌then◌else◌, refl, sym, ap, ◌∙◌, subst, arith}
use Rattle.std.proofs.Math.Decide.{dec_lt}
use mathlib.Core.Logic.{dite}
use Rattle.nfg_syn.specs.Known.{IsKnowledge, IsInternable, IsOneToOne, IsRowSize, crlf}
use Rattle.nfg_syn.specs.KnownLaws.{same_text}
use Rattle.nfg_syn.specs.OwnTextsLaws.{crlf_internable}
use Rattle.nfg_syn.specs.Refusal.{IsTableFull}
use Rattle.nfg_words.specs.Layout.{text_named}
use Rattle.nfg_words.specs.Passes.{view_of}
use Rattle.nfg_words.specs.ProbeTable.{IsStorable}
use Rattle.nfg_words.specs.Rule.{codes_now, texts_now}
use Rattle.nfg_words.specs.SoundLaws.{bucket_beyond, its_records, its_rule, its_word, no_text, places_true}
use Rattle.nfg_words.specs.Table.{IsFullOf, IsWordPass, is_among, known_of}
use Rattle.nfg_words.specs.View.{places_of}
use Rattle.nfg_words.specs.Words.{IsSound}
use Rattle.nfg_words.specs.declared.pass.WordPass.{WordPass}
use Rattle.nfg_words.specs.declared.table.WordTable.{WordTable}
use Rattle.nfg_words.specs.declared.view.View.{View}

by_mark : (mark : Bool) (text : Option (List ℕ)) (t : List ℕ) → (if mark then text else None) ≡ Some t → (mark ≡ true) × (text ≡ Some t)
by_mark true text t e = (refl, e)
by_mark false text t e = absurd (no_text t e)

-- the number of a place that is known has the text that is read there
pub known_read : (view : View) (place : ℕ) (t : List ℕ) → known_of view (suc place) ≡ Some t → (is_among view.numbered place ≡ true) × (places_of view place ≡ Some t)
known_read view place t e = by_mark (is_among view.numbered place) (places_of view place) t e

module _ (n : ℕ) (view : View) (sound : IsSound n view) where
  stands : (place : ℕ) (t : List ℕ) → places_of view place ≡ Some t → texts_now n (its_word n view sound) place ≡ Some t
  stands = places_true n (its_word n view sound) view (its_records n view sound)

  pub read_storable : (place : ℕ) (t : List ℕ) → places_of view place ≡ Some t → IsStorable t
  read_storable place t e = (its_rule n view sound).words_valid.storable place t (stands place t e)

  pub read_within : (place : ℕ) (t : List ℕ) → places_of view place ≡ Some t → place < n
  read_within place t e = dite (dec_lt place n) (λ low. low)
      (λ high. absurd (no_text t (sym (ap (text_named (codes_now n (its_word n view sound))) (bucket_beyond n (its_word n view sound) place (omega arith))) ∙ stands place t e)))

  pub read_one_to_one : IsOneToOne (places_of view)
  read_one_to_one a b t e f = (its_rule n view sound).texts_distinct a b t (stands a t e) (stands b t f)

  known_one_to_one : IsOneToOne (known_of view)
  known_one_to_one zero zero t e f = refl
  known_one_to_one zero (suc b) t e f = absurd ((read_storable b t (known_read view b t f).1).no_line_end (sym (same_text crlf t e)))
  known_one_to_one (suc a) zero t e f = absurd ((read_storable a t (known_read view a t e).1).no_line_end (sym (same_text crlf t f)))
  known_one_to_one (suc a) (suc b) t e f = ap (λ m. suc m) (read_one_to_one a b t (known_read view a t e).1 (known_read view b t f).1)

  numbers : (m : ℕ) (t : List ℕ) → known_of view m ≡ Some t → (m ≤ n) × IsInternable t
  numbers zero t e = (omega arith, subst IsInternable (same_text crlf t e) crlf_internable)
  numbers (suc place) t e = let read = (known_read view place t e).1 in let low = read_within place t read in (omega arith, (read_storable place t read).internable)

  pub knowledge : IsKnowledge n (known_of view) (places_of view)
  knowledge = record {
    line_end = refl;
    one_to_one = known_one_to_one;
    numbers = numbers;
    rows = λ place t e. (read_within place t e, (read_storable place t e).internable);
    tied = λ place t e. (known_read view place t e).1;
  }

pub row_size_of : (table : WordTable) (pass : WordPass) → IsWordPass table pass → IsRowSize table.n
row_size_of table pass is = is.row_size

pub knows_of : (table : WordTable) (pass : WordPass) → IsWordPass table pass → IsKnowledge table.n (known_of (view_of pass)) (places_of (view_of pass))
knows_of table pass is = knowledge table.n (view_of pass) is.of_pass.held.seat.sound

pub full_of : (table : WordTable) (pass : WordPass) (t : List ℕ) → IsWordPass table pass → IsFullOf (view_of pass) t → IsTableFull table.n (places_of (view_of pass)) t
full_of table pass t is full = subst (λ (n : ℕ). IsTableFull n (places_of (view_of pass)) t) is.of_pass.held.seat.size full.full
