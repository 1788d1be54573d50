-- What the pass of an `OwnTable` holds is knowledge, as the trait `Synthetics` asks.
use Rattle.std.proofs.Common.{◌≡◌, ℕ, zero, suc, ◌<◌, ◌≤◌, List, Some, refl, sym, ap, subst, arith}
use Rattle.std.proofs.lemmas.Option.{slice_get_within}
use Rattle.nfg_syn.specs.Known.{IsKnowledge, IsOneToOne, IsInternable, IsRowSize, crlf}
use Rattle.nfg_syn.specs.Refusal.{IsTableFull}
use Rattle.nfg_syn.specs.KnownLaws.{same_text}
use Rattle.nfg_syn.specs.OwnTexts.{OwnTexts, AreTextsOf, IsOwnPass, known_of, places_of}

-- CR LF is a text of two code points
pub crlf_internable : IsInternable crlf
crlf_internable = record { text = refl; several = omega arith; within_limit = omega arith }

pub one_to_one_of : (size : ℕ) (texts : List (List ℕ)) → AreTextsOf size texts → IsOneToOne (known_of texts)
one_to_one_of size texts are zero zero t e f = refl
one_to_one_of size texts are zero (suc b) t e f = absurd ((are.each b t f).1 (sym (same_text crlf t e)))
one_to_one_of size texts are (suc a) zero t e f = absurd ((are.each a t e).1 (sym (same_text crlf t f)))
one_to_one_of size texts are (suc a) (suc b) t e f = ap (λ k. suc k) (are.different a b t e f)

pub numbers_of : (size : ℕ) (texts : List (List ℕ)) → AreTextsOf size texts → (m : ℕ) (t : List ℕ) → known_of texts m ≡ Some t → (m ≤ size) × IsInternable t
numbers_of size texts are zero t e = let P : List ℕ → Type 0 = λ u. (0 ≤ size) × IsInternable u in subst P (same_text crlf t e) (omega arith, crlf_internable)
numbers_of size texts are (suc k) t e = let in_list = slice_get_within texts k t e in let fit = are.fit in (omega arith, (are.each k t e).0)

pub rows_of : (size : ℕ) (texts : List (List ℕ)) → AreTextsOf size texts → (k : ℕ) (t : List ℕ) → places_of texts k ≡ Some t → (k < size) × IsInternable t
rows_of size texts are k t e = let in_list = slice_get_within texts k t e in let fit = are.fit in (omega arith, (are.each k t e).0)

pub knowledge_of : (size : ℕ) (pass : OwnTexts) → IsOwnPass size pass → IsKnowledge size (known_of pass.texts) (places_of pass.texts)
knowledge_of size pass own = record {
  line_end = refl;
  one_to_one = one_to_one_of size pass.texts own.lawful;
  numbers = numbers_of size pass.texts own.lawful;
  rows = rows_of size pass.texts own.lawful;
  tied = λ k t e. e;
}

pub row_size_of : (size : ℕ) (pass : OwnTexts) → IsOwnPass size pass → IsRowSize size
row_size_of size pass own = own.lawful.row_size

pub full_of : (size : ℕ) (pass : OwnTexts) (t : List ℕ) → IsOwnPass size pass → IsTableFull pass.size (places_of pass.texts) t → IsTableFull size (places_of pass.texts) t
full_of size pass t own full = let P : ℕ → Type 0 = λ n. IsTableFull n (places_of pass.texts) t in subst P own.same_size full
