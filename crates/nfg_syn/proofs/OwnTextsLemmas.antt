-- The texts of an `OwnTable` after one more is interned.
use Rattle.std.proofs.Common.{◌≡◌, ◌≢◌, ℕ, zero, suc, ◌+◌, ◌<◌, ◌≤◌, List, [], ◌∷◌, ◌++◌, length, slice_get, Some, is_some, refl, sym, ap, subst, ◌∙◌, arith, ◌⊎◌, inl, inr, negsuc}
use Rattle.std.proofs.lemmas.Grind.{common_steps}
use Rattle.std.proofs.lemmas.Option.{slice_get_within, slice_get_past, slice_get-get_or}
use mathlib.Core.Logic.{dite}
use native.Mathlib.Decide.{ℕ_discrete}
use Rattle.nfg_syn.specs.Known.{IsWithin, IsUnknown, MapsBesides, IsInternable, crlf}
use Rattle.nfg_syn.specs.Seen.{Keeps}
use Rattle.nfg_syn.specs.Refusal.{IsTableFull}
use Rattle.nfg_syn.specs.OwnTexts.{OwnTexts, AreTextsOf, IsOwnPass, known_of, places_of, seen_of}
use Rattle.nfg_syn.specs.KnownLaws.{same_text}

-- a new text stands at the place that was free
pub slice_get-push_last : (texts : List (List ℕ)) (t : List ℕ) → slice_get (texts ++ t ∷ []) (length texts) ≡ Some t
slice_get-push_last [] t = refl
slice_get-push_last (x ∷ xs) t = let later = slice_get-push_last xs t in let long : length (x ∷ xs) ≡ suc (length xs) = grind (arith, common_steps) in ap (λ k. slice_get ((x ∷ xs) ++ t ∷ []) k) long ∙ later

-- every other place keeps what it had
pub slice_get-push_other : (texts : List (List ℕ)) (t : List ℕ) (k : ℕ) → k ≢ length texts → slice_get (texts ++ t ∷ []) k ≡ slice_get texts k
slice_get-push_other [] t zero other = absurd (other refl)
slice_get-push_other [] t (suc k) other = refl
slice_get-push_other (x ∷ xs) t zero other = refl
slice_get-push_other (x ∷ xs) t (suc k) other = slice_get-push_other xs t k (λ same. other (omega arith))

-- what contracts see of a pass after a new text
pub record Grown (size : ℕ) (old : OwnTexts) (t : List ℕ) (new : OwnTexts) : Type 0 where
  pub own : IsOwnPass size new
  pub keeps : Keeps (seen_of old) (seen_of new)
  pub besides : MapsBesides (known_of old.texts) (negsuc (suc (length old.texts))) t (known_of new.texts)

module _ (size : ℕ) (old : OwnTexts) (t : List ℕ) (own : IsOwnPass size old) (room : length old.texts < size) (internable : IsInternable t) (unknown : IsUnknown (known_of old.texts) t) where
  abbrev new : List (List ℕ)
  new = old.texts ++ t ∷ []

  -- a text of the longer list is the new one, at the end, or an old one
  which : (k : ℕ) (u : List ℕ) → slice_get new k ≡ Some u → ((k ≡ length old.texts) × (u ≡ t)) ⊎ (slice_get old.texts k ≡ Some u)
  which k u e = dite (ℕ_discrete k (length old.texts))
      (λ last. inl (last, same_text u t (sym e ∙ (ap (slice_get new) last ∙ slice_get-push_last old.texts t))))
      (λ before. inr (sym (slice_get-push_other old.texts t k before) ∙ e))

  abbrev IsFine : List ℕ → Type 0
  IsFine u = IsInternable u × (u ≢ crlf)

  each : (k : ℕ) (u : List ℕ) → slice_get new k ≡ Some u → IsFine u
  each k u e = elim (which k u e) [ inl last ↦ subst IsFine (sym last.1) (internable, λ same. unknown 0 (ap Some (sym same))) | inr before ↦ own.lawful.each k u before ]

  not_new : (k : ℕ) (u : List ℕ) → slice_get old.texts k ≡ Some u → u ≢ t
  not_new k u e same = unknown (suc k) (e ∙ ap Some same)

  different : (a b : ℕ) (u : List ℕ) → slice_get new a ≡ Some u → slice_get new b ≡ Some u → a ≡ b
  different a b u e f = elim (which a u e) [
    | inl at_a ↦ elim (which b u f) [ inl at_b ↦ at_a.0 ∙ sym at_b.0 | inr before_b ↦ absurd (not_new b u before_b at_a.1) ]
    | inr before_a ↦ elim (which b u f) [ inl at_b ↦ absurd (not_new a u before_a at_b.1) | inr before_b ↦ own.lawful.different a b u before_a before_b ]
  ]

  longer : length new ≡ length old.texts + 1
  longer = grind (arith, common_steps)

  lawful : AreTextsOf size new
  lawful = let more = longer in record { row_size = own.lawful.row_size; fit = omega arith; each = each; different = different }

  within : IsWithin (places_of old.texts) (places_of new)
  within k u e = let inside = slice_get_within old.texts k u e in slice_get-push_other old.texts t k (omega arith) ∙ e

  known_within : IsWithin (known_of old.texts) (known_of new)
  known_within zero u e = e
  known_within (suc k) u e = within k u e

  others : (m : ℕ) → m ≢ suc (length old.texts) → known_of new m ≡ known_of old.texts m
  others zero differ = refl
  others (suc k) differ = slice_get-push_other old.texts t k (λ same. differ (ap (λ j. suc j) same))

  -- a list with room is not full
  not_full : (u : List ℕ) → IsTableFull old.size (places_of old.texts) u → ⊥
  not_full u full = let same = own.same_size in let taken = full.taken (length old.texts) (omega arith) in let past = slice_get_past old.texts (length old.texts) (omega arith) in grind (arith, taken, past)

  pub grown : (now : OwnTexts) → now.size ≡ old.size → now.texts ≡ new → Grown size old t now
  grown now size_is texts_are =
      let P : ℕ → List (List ℕ) → Type 0 = λ n texts. Grown size old t (record { size = n; texts = texts }) in
      subst (λ texts. P now.size texts) (sym texts_are) (subst (λ n. P n new) (sym size_is) (record {
        own = record { same_size = own.same_size; lawful = lawful };
        keeps = record { known = known_within; places = within; root = refl; full = λ u full. absurd (not_full u full); drained = λ never. never };
        besides = (slice_get-push_last old.texts t, others);
      }))

-- a list as long as the table is large fills each place
pub full_at : (size : ℕ) (texts : List (List ℕ)) (t : List ℕ) → size ≤ length texts → ((k : ℕ) → slice_get texts k ≢ Some t) → IsTableFull size (places_of texts) t
full_at size texts t long absent = record { taken = λ k inside. ap is_some (slice_get-get_or texts k t (omega arith)); absent = absent }
