-- What looks at places leave of a view, one after another.
use Rattle.std.proofs.Common.{◌≡◌, ◌≢◌, ℕ, zero, suc, ◌+◌, ◌<◌, List, ◌∷◌, Option, Some, None, ⊎_elim, refl, sym, ap, ◌∙◌, subst, arith}
use Rattle.std.specs.Prelude.{Result, Ok, Bool, true, false}
use mathlib.Core.Logic.{dite}
use native.Mathlib.Decide.{ℕ_discrete, dec_lt}
use Rattle.nfg_syn.specs.Known.{Texts}
use Rattle.nfg_syn.specs.KnownLaws.{same_text}
use Rattle.nfg_words.proofs.Entries.{says-cons, says-first, places_more}
use Rattle.nfg_words.specs.Comparing.{ReadsOn, ArePassed, HoldsOther, IsFound, numbered}
use Rattle.nfg_words.specs.Layout.{text_named}
use Rattle.atomic_table.specs.Seated.{TableId}
use Rattle.atomic_table.specs.declared.shared.Seat.{Seat}
use Rattle.nfg_words.specs.Passes.{AreReadBut, AreReadInFull, Finds, IsHeld, IsPassOf, LooksOn, SameOrigin, view_of}
use Rattle.nfg_words.specs.Words.{IsSeatOf}
use Rattle.nfg_words.specs.declared.pass.WordPass.{WordPass}
use Rattle.nfg_words.specs.ProbeTable.{probe_sequence}
use Rattle.nfg_words.specs.Steps.{bucket_read}
use Rattle.nfg_words.specs.View.{entry, Says, IsAmong, Grows, places_of}
use Rattle.nfg_words.specs.declared.view.View.{View}

pub Grows-refl : (v : View) → Grows v v
Grows-refl v = record { buckets = λ k w s. s; codes = λ k w s. s; chunks = λ k among. among }

pub Grows-trans : (u v w : View) → Grows u v → Grows v w → Grows u w
Grows-trans u v w first second = record {
  buckets = λ k found s. second.buckets k found (first.buckets k found s);
  codes = λ k found s. second.codes k found (first.codes k found s);
  chunks = λ k among. second.chunks k (first.chunks k among);
}

pub SameOrigin-trans : (u v w : View) → SameOrigin u v → SameOrigin v w → SameOrigin u w
SameOrigin-trans u v w first second = record { root = second.root ∙ first.root; forks = second.forks ∙ first.forks; meets = second.meets ∙ first.meets }

pub LooksOn-refl : (v : View) → LooksOn v v
LooksOn-refl v = record { grows = Grows-refl v; numbered = refl; inserted = refl; origin = record { root = refl; forks = refl; meets = refl } }

pub LooksOn-trans : (u v w : View) → LooksOn u v → LooksOn v w → LooksOn u w
LooksOn-trans u v w first second = record {
  grows = Grows-trans u v w first.grows second.grows;
  numbered = second.numbered ∙ first.numbered;
  inserted = second.inserted ∙ first.inserted;
  origin = SameOrigin-trans u v w first.origin second.origin;
}

-- the pass looks on, and then finds the text
pub Finds-after : (u v w : View) (place : ℕ) (text : List ℕ) → LooksOn u v → Finds place text v w → Finds place text u w
Finds-after u v w place text first second = record {
  grows = Grows-trans u v w first.grows second.grows;
  here = second.here;
  numbered = second.numbered ∙ ap (λ ps. place ∷ ps) first.numbered;
  origin = SameOrigin-trans u v w first.origin second.origin;
}

-- a load of a bucket word
pub looks_bucket : (old new : View) (place found : ℕ) → new ≡ bucket_read old place found → Grows old new → LooksOn old new
looks_bucket old new place zero is grows = record {
  grows = grows;
  numbered = ap (λ (v : View). v.numbered) is;
  inserted = ap (λ (v : View). v.inserted) is;
  origin = record { root = ap (λ (v : View). v.root) is; forks = ap (λ (v : View). v.forks) is; meets = ap (λ (v : View). v.meets) is };
}
looks_bucket old new place (suc less) is grows = record {
  grows = grows;
  numbered = ap (λ (v : View). v.numbered) is;
  inserted = ap (λ (v : View). v.inserted) is;
  origin = record { root = ap (λ (v : View). v.root) is; forks = ap (λ (v : View). v.forks) is; meets = ap (λ (v : View). v.meets) is };
}

pub says_bucket : (old new : View) (place found : ℕ) → new ≡ bucket_read old place found → found ≢ 0 → Says new.buckets place found
says_bucket old new place zero is some = absurd (some refl)
says_bucket old new place (suc less) is some = ap (λ (v : View). entry v.buckets place) is ∙ says-first place (suc less) old.buckets

pub but_bucket : (old new : View) (place found : ℕ) → new ≡ bucket_read old place found → Grows old new → AreReadBut place old → AreReadBut place new
but_bucket old new place zero is grows but other word differ says =
    let was = but other word differ (subst (λ (v : View). Says v.buckets other word) is says) in (was.0, places_more 0 old new grows.codes grows.buckets other was.0 was.1)
but_bucket old new place (suc less) is grows but other word differ says = ⊎_elim
    (λ here. absurd (differ (sym here.0)))
    (λ past. let was = but other word differ past in (was.0, places_more 0 old new grows.codes grows.buckets other was.0 was.1))
    (says-cons place (suc less) old.buckets other word (subst (λ (v : View). Says v.buckets other word) is says))

pub full_bucket : (old new : View) (place : ℕ) → new ≡ bucket_read old place 0 → Grows old new → AreReadInFull old → AreReadInFull new
full_bucket old new place is grows full other word says =
    let was = full other word (subst (λ (v : View). Says v.buckets other word) is says) in (was.0, places_more 0 old new grows.codes grows.buckets other was.0 was.1)

-- the same bucket words and code words
pub full_same : (old new : View) → new.buckets ≡ old.buckets → new.codes ≡ old.codes → AreReadInFull old → AreReadInFull new
full_same old new buckets codes full = subst (λ (pair : List (ℕ × ℕ) × List (ℕ × ℕ)). AreReadInFull (record new { buckets = pair.0; codes = pair.1 })) (λ i. (sym buckets i, sym codes i)) full

pub but_full : (place : ℕ) (view : View) → AreReadInFull view → AreReadBut place view
but_full place view full other found differ says = full other found says

-- a text that was read besides
pub full_reads : (old new : View) (place : ℕ) → ReadsOn old new → AreReadBut place old → (text : List ℕ) → places_of new place ≡ Some text → AreReadInFull new
full_reads old new place on but text here other found says = dite (ℕ_discrete other place)
    (λ same. (text, ap (places_of new) same ∙ here))
    (λ differ. let was = but other found differ (subst (λ (v : View). Says v.buckets other found) on.same says) in
    (was.0, places_more 0 old new on.codes (λ k w s. ap (λ (v : View). entry v.buckets k) on.same ∙ s) other was.0 was.1))

pub looks_reads : (old new : View) → ReadsOn old new → LooksOn old new
looks_reads old new on = record {
  grows = record {
    buckets = λ k w s. ap (λ (v : View). entry v.buckets k) on.same ∙ s;
    codes = on.codes;
    chunks = λ k among. subst (λ (v : View). IsAmong v.chunks k) (sym on.same) among;
  };
  numbered = ap (λ (v : View). v.numbered) on.same;
  inserted = ap (λ (v : View). v.inserted) on.same;
  origin = record { root = ap (λ (v : View). v.root) on.same; forks = ap (λ (v : View). v.forks) on.same; meets = ap (λ (v : View). v.meets) on.same };
}

pub finds_reads : (old new : View) (place : ℕ) (text : List ℕ) → ReadsOn (numbered old place) new → places_of new place ≡ Some text → Finds place text old new
finds_reads old new place text on here = let looks = looks_reads (numbered old place) new on in record {
  grows = record { buckets = looks.grows.buckets; codes = looks.grows.codes; chunks = looks.grows.chunks };
  here = here;
  numbered = looks.numbered;
  origin = record { root = looks.origin.root; forks = looks.origin.forks; meets = looks.origin.meets };
}

-- a place that is not recorded shows no text
pub unseen : (view : View) (place : ℕ) → ((word : ℕ) → Says view.buckets place word → 0 ≡ word) → places_of view place ≡ None
unseen view place none = by (entry view.buckets place) refl where
  by : (found : Option ℕ) → entry view.buckets place ≡ found → places_of view place ≡ None
  by None is = ap (text_named (entry view.codes)) is
  by (Some word) is = ap (text_named (entry view.codes)) (is ∙ ap (λ m. Some m) (sym (none word is)))

-- a pass that has read code words holds what it held
pub held_reads : (id : TableId) (n : ℕ) (pass : WordPass) (holder : Seat ℕ View) → IsHeld id n pass → IsSeatOf id n holder → holder.me.0.unspent ≡ (view_of pass).unspent
    → holder.me.0.end ≡ (view_of pass).end → holder.me.0.chunks ≡ (view_of pass).chunks → IsHeld id n (record pass { holder = holder })
held_reads id n pass holder held seat unspent end chunks = record {
  seat = seat;
  unspent = unspent ∙ held.unspent;
  end = end ∙ held.end;
  ordered = held.ordered;
  inside = held.inside;
  tried = λ chunk low. subst (λ (all : List ℕ). IsAmong all chunk) (sym chunks) (held.tried chunk low);
  tried_within = held.tried_within;
}

-- a text is found at one place alone
pub found_one : (n : ℕ) (places : Texts) (text : List ℕ) (a b : ℕ) → IsFound n places a text → IsFound n places b text → a ≡ b
found_one n places text a b here there = dite (ℕ_discrete here.index there.index)
    (λ same. sym here.reaches ∙ (ap (probe_sequence n text) same ∙ there.reaches))
    (λ differ. dite (dec_lt here.index there.index)
    (λ less. absurd (passes_by there.index there.passed a here.index less here.reaches here.here))
    (λ more. absurd (passes_by here.index here.passed b there.index (omega arith) there.reaches there.here)))
  where
    passes_by : (index : ℕ) → ArePassed n places text index → (k earlier : ℕ) → earlier < index → probe_sequence n text earlier ≡ k → places k ≡ Some text → ⊥
    passes_by index passed k earlier less reaches at =
        let other = passed earlier less in other.2 (same_text other.0 text (sym other.1 ∙ (ap places reaches ∙ at)))

pub found_more : (n : ℕ) (old new : View) (k : ℕ) (text : List ℕ) → Grows old new → IsFound n (places_of old) k text → IsFound n (places_of new) k text
found_more n old new k text grows found = record {
  here = places_more n old new grows.codes grows.buckets k text found.here;
  index = found.index;
  on_sequence = found.on_sequence;
  reaches = found.reaches;
  passed = λ earlier low. let is = found.passed earlier low in (is.0, places_more n old new grows.codes grows.buckets _ is.0 is.1, is.2);
}

-- one place more is passed
pub passed_next : (n : ℕ) (view : View) (text : List ℕ) (index place : ℕ) → ArePassed n (places_of view) text index → probe_sequence n text index ≡ place → HoldsOther view place text
    → ArePassed n (places_of view) text (index + 1)
passed_next n view text index place passed reaches other earlier low = dite (ℕ_discrete earlier index)
    (λ same. (other.0, ap (places_of view) (ap (probe_sequence n text) same ∙ reaches) ∙ other.1, other.2))
    (λ differ. passed earlier (omega arith))

-- where a text is found, no place before it shows none, and so not the place itself
pub found_seen : (n : ℕ) (places : Texts) (text : List ℕ) (k index place : ℕ) → IsFound n places k text → ArePassed n places text index → probe_sequence n text index ≡ place → places place ≡ None → ⊥
found_seen n places text k index place found passed reaches none = dite (ℕ_discrete found.index index)
    (λ same. let at : places place ≡ Some text = ap places (sym reaches ∙ (ap (probe_sequence n text) (sym same) ∙ found.reaches)) ∙ found.here in cc)
    (λ differ. dite (dec_lt found.index index)
    (λ less. let other = passed found.index less in
    other.2 (same_text other.0 text (sym other.1 ∙ (ap places found.reaches ∙ found.here))))
    (λ more. let other = found.passed index (omega arith) in
    let at : places place ≡ Some other.0 = ap places (sym reaches) ∙ other.1 in cc))

-- a text that is found is not passed at all places
pub found_within : (n : ℕ) (places : Texts) (text : List ℕ) (k : ℕ) → IsFound n places k text → ArePassed n places text n → ⊥
found_within n places text k found passed =
    let other = passed found.index found.on_sequence in other.2 (same_text other.0 text (sym other.1 ∙ (ap places found.reaches ∙ found.here)))

pub ok_apart : {E : Type 0} (answer : Result Bool E) → answer ≡ Ok false → answer ≡ Ok true → ⊥
ok_apart answer one other = cc

pub ReadsOn-refl : (v : View) → ReadsOn v v
ReadsOn-refl v = record { same = refl; codes = λ k w says. says }

-- and so is a pass of its table
pub pass_reads : (id : TableId) (n : ℕ) (pass : WordPass) (holder : Seat ℕ View) → IsPassOf id n pass → IsSeatOf id n holder → ReadsOn (view_of pass) holder.me.0
    → IsPassOf id n (record pass { holder = holder })
pass_reads id n pass holder is seat on = record {
  held = held_reads id n pass holder is.held seat (ap (λ (v : View). v.unspent) on.same) (ap (λ (v : View). v.end) on.same) (ap (λ (v : View). v.chunks) on.same);
  in_full = λ place found says.
      let was = is.in_full place found (subst (λ (v : View). Says v.buckets place found) on.same says) in
      (was.0, places_more n (view_of pass) holder.me.0 on.codes (λ k w s. ap (λ (v : View). entry v.buckets k) on.same ∙ s) place was.0 was.1);
}
