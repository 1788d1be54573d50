-- What numbers spell.
use Rattle.std.proofs.Common.{◌≡◌, ℕ, zero, suc, ◌+◌, ◌<◌, ◌≤◌, true, false, List, [], ◌∷◌, ◌++◌, length, take, Some, None, ℤ, pos, negsuc, refl, sym, ap, ◌∙◌, arith, append_assoc, append-nil, slice_index_or}
use Rattle.std.proofs.lemmas.Bool.{and_from}
use Rattle.std.proofs.lemmas.Bool.Decides.{nat_tests}
use Rattle.std.specs.List.{concat, repeat}
use Rattle.std.specs.Str.{all_scalars}
use lib.Utf8.{scalar as is_scalar}
use Rattle.nfg_text.specs.Graphemes.{is_too_long}
use Rattle.nfg_text.specs.Text.{IsText, text_of}
use Rattle.nfg_text.proofs.Proved.{parts_of_text}
use Rattle.nfg_syn.specs.Known.{Texts, IsKnowledge}
use Rattle.nfg_syn.specs.Learned.{first_long}
use Rattle.nfg_syn.specs.Represents.{Represents, spelling}
use Rattle.nfg_syn.specs.RepresentsLaws.{spelling-one, Represents-append}
use Rattle.nfg_seam.proofs.RepeatSinks.{long_from, first_long-from}

-- clusters that numbers stand for spell a text
pub Represents-text : (size : ℕ) (known places : Texts) → IsKnowledge size known places → (ns : List ℤ) (cs : List (List ℕ)) → Represents known ns cs → IsText (text_of cs)
Represents-text size known places knows [] [] are = refl
Represents-text size known places knows [] (c ∷ cs) are = absurd are
Represents-text size known places knows (n ∷ ns) [] are = absurd are
Represents-text size known places knows (n ∷ ns) (c ∷ cs) are = (parts_of_text c (concat cs)).1 (one n c are.0, Represents-text size known places knows ns cs are.1)
  where
    one : (n : ℤ) (c : List ℕ) → spelling known n ≡ Some c → IsText c
    one (pos p) c e = let is = spelling-one known p c e in ap all_scalars is.1 ∙ and_from (is_scalar p) true is.0 refl
    one (negsuc m) c e = (knows.numbers m c e).1.text

-- and none of them is long
short_one : (size : ℕ) (known places : Texts) → IsKnowledge size known places → (n : ℤ) (c : List ℕ) → spelling known n ≡ Some c → length c ≤ 1024
short_one size known places knows (pos p) c e = let one = ap length (spelling-one known p c e).1 in omega (arith, one)
short_one size known places knows (negsuc m) c e = (knows.numbers m c e).1.within_limit

pub none_is_long : (size : ℕ) (known places : Texts) → IsKnowledge size known places → (ns : List ℤ) (cs : List (List ℕ)) → Represents known ns cs → first_long cs ≡ None
none_is_long size known places knows ns cs are = first_long-from cs ∙ none ns cs 0 are
  where
    none : (ns : List ℤ) (cs : List (List ℕ)) (i : ℕ) → Represents known ns cs → long_from i cs ≡ None
    none [] [] i are = refl
    none [] (c ∷ cs) i are = absurd are
    none (n ∷ ns) [] i are = absurd are
    none (n ∷ ns) (c ∷ cs) i are =
        let short = short_one size known places knows n c are.0 in
        let not_long : is_too_long c ≡ false = grind (arith, nat_tests, short) in
        rw not_long (none ns cs (i + 1) are.1)

-- numbers repeated stand for the clusters repeated
pub Represents-repeat : (known : Texts) (ns : List ℤ) (cs : List (List ℕ)) (n : ℕ) → Represents known ns cs → Represents known (repeat n ns) (repeat n cs)
Represents-repeat known ns cs zero are = tt
Represents-repeat known ns cs (suc n) are = Represents-append known ns (repeat n ns) cs (repeat n cs) are (Represents-repeat known ns cs n are)

-- the code points of one more cluster
pub spelled-next : (known : Texts) (ns : List ℤ) (cs : List (List ℕ)) (k : ℕ) → Represents known ns cs → k < length ns
    → spelling known (slice_index_or ns k (pos 0)) ≡ Some (slice_index_or cs k [])
spelled-next known [] cs k are inside = absurd (omega arith)
spelled-next known (n ∷ ns) [] k are inside = absurd are
spelled-next known (n ∷ ns) (c ∷ cs) zero are inside = are.0
spelled-next known (n ∷ ns) (c ∷ cs) (suc k) are inside = spelled-next known ns cs k are.1 (omega (arith, inside))

text-suc : (cs : List (List ℕ)) (k : ℕ) → k < length cs → text_of (take k cs) ++ slice_index_or cs k [] ≡ text_of (take (suc k) cs)
text-suc [] k inside = absurd (omega arith)
text-suc (c ∷ cs) zero inside = sym (append-nil c)
text-suc (c ∷ cs) (suc k) inside = append_assoc c (text_of (take k cs)) _ ∙ ap (λ t. c ++ t) (text-suc cs k (omega (arith, inside)))

pub text-next : (cs : List (List ℕ)) (k : ℕ) → k < length cs → text_of (take k cs) ++ slice_index_or cs k [] ≡ text_of (take (k + 1) cs)
text-next cs k inside = let one_more : suc k ≡ k + 1 = omega arith in text-suc cs k inside ∙ ap (λ n. text_of (take n cs)) one_more
