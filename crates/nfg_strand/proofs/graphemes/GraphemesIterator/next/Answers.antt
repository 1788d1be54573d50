use Rattle.std.proofs.Common.{rules, arith, ◌≡◌, ℕ, ◌+◌, ◌-◌, ◌<◌, ◌≤◌, length, List, ◌∷◌, ◌++◌, take, drop, ℤ, pos, suc, slice_index_or, slice_range, w32, to_z, of_z, ap, ap₂, sym, ◌∙◌, refl, drop-cons, add-one, get_or, length-take-le, subst}
use Rattle.std.proofs.lemmas.List.{take_at, take-append-drop}
use Rattle.nfg_strand.specs.declared.graphemes.Graphemes.TheInside.{Inside}
use Rattle.nfg_strand.proofs.graphemes.GraphemesIterator.next.Goals as goal
use Rattle.nfg_strand.proofs.graphemes.GraphemesIterator.next.Goals.{then-self+else-count-eq0, else-self}

first_of : (buf left all : List ℤ) (at filled : ℕ) → at < filled → filled ≤ length buf → all ≡ slice_range buf at filled ++ left →
    all ≡ slice_index_or buf at (pos 0) ∷ (slice_range buf (at + 1) filled ++ left)
first_of buf left all at filled some inside is =
    let more : filled - at ≡ suc (filled - (at + 1)) = omega arith in
    let within : at < length buf = omega arith in
    let step : drop at buf ≡ get_or buf at (pos 0) ∷ drop (at + 1) buf = rw (add-one, drop-cons buf at (pos 0)) refl in
    is ∙ ap (λ xs. xs ++ left) (ap₂ take more step)

abbrev Reads : List ℤ → List ℤ → List ℤ → ℕ → ℕ → Type 0
Reads all buf left at filled = (at < filled) × ((filled ≤ length buf) × (all ≡ slice_range buf at filled ++ left))

refilled : (all old left buf new : List ℤ) (at filled count : ℕ) → at ≡ filled → slice_range old at filled ++ left ≡ all → count ≤ length left →
    buf ≡ take count left ++ drop count old → new ≡ drop count left → all ≡ slice_range buf 0 count ++ new
refilled all old left buf new at filled count over view few read rest =
    let none : filled - at ≡ 0 = omega arith in
    let count_is : count - 0 ≡ count = omega arith in
    sym view ∙ ap (λ n. take n (drop at old) ++ left) none ∙ sym (take-append-drop count left)
    ∙ ap₂ ◌++◌ (sym (take_at (take count left) (drop count old) count (length-take-le count left few)) ∙ ap (take count) (sym read) ∙ ap (λ n. take n buf) (sym count_is)) (sym rest)

pub returns-clause-steps : goal.returns-clause-steps
returns-clause-steps c =
    let i = c.if-self.self-inside in
    let same : to_z w32 (of_z w32 (get_or i.buffer i.at (pos 0))) ≡ get_or i.buffer i.at (pos 0) = search rules in
    let reads : Reads c.args.self.now i.buffer i.source i.at i.filled =
    elim c.if-self.branch [
      | then-self+else-count-eq0 w ↦
          subst (λ (j : Inside). Reads c.args.self.now j.buffer j.source j.at j.filled) (sym w.self-inside-is) (
            omega (arith, w.if-count-eq0.false),
            (
              search rules,
              refilled c.args.self.now c.self.inside.buffer c.self.inside.source _ _ c.self.inside.at c.self.inside.filled w.read-count.result w.if-self.true c.self.view_is
                  (omega (arith, w.read-count.ensures.count)) w.read-count.ensures.read w.read-count.ensures.left,
            ),
          )
      | else-self w ↦
          subst (λ (j : Inside). Reads c.args.self.now j.buffer j.source j.at j.filled) (sym w.self-inside-is)
          (omega (arith, w.if-self.false, c.self.invariant.0), (omega (arith, c.self.told, c.self.invariant.1), sym c.self.view_is))
    ] in
    first_of i.buffer i.source c.args.self.now i.at i.filled reads.0 reads.1.0 reads.1.1
    ∙ ap (λ x. x ∷ (slice_range i.buffer (i.at + 1) i.filled ++ i.source)) (sym same)
