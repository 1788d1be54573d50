use Rattle.std.proofs.Common.{◌≡◌, ◌≢◌, ℕ, ◌≤◌, ◌∷◌, [], ◌++◌, List, suc, negsuc, length, Some, Ok, Err, Result, ℤ, to_z, of_z, w32, rules, refl, sym, ap, ◌∙◌, arith, subst}
use Rattle.nfg_syn.specs.Known.{IsUnknown, MapsBesides, crlf}
use Rattle.nfg_syn.specs.declared.synthetics.InternError.TheVariants.{OutOfMemory}
use Rattle.nfg_syn.specs.OwnTexts.{OwnTexts, IsOwnPass, known_of}
use Rattle.nfg_syn.specs.KnownLaws.{row_size_most}
use Rattle.nfg_syn.proofs.OwnTextsLemmas.{Grown, grown, full_at}
use Rattle.nfg_syn.proofs.own_table.OwnTableSynthetics.intern.Goals as goal

-- a pass has at most 2^20 texts
few : (size : ℕ) (pass : OwnTexts) (texts : List (List ℕ)) → IsOwnPass size pass → pass.texts ≡ texts → length texts ≤ 1048576
few size pass texts own same = let long = ap length same in let fit = own.lawful.fit in let most = row_size_most size own.lawful.row_size in omega arith

pub known_number-requires : goal.known_number-requires
known_number-requires c = few _ _ _ c.requires.table (ap (λ pass. pass.texts) (sym c.pass.view_is))

-- an unknown text is not CR LF
no_line_end : (texts : List (List ℕ)) (t : List ℕ) → IsUnknown (known_of texts) t → t ≢ crlf
no_line_end texts t unknown same = unknown 0 (ap Some (sym same))

-- an error is no number
no_number : (E : Type 0) (r : Result ℤ E) (e : E) (n : ℤ) (P : Type 0) → r ≡ Err e → r ≡ Ok n → P
no_number E r e n P refused answered = cc

-- the number of a synthetic is not that of CR LF
synthetic : (E : Type 0) (r : Result ℤ E) (n : ℤ) (k : ℕ) (P : Type 0) → n ≡ negsuc (suc k) → r ≡ Ok n → r ≡ Ok (negsuc 0) → P
synthetic E r n k P is answered same = cc

pub returns-then-place-self-clause-line_end : goal.returns-then-place-self-clause-line_end
returns-then-place-self-clause-line_end c = ((λ e. no_number _ _ _ _ _ refl e), λ e. absurd (no_line_end _ _ c.in_default.ensures.unknown e))

pub returns-in_err-push-clause-line_end : goal.returns-in_err-push-clause-line_end
returns-in_err-push-clause-line_end c =
    let refused : c.from_residual.result ≡ Err OutOfMemory = search rules in
    ((λ e. no_number _ _ _ _ _ refused e), λ e. absurd (no_line_end _ _ c.in_default.ensures.unknown e))

pub returns-then-place-self-clause-row_full : goal.returns-then-place-self-clause-row_full
returns-then-place-self-clause-row_full c = λ e.
    let texts : c.args.pass.now.texts ≡ c.pass.inside.texts = ap (λ pass. pass.texts) (sym c.pass.view_is) in
    let same = c.requires.table.same_size in let of_self = c.self.view_is in let long = ap length texts in let count = c.len-place.ensures in let test = c.if-place-self.true in
    full_at c.args.pass.now.size c.args.pass.now.texts c.args.codes.now (omega arith)
    (λ k at. c.in_default.ensures.unknown (suc k) (ap (λ texts. known_of texts (suc k)) (sym texts) ∙ at))

pub push-requires : goal.push-requires
push-requires c =
    let most = row_size_most c.args.self.now c.requires.table.lawful.row_size in let of_self = c.self.view_is in let count = c.len-place.ensures in let test = c.if-place-self.false in omega arith

pub number_of-requires : goal.number_of-requires
number_of-requires c =
    let most = row_size_most c.args.self.now c.requires.table.lawful.row_size in let of_self = c.self.view_is in let test = c.if-place-self.false in omega arith

-- the pass after the text has been added
after : (c : goal.After-number_of) → Grown c.args.self.now c.args.pass.now c.args.codes.now (record { size = c.pass.inside.size; texts = c.push.new.self })
after c =
    let texts : c.args.pass.now.texts ≡ c.pass.inside.texts = ap (λ pass. pass.texts) (sym c.pass.view_is) in
    let of_self = c.self.view_is in let long = ap length texts in let count = c.len-place.ensures in let test = c.if-place-self.false in
    let unknown : IsUnknown (known_of c.args.pass.now.texts) c.args.codes.now = subst (λ texts. IsUnknown (known_of texts) c.args.codes.now) (sym texts) c.in_default.ensures.unknown in
    grown c.args.self.now c.args.pass.now c.args.codes.now c.requires.table (omega arith) c.requires.internable unknown _ (ap (λ pass. pass.size) c.pass.view_is)
    (c.in_ok-push.ensures.added ∙ ap (λ texts. texts ++ c.args.codes.now ∷ []) (sym texts))

pub returns-clause-table : goal.returns-clause-table
returns-clause-table c = (after c).own

pub returns-clause-keeps : goal.returns-clause-keeps
returns-clause-keeps c = (after c).keeps

pub returns-clause-interned : goal.returns-clause-interned
returns-clause-interned c =
    let texts : c.args.pass.now.texts ≡ c.pass.inside.texts = ap (λ pass. pass.texts) (sym c.pass.view_is) in
    let place : c.len-place.result ≡ length c.args.pass.now.texts = c.len-place.ensures ∙ ap length (sym texts) in
    let number : to_z w32 (of_z w32 c.number_of.result) ≡ negsuc (suc c.len-place.result) = search rules in
    subst (λ n. MapsBesides (known_of c.args.pass.now.texts) n c.args.codes.now (known_of c.push.new.self))
    (sym (number ∙ ap (λ k. negsuc (suc k)) place)) (after c).besides

pub returns-clause-line_end : goal.returns-clause-line_end
returns-clause-line_end c =
    let number : to_z w32 (of_z w32 c.number_of.result) ≡ negsuc (suc c.len-place.result) = search rules in
    ((λ e. synthetic _ _ _ _ _ number refl e), λ e. absurd (no_line_end _ _ c.in_default.ensures.unknown e))
