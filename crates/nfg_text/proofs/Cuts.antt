-- Lists that are cut by a rule.
use Rattle.std.proofs.Common.{◌≡◌, ◌≢◌, ℕ, Bool, true, false, List, [], ◌∷◌, ◌++◌, if◌then◌else◌, refl, sym, ap, ap₂, ◌∙◌, append_assoc}
use Rattle.unicode_segmentation.specs.Segments.{Rule, prepend, cut}
use Rattle.nfg_text.specs.Text.{text_of}

-- a part in front of the others: a part of its own at a break, and else the beginning of the first
abbrev pub put_first : Bool → List ℕ → List (List ℕ) → List (List ℕ)
put_first is_break part parts = if is_break then part ∷ parts else prepend part parts

-- the code points of the list, put one by one in front of `before`
abbrev pub onto : List ℕ → List ℕ → List ℕ
onto [] before = before
onto (c ∷ cs) before = onto cs (c ∷ before)

pub cut-cons : (rule : Rule) (before : List ℕ) (c : ℕ) (cs after : List ℕ) → cut rule before (c ∷ cs) after ≡ put_first (rule (c ∷ before) (cs ++ after)) (c ∷ []) (cut rule (c ∷ before) cs after)
unfolding cut
cut-cons rule before c cs after = refl

pub cut-nil : (rule : Rule) (before after : List ℕ) → cut rule before [] after ≡ []
unfolding cut
cut-nil rule before after = refl

pub put_first-nil : (b : Bool) (x : List ℕ) → put_first b x [] ≡ x ∷ []
put_first-nil true x = refl
put_first-nil false x = refl

pub put_first_some : (b : Bool) (x : List ℕ) (ps : List (List ℕ)) → put_first b x ps ≢ []
put_first_some true x ps e = cc
put_first_some false x [] e = cc
put_first_some false x (p ∷ ps) e = cc

pub cut_some : (rule : Rule) (before : List ℕ) (c : ℕ) (cs after : List ℕ) → cut rule before (c ∷ cs) after ≢ []
cut_some rule before c cs after e = put_first_some _ _ _ (sym (cut-cons rule before c cs after) ∙ e)

put_first-append : (b : Bool) (x : List ℕ) (ps qs : List (List ℕ)) → ps ≢ [] → put_first b x (ps ++ qs) ≡ put_first b x ps ++ qs
put_first-append true x ps qs some = refl
put_first-append false x [] qs some = absurd (some refl)
put_first-append false x (p ∷ ps) qs some = refl

text_of-put_first : (b : Bool) (x : List ℕ) (ps : List (List ℕ)) → text_of (put_first b x ps) ≡ x ++ text_of ps
text_of-put_first true x ps = refl
text_of-put_first false x [] = refl
text_of-put_first false x (p ∷ ps) = append_assoc x p (text_of ps)

-- the parts, joined, are the list
pub text_of-cut : (rule : Rule) (before cs after : List ℕ) → text_of (cut rule before cs after) ≡ cs
text_of-cut rule before [] after = ap text_of (cut-nil rule before after)
text_of-cut rule before (c ∷ cs) after =
    ap text_of (cut-cons rule before c cs after) ∙ text_of-put_first _ (c ∷ []) _ ∙ ap (λ l. c ∷ l) (text_of-cut rule (c ∷ before) cs after)

-- a break between two parts
pub cut-append : (rule : Rule) (before : List ℕ) (c : ℕ) (cs ys after : List ℕ) → rule (onto cs (c ∷ before)) (ys ++ after) ≡ true
    → cut rule before ((c ∷ cs) ++ ys) after ≡ cut rule before (c ∷ cs) (ys ++ after) ++ cut rule (onto cs (c ∷ before)) ys after
cut-append rule before c [] ys after broken =
    cut-cons rule before c ys after
    ∙ ap (λ b. put_first b (c ∷ []) (cut rule (c ∷ before) ys after)) broken
    ∙ ap (λ ps. ps ++ cut rule (c ∷ before) ys after) (sym (cut-cons rule before c [] (ys ++ after) ∙ ap (put_first _ (c ∷ [])) (cut-nil rule (c ∷ before) (ys ++ after)) ∙ put_first-nil _ (c ∷ [])))
cut-append rule before c (d ∷ ds) ys after broken =
    let b = rule (c ∷ before) ((d ∷ ds) ++ (ys ++ after)) in
    cut-cons rule before c ((d ∷ ds) ++ ys) after
    ∙ ap₂ (λ t ps. put_first (rule (c ∷ before) t) (c ∷ []) ps) (append_assoc (d ∷ ds) ys after) (cut-append rule (c ∷ before) d ds ys after broken)
    ∙ put_first-append b (c ∷ []) (cut rule (c ∷ before) (d ∷ ds) (ys ++ after)) _ (cut_some rule (c ∷ before) d ds (ys ++ after))
    ∙ ap (λ ps. ps ++ cut rule (onto (d ∷ ds) (c ∷ before)) ys after) (sym (cut-cons rule before c (d ∷ ds) (ys ++ after)))

-- of what comes after a place the rule reads one code point at most
abbrev pub ReadsOneAhead : Rule → Type 0
ReadsOneAhead rule = (before : List ℕ) (c : ℕ) (xs ys : List ℕ) → rule before (c ∷ xs) ≡ rule before (c ∷ ys)

pub cut-after : (rule : Rule) → ReadsOneAhead rule → (before cs xs ys : List ℕ) → rule (onto cs before) xs ≡ rule (onto cs before) ys → cut rule before cs xs ≡ cut rule before cs ys
cut-after rule one before [] xs ys same = cut-nil rule before xs ∙ sym (cut-nil rule before ys)
cut-after rule one before (c ∷ []) xs ys same =
    cut-cons rule before c [] xs ∙ ap₂ (λ b ps. put_first b (c ∷ []) ps) same (cut-nil rule (c ∷ before) xs ∙ sym (cut-nil rule (c ∷ before) ys)) ∙ sym (cut-cons rule before c [] ys)
cut-after rule one before (c ∷ (d ∷ ds)) xs ys same =
    cut-cons rule before c (d ∷ ds) xs
    ∙ ap₂ (λ b ps. put_first b (c ∷ []) ps) (one (c ∷ before) d (ds ++ xs) (ds ++ ys)) (cut-after rule one (c ∷ before) (d ∷ ds) xs ys same)
    ∙ sym (cut-cons rule before c (d ∷ ds) ys)

-- cutting after `near ++ before` is cutting after `near`, where the rule reads no further back
pub cut-before : (rule : Rule) (before near cs after : List ℕ) → ((zs rest : List ℕ) → rule (zs ++ (near ++ before)) rest ≡ rule (zs ++ near) rest) → cut rule (near ++ before) cs after ≡ cut rule near cs after
cut-before rule before near [] after forgets = cut-nil rule (near ++ before) after ∙ sym (cut-nil rule near after)
cut-before rule before near (c ∷ cs) after forgets =
    cut-cons rule (near ++ before) c cs after
    ∙ ap₂ (λ b ps. put_first b (c ∷ []) ps) (forgets (c ∷ []) (cs ++ after))
    (cut-before rule before (c ∷ near) cs after (λ zs rest. ap (λ l. rule l rest) (sym (append_assoc zs (c ∷ []) (near ++ before))) ∙ forgets (zs ++ c ∷ []) rest ∙ ap (λ l. rule l rest) (append_assoc zs (c ∷ []) near)))
    ∙ sym (cut-cons rule near c cs after)
