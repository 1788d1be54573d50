-- Bytes read by one read after another.
use Rattle.std.proofs.Common.{◌≡◌, ℕ, ◌+◌, ◌<◌, ◌≤◌, Bool, true, false, ◌||◌, nat_lt, List, ◌++◌, length, take, drop, Option, Some, None, IfSome, refl, sym, ap, ◌∙◌, arith, length-append, length-drop, length-take}
use Rattle.std.proofs.lemmas.Bool.{ltb-false, le-ltb, lt-ltb}
use Rattle.std.proofs.lemmas.Grind.{common_steps}
use Rattle.std.proofs.lemmas.List.{take-append-le, length-take-le}
use Rattle.nfg_io.specs.Files.{Contents, opened_bytes, ReadsAt}
use Rattle.nfg_run.specs.Headline.{HasFile, is_over_limit, files_limit, most_after}
use Rattle.nfg_work.specs.Evaluation.{file_limit}
use Rattle.nfg_run.proofs.Fronts.{take-more}

-- a front of the file has grown by what was read behind it
grown-front : (file bytes into rest grown : List ℕ) (n : ℕ)
    → bytes ≡ take (length bytes) file → length bytes ≤ length file → ReadsAt file (length bytes) n into
    → n ≤ length into → grown ≡ bytes ++ take n (into ++ rest) → grown ≡ take (length grown) file
grown-front file bytes into rest grown n known inside reads within e =
    let front : take n (into ++ rest) ≡ take n into = rw take-append-le refl in
    let whole : grown ≡ take (length bytes + n) file =
    e ∙ ap (λ v. bytes ++ v) (front ∙ reads.bytes)
    ∙ ap (λ v. v ++ take n (drop (length bytes) file)) known
    ∙ sym (take-more file (length bytes) n inside) in
    let fits : length bytes + n ≤ length file = omega (arith, reads.within, length-drop (length bytes) file) in
    let count : length grown ≡ length bytes + n =
    ap length whole ∙ length-take-le (length bytes + n) file fits in
    rw count whole

-- a read goes on with a front of the file, where the files are told
pub HasFile-grows : (contents : Option Contents) (path bytes into rest grown : List ℕ) (n : ℕ)
    → HasFile contents path (λ file. bytes ≡ take (length bytes) file)
    → IfSome (opened_bytes contents (Some path)) (λ file. ReadsAt file (length bytes) n into)
    → n ≤ length into → grown ≡ bytes ++ take n (into ++ rest)
    → HasFile contents path (λ file. grown ≡ take (length grown) file)
HasFile-grows None path bytes into rest grown n has reads within e = tt
HasFile-grows (Some bytes_of) path bytes into rest grown n has reads within e =
    let here : IfSome (Some has.0) (λ file. ReadsAt file (length bytes) n into) = rw has.1 at reads in
    let inside : length bytes ≤ length has.0 = omega (arith, ap length has.2, length-take (length bytes) has.0) in
    (has.0, has.1, grown-front has.0 bytes into rest grown n has.2 inside here within e)

-- by how much the bytes grow
pub length-grown : (bytes into rest grown : List ℕ) (n : ℕ) → n ≤ length into
    → grown ≡ bytes ++ take n (into ++ rest) → length grown ≡ length bytes + n
length-grown bytes into rest grown n within e =
    let front : take n (into ++ rest) ≡ take n into = rw take-append-le refl in
    ap length e ∙ omega (arith, length-append bytes (take n (into ++ rest)), ap length front, length-take-le n into within)

over_one : (earlier count : ℕ) (a : Bool) → nat_lt file_limit count ≡ a → earlier ≤ files_limit → most_after earlier < count
    → (a || nat_lt files_limit (earlier + count)) ≡ true
over_one earlier count true one fit more = refl
over_one earlier count false one fit more =
    lt-ltb files_limit (earlier + count) (omega (arith, ltb-false file_limit count one, fit, more))

-- more than the most bytes are over a limit
pub over-limit : (earlier count : ℕ) → earlier ≤ files_limit → most_after earlier < count → is_over_limit earlier count ≡ true
over-limit earlier count fit more = over_one earlier count _ refl fit more

-- as many or fewer aren't
pub within-limit : (earlier count : ℕ) → earlier ≤ files_limit → count ≤ most_after earlier → is_over_limit earlier count ≡ false
within-limit earlier count fit le =
    let one : nat_lt file_limit count ≡ false = le-ltb file_limit count (omega (arith, le)) in
    let all : nat_lt files_limit (earlier + count) ≡ false = le-ltb files_limit (earlier + count) (omega (arith, fit, le)) in
    rw (one, all) refl

-- one byte past the limit shows that the file is too long
pub HasFile-too_long : (contents : Option Contents) (path bytes : List ℕ) (earlier limit : ℕ) → earlier ≤ files_limit
    → limit ≡ most_after earlier
    → HasFile contents path (λ file. bytes ≡ take (limit + 1) file) → limit < length bytes
    → HasFile contents path (λ file. is_over_limit earlier (length file) ≡ true)
HasFile-too_long None path bytes earlier limit fit is has more = tt
HasFile-too_long (Some bytes_of) path bytes earlier limit fit is has more = (
  has.0,
  has.1,
  over-limit earlier (length has.0) fit
      (omega (arith, is, more, ap length has.2, length-take (limit + 1) has.0)),
)

take-whole : (bytes file : List ℕ) (n : ℕ) → bytes ≡ take (n + 1) file → length bytes ≤ n → bytes ≡ file
take-whole bytes file n e le =
    let short : length file ≤ n + 1 = omega (arith, ap length e, length-take (n + 1) file) in
    e ∙ grind (arith, common_steps)

-- fewer bytes are the whole file
pub HasFile-whole : (contents : Option Contents) (path bytes : List ℕ) (limit : ℕ)
    → HasFile contents path (λ file. bytes ≡ take (limit + 1) file) → length bytes ≤ limit
    → HasFile contents path (λ file. bytes ≡ file)
HasFile-whole None path bytes limit has le = tt
HasFile-whole (Some bytes_of) path bytes limit has le = (has.0, has.1, take-whole bytes has.0 limit has.2 le)
