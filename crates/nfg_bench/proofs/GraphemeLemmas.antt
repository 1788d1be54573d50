-- How many graphemes a text has.
use Rattle.std.proofs.Common.{◌≡◌, ℕ, List, [], ◌∷◌, take, length, ◌+◌, Some, Result, Ok, Err, IfOk, suc, refl, sym, ap, length-append, arith}
use Rattle.std.proofs.lemmas.Slice.Zip.{AllZip-long}
use Rattle.std.specs.Prelude.{IsOkAnd}
use Rattle.nfg_text.specs.Graphemes.{graphemes_of, ends_from}
use Rattle.nfg_decode.specs.declared.encoding.Encoding.{Encoding}
use Rattle.nfg_decode.specs.Decoded.{Decoded}
use Rattle.nfg_decode.specs.Encoding.{decode}
use Rattle.nfg_segment.specs.Given.{Given, with_cluster, with_clusters}
use Rattle.nfg_syn.specs.Represents.{spelling}
use Rattle.nfg_syn.specs.Seen.{Seen}
use Rattle.nfg_strand.specs.Value.{Rope}
use Rattle.nfg_stream.specs.Load.{HasLoaded}
use Rattle.nfg_stream.specs.declared.error.LoadError.{LoadError}
use Rattle.nfg_work.specs.Parts.{HasLoadedParts}

-- each part has one end
pub length-ends_from : (from : ℕ) (parts : List (List ℕ)) → length (ends_from from parts) ≡ length parts
length-ends_from from [] = refl
length-ends_from from (part ∷ parts) = ap suc (length-ends_from (from + length part) parts)

-- a string that was loaded has as many graphemes as the text
pub loaded_count : (decoded : Decoded) (old new : Seen) (made : Rope) → HasLoaded decoded old new (Ok made)
    → IsOkAnd decoded (λ text. length made.graphemes ≡ length (graphemes_of text))
loaded_count (Ok text) old new made loaded =
    sym (AllZip-long (λ n c. spelling new.known n ≡ Some c) made.graphemes (graphemes_of text) loaded.represents)
loaded_count (Err place) old new made loaded = absurd loaded

-- the same of what loading answers
pub loaded_as_many : (decoded : Decoded) (old new : Seen) (made : Result Rope LoadError) → HasLoaded decoded old new made
    → IfOk made (λ string. IsOkAnd decoded (λ text. length string.graphemes ≡ length (graphemes_of text)))
loaded_as_many decoded old new (Ok string) loaded = loaded_count decoded old new string loaded
loaded_as_many decoded old new (Err error) loaded = tt

-- the same of what loading in parts answers
pub parts_as_many : (e : Encoding) (bytes : List ℕ) (old new : Seen) (made : Result Rope LoadError) → HasLoadedParts e bytes old new made
    → IfOk made (λ string. IsOkAnd (decode e bytes) (λ text. length string.graphemes ≡ length (graphemes_of text)))
parts_as_many e bytes old new (Ok string) loaded = loaded_count (decode e bytes) _ new string loaded.2
parts_as_many e bytes old new (Err error) loaded = tt

-- clusters are added one by one
pub length-with_clusters : (given : Given) (more : List (List ℕ)) → length (with_clusters given more).heads ≡ length given.heads + length more
length-with_clusters given [] = omega arith
length-with_clusters given (cluster ∷ more) =
    omega (arith, length-with_clusters (with_cluster given cluster) more, length-append given.heads (take 1024 cluster ∷ []))
