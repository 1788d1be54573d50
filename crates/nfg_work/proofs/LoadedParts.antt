-- What comes of loading the parts of a file, each by itself.
use Rattle.std.proofs.Common.{◌≡◌, ◌⊎◌, inl, inr, ℕ, true, List, [], ◌∷◌, ◌++◌, length, bytes_eq, Option, Some, Result, Ok, Err, refl, sym, ap, ◌∙◌, append-nil}
use Rattle.std.proofs.lemmas.Bool.{and_parts, ltb-true}
use Rattle.std.specs.Set.{is_member}
use Rattle.nfg_text.specs.Graphemes.{graphemes_of}
use Rattle.nfg_decode.specs.declared.encoding.Encoding.{Encoding}
use Rattle.nfg_decode.specs.Decoded.{Decoded}
use Rattle.nfg_decode.specs.Encoding.{decode}
use Rattle.nfg_syn.specs.Known.{Texts, IsSame}
use Rattle.nfg_syn.specs.KnownLaws.{IsWithin-same_back}
use Rattle.nfg_syn.specs.Learned.{HasLearned, several, is_several}
use Rattle.nfg_syn.specs.Seen.{Seen}
use Rattle.nfg_strand.specs.Value.{Rope}
use Rattle.nfg_stream.specs.declared.error.LoadError.{LoadError}
use Rattle.nfg_stream.specs.declared.error.LoadError.TheVariants.{Malformed, ClusterLong, RowFull, NoPortion, OutOfMemory}
use Rattle.nfg_stream.specs.Load.{HasMade, HasLoaded}
use Rattle.nfg_work.specs.Parts.{IsOfParts, GrowsByParts, IsStringOfBytes, IsReadyToLoad, HasLoadedPart, IsLoaded}
use Rattle.nfg_work.proofs.Growth.{growth_same, growth_within}
use Rattle.nfg_work.proofs.InUse.{learned_back}
use Rattle.nfg_work.proofs.Members.{is_member-front, is_member-kept}
use Rattle.nfg_work.proofs.PartGrowth.{may_itself}

-- clusters of the text of bytes become known
learned_grows : (e : Encoding) (bytes text : List ℕ) (front rest : List (List ℕ)) (old new : Texts) → decode e bytes ≡ Ok text
    → graphemes_of text ≡ front ++ rest → HasLearned old (several front) new → GrowsByParts e bytes old new
learned_grows e bytes text front rest old new decoded parts learned k t at = by (learned_back (several front) old new learned k t at)
  where
    by : (old k ≡ Some t) ⊎ (is_member bytes_eq (several front) t ≡ true) → (old k ≡ Some t) ⊎ IsOfParts e bytes t
    by (inl before) = inl before
    by (inr holds) =
        let both = and_parts (is_member bytes_eq front t) (is_several t) (sym (is_member-kept is_several front t) ∙ holds) in
        inr (
          ltb-true 1 (length t) both.1,
          record {
            front = [];
            middle = bytes;
            back = [];
            encoding = e;
            text = text;
            parts = sym (append-nil bytes);
            may = may_itself e;
            decoded = decoded;
            cluster = ap (λ cs. is_member bytes_eq cs t) parts ∙ is_member-front front rest t both.0;
          },
        )

made_grows : (e : Encoding) (bytes text : List ℕ) (old new : Seen) (result : Result Rope LoadError) → decode e bytes ≡ Ok text
    → HasMade (graphemes_of text) old new result → GrowsByParts e bytes old.known new.known
made_grows e bytes text old new (Ok made) decoded is =
    learned_grows e bytes text (graphemes_of text) [] old.known new.known decoded (sym (append-nil (graphemes_of text))) is.learned
made_grows e bytes text old new (Err (Malformed at)) decoded is = absurd is
made_grows e bytes text old new (Err (ClusterLong at)) decoded is = growth_same (IsOfParts e bytes) old.known new.known is.1
made_grows e bytes text old new (Err RowFull) decoded is =
    learned_grows e bytes text is.front (is.cluster ∷ is.rest) old.known new.known decoded is.parts is.learned
made_grows e bytes text old new (Err NoPortion) decoded is =
    learned_grows e bytes text is.front (is.cluster ∷ is.rest) old.known new.known decoded is.parts is.learned
made_grows e bytes text old new (Err OutOfMemory) decoded is =
    learned_grows e bytes text is.front is.rest old.known new.known decoded is.parts is.learned

loaded_grows_as : (e : Encoding) (bytes : List ℕ) (decoded : Decoded) (old new : Seen) (result : Result Rope LoadError) → decode e bytes ≡ decoded
    → HasLoaded decoded old new result → GrowsByParts e bytes old.known new.known
loaded_grows_as e bytes (Ok text) old new result is loaded = made_grows e bytes text old new result is loaded
loaded_grows_as e bytes (Err place) old new (Ok made) is loaded = absurd loaded
loaded_grows_as e bytes (Err place) old new (Err (Malformed at)) is loaded = growth_same (IsOfParts e bytes) old.known new.known loaded.1
loaded_grows_as e bytes (Err place) old new (Err (ClusterLong at)) is loaded = absurd loaded
loaded_grows_as e bytes (Err place) old new (Err RowFull) is loaded = absurd loaded
loaded_grows_as e bytes (Err place) old new (Err NoPortion) is loaded = absurd loaded
loaded_grows_as e bytes (Err place) old new (Err OutOfMemory) is loaded = growth_same (IsOfParts e bytes) old.known new.known loaded

-- what a pass has learned of bytes are clusters of them
pub loaded_grows : (e : Encoding) (bytes : List ℕ) (old new : Seen) (result : Result Rope LoadError) → HasLoaded (decode e bytes) old new result
    → GrowsByParts e bytes old.known new.known
loaded_grows e bytes old new result loaded = loaded_grows_as e bytes (decode e bytes) old new result refl loaded

loaded_string_as : (e : Encoding) (bytes : List ℕ) (decoded : Decoded) (old new : Seen) (made : Rope) → decode e bytes ≡ decoded
    → HasLoaded decoded old new (Ok made) → IsStringOfBytes new.known e bytes made
loaded_string_as e bytes (Ok text) old new made is loaded = record {
  text = text;
  decoded = is;
  short = loaded.short;
  represents = loaded.represents;
}
loaded_string_as e bytes (Err place) old new made is loaded = absurd loaded

-- the string that was loaded is that of the bytes
pub loaded_string : (e : Encoding) (bytes : List ℕ) (old new : Seen) (made : Rope) → HasLoaded (decode e bytes) old new (Ok made)
    → IsStringOfBytes new.known e bytes made
loaded_string e bytes old new made loaded = loaded_string_as e bytes (decode e bytes) old new made refl loaded

-- a fork of a pass that knows the same is ready too
pub IsReadyToLoad-same : (base more : Texts) → IsSame base more → (fork : Seen) → IsReadyToLoad more fork → IsReadyToLoad base fork
IsReadyToLoad-same base more same fork ready = record {
  known = λ k. ready.known k ∙ same k;
  root = ready.root;
  meets = ready.meets;
}

-- a ready worker that has loaded its part can be met
pub part_loaded : (e : Encoding) (part : List ℕ) (base : Texts) (old new : Seen) (string : Option Rope) → IsReadyToLoad base old
    → HasLoadedPart e part old new string → IsLoaded e part base new string
part_loaded e part base old new string ready loaded = record {
  root = loaded.keeps.root ∙ ready.root;
  meets = loaded.counts.meets ∙ ready.meets;
  grown = growth_within (IsOfParts e part) old.known base new.known (IsWithin-same_back base old.known ready.known) loaded.grown;
  string = loaded.string;
}
