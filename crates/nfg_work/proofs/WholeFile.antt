-- What comes of a file in the end: a joined string is what one stream makes of all bytes, and what is learned are clusters of them.
use Rattle.std.proofs.Common.{◌≡◌, inl, inr, ℕ, ◌-◌, true, List, [], ◌∷◌, ◌++◌, length, take, drop, bytes_eq, refl, sym, ap, ◌∙◌, subst, arith, length-drop}
use Rattle.std.proofs.lemmas.List.{append-nil, take_all, take-append-drop}
use Rattle.std.proofs.lemmas.Bool.{ltb-true, and_parts}
use Rattle.std.specs.Prelude.{Result, Ok, Err}
use Rattle.std.specs.List.{slice_range}
use Rattle.std.specs.Set.{is_member}
use Rattle.nfg_text.specs.Graphemes.{graphemes_of}
use Rattle.nfg_decode.specs.declared.encoding.Encoding.{Encoding}
use Rattle.nfg_decode.specs.Decoded.{Decoded}
use Rattle.nfg_decode.specs.Encoding.{decode}
use Rattle.nfg_syn.specs.Known.{Texts}
use Rattle.nfg_syn.specs.Learned.{HasLearned, several, is_several}
use Rattle.nfg_syn.specs.Represents.{Represents}
use Rattle.nfg_syn.specs.Seen.{Seen, SameCounts}
use Rattle.nfg_strand.specs.Pieces.{flat_piece}
use Rattle.nfg_strand.specs.Value.{Rope}
use Rattle.nfg_stream.specs.declared.error.LoadError.{LoadError}
use Rattle.nfg_stream.specs.declared.error.LoadError.TheVariants.{Malformed, ClusterLong, RowFull, NoPortion, OutOfMemory}
use Rattle.nfg_stream.specs.Load.{HasMade, HasLoaded}
use Rattle.nfg_work.specs.Parts.{IsOfParts, GrowsByParts, HasLoadedParts, LoadCountsAlike, IsBody, IsStringOfBytes}
use Rattle.nfg_work.specs.Reach.{IsPartCluster}
use Rattle.nfg_work.specs.Workers.{CountAlike}
use Rattle.nfg_work.proofs.InUse.{learned_back}
use Rattle.nfg_work.proofs.Members.{is_member-front, is_member-kept}
use Rattle.nfg_work.proofs.Taken.{learned_already}
use Rattle.nfg_work.proofs.Growth.{growth_same, growth_then}
use Rattle.nfg_work.proofs.PartGrowth.{may_itself, growth_through}

-- a cluster of all bytes
whole_cluster : (e : Encoding) (bytes text t : List ℕ) → decode e bytes ≡ Ok text → is_member bytes_eq (graphemes_of text) t ≡ true → IsPartCluster e bytes t
whole_cluster e bytes text t decoded among = record {
  front = [];
  middle = bytes;
  back = [];
  encoding = e;
  text = text;
  parts = sym (append-nil bytes);
  may = may_itself e;
  decoded = decoded;
  cluster = among;
}

-- clusters at the front of a text were learned
front_learned : (e : Encoding) (bytes text : List ℕ) (front rest : List (List ℕ)) (old new : Texts) → decode e bytes ≡ Ok text → graphemes_of text ≡ front ++ rest
    → HasLearned old (several front) new → GrowsByParts e bytes old new
front_learned e bytes text front rest old new decoded parts learned = λ k t at. elim (learned_back (several front) old new learned k t at) [
  | inl before ↦ inl before
  | inr among ↦
      let both = and_parts (is_member bytes_eq front t) (is_several t) (sym (is_member-kept is_several front t) ∙ among) in
      inr (
        omega (arith, ltb-true 1 (length t) both.1),
        whole_cluster e bytes text t decoded (ap (λ l. is_member bytes_eq l t) parts ∙ is_member-front front rest t both.0),
      )
]

made_grows : (e : Encoding) (bytes text : List ℕ) (old new : Seen) (result : Result Rope LoadError) → decode e bytes ≡ Ok text → HasMade (graphemes_of text) old new result
    → GrowsByParts e bytes old.known new.known
made_grows e bytes text old new (Ok made) decoded has =
    front_learned e bytes text (graphemes_of text) [] old.known new.known decoded (sym (append-nil (graphemes_of text))) has.learned
made_grows e bytes text old new (Err (Malformed at)) decoded has = absurd has
made_grows e bytes text old new (Err (ClusterLong at)) decoded has = growth_same (IsOfParts e bytes) old.known new.known has.1
made_grows e bytes text old new (Err RowFull) decoded has = front_learned e bytes text has.front (has.cluster ∷ has.rest) old.known new.known decoded has.parts has.learned
made_grows e bytes text old new (Err NoPortion) decoded has = front_learned e bytes text has.front (has.cluster ∷ has.rest) old.known new.known decoded has.parts has.learned
made_grows e bytes text old new (Err OutOfMemory) decoded has = front_learned e bytes text has.front has.rest old.known new.known decoded has.parts has.learned

grows_as : (e : Encoding) (bytes : List ℕ) (d : Decoded) (old new : Seen) (result : Result Rope LoadError) → decode e bytes ≡ d → HasLoaded d old new result
    → GrowsByParts e bytes old.known new.known
grows_as e bytes (Ok text) old new result decoded has = made_grows e bytes text old new result decoded has
grows_as e bytes (Err place) old new (Ok made) decoded has = absurd has
grows_as e bytes (Err place) old new (Err (Malformed at)) decoded has = growth_same (IsOfParts e bytes) old.known new.known has.1
grows_as e bytes (Err place) old new (Err (ClusterLong at)) decoded has = absurd has
grows_as e bytes (Err place) old new (Err RowFull) decoded has = absurd has
grows_as e bytes (Err place) old new (Err NoPortion) decoded has = absurd has
grows_as e bytes (Err place) old new (Err OutOfMemory) decoded has = growth_same (IsOfParts e bytes) old.known new.known has

-- whatever comes of a load, what was learned are clusters of the bytes
pub loaded_grows : (e : Encoding) (bytes : List ℕ) (old new : Seen) (result : Result Rope LoadError) → HasLoaded (decode e bytes) old new result
    → GrowsByParts e bytes old.known new.known
loaded_grows e bytes old new result has = grows_as e bytes (decode e bytes) old new result refl has

-- of what was seen before, what is known alone matters
loaded_from : (d : Decoded) (old new : Seen) (result : Result Rope LoadError) → HasLoaded d old new result
    → HasLoaded d (record new { known = old.known }) new result
loaded_from (Ok text) old new (Ok made) has = has
loaded_from (Ok text) old new (Err (Malformed at)) has = has
loaded_from (Ok text) old new (Err (ClusterLong at)) has = has
loaded_from (Ok text) old new (Err RowFull) has = has
loaded_from (Ok text) old new (Err NoPortion) has = has
loaded_from (Ok text) old new (Err OutOfMemory) has = has
loaded_from (Err place) old new (Ok made) has = has
loaded_from (Err place) old new (Err (Malformed at)) has = has
loaded_from (Err place) old new (Err (ClusterLong at)) has = has
loaded_from (Err place) old new (Err RowFull) has = has
loaded_from (Err place) old new (Err NoPortion) has = has
loaded_from (Err place) old new (Err OutOfMemory) has = has

-- parts were loaded, and then all bytes
pub loaded_again : (e : Encoding) (bytes : List ℕ) (old mid new : Seen) (result : Result Rope LoadError) → GrowsByParts e bytes old.known mid.known
    → HasLoaded (decode e bytes) mid new result → HasLoadedParts e bytes old new result
loaded_again e bytes old mid new (Ok made) grown has = (mid.known, grown, loaded_from (decode e bytes) mid new (Ok made) has)
loaded_again e bytes old mid new (Err (Malformed at)) grown has = (mid.known, grown, loaded_from (decode e bytes) mid new (Err (Malformed at)) has)
loaded_again e bytes old mid new (Err (ClusterLong at)) grown has = (mid.known, grown, loaded_from (decode e bytes) mid new (Err (ClusterLong at)) has)
loaded_again e bytes old mid new (Err RowFull) grown has = (mid.known, grown, loaded_from (decode e bytes) mid new (Err RowFull) has)
loaded_again e bytes old mid new (Err NoPortion) grown has = (mid.known, grown, loaded_from (decode e bytes) mid new (Err NoPortion) has)
loaded_again e bytes old mid new (Err OutOfMemory) grown has =
    growth_then (IsOfParts e bytes) old.known mid.known new.known grown (loaded_grows e bytes mid new (Err OutOfMemory) has)

-- the body is what stands behind its start
rest_range : (start : ℕ) (bytes : List ℕ) → slice_range bytes start (length bytes) ≡ drop start bytes
rest_range start bytes = take_all (length bytes - start) (drop start bytes) (omega (arith, length-drop start bytes))

-- what the body brings, the bytes bring
pub body_grows : (e r : Encoding) (bytes : List ℕ) (start : ℕ) (old new : Texts) → IsBody e bytes r start
    → GrowsByParts r (slice_range bytes start (length bytes)) old new → GrowsByParts e bytes old new
body_grows e r bytes start old new body grown =
    growth_through e r bytes (take start bytes) (drop start bytes) [] old new
    (sym (take-append-drop start bytes) ∙ sym (append-nil (take start bytes ++ drop start bytes))) body.may
    (subst (λ l. GrowsByParts r l old new) (rest_range start bytes) grown)

-- the string of the body, in one piece, is what comes of loading all bytes
pub joined_loaded : (e r : Encoding) (bytes : List ℕ) (start : ℕ) (old new : Seen) (string made : Rope) → IsBody e bytes r start
    → GrowsByParts r (slice_range bytes start (length bytes)) old.known new.known → IsStringOfBytes new.known r (slice_range bytes start (length bytes)) string
    → made.graphemes ≡ string.graphemes → made.pieces ≡ flat_piece string.graphemes → HasLoadedParts e bytes old new (Ok made)
joined_loaded e r bytes start old new string made body grown is graphemes pieces =
    let represents : Represents new.known made.graphemes (graphemes_of is.text) = subst (λ l. Represents new.known l (graphemes_of is.text)) (sym graphemes) is.represents in
    let decoded : decode e bytes ≡ Ok is.text = body.decoded is.text (ap (decode r) (sym (rest_range start bytes)) ∙ is.decoded) in (
      new.known,
      body_grows e r bytes start old.known new.known body grown,
      subst (λ d. HasLoaded d new new (Ok made)) (sym decoded) (record {
        short = is.short;
        represents = represents;
        pieces = pieces ∙ ap flat_piece (sym graphemes);
        learned = learned_already new.known made.graphemes (graphemes_of is.text) represents;
      }),
    )

-- as many forks as meets, whatever comes of the load
pub counts_alike : (most : ℕ) (old new : Seen) (result : Result Rope LoadError) → CountAlike most old new → LoadCountsAlike most old new result
counts_alike most old new (Ok made) alike = alike
counts_alike most old new (Err (Malformed at)) alike = alike
counts_alike most old new (Err (ClusterLong at)) alike = alike
counts_alike most old new (Err RowFull) alike = alike
counts_alike most old new (Err NoPortion) alike = alike
counts_alike most old new (Err OutOfMemory) alike = tt

-- and none in a call behind
pub counts_same : (most : ℕ) (old mid new : Seen) → CountAlike most old mid → SameCounts mid new → CountAlike most old new
counts_same most old mid new alike same = record {
  by = alike.by;
  forks = omega (arith, alike.forks, same.forks);
  meets = omega (arith, alike.meets, same.meets);
  within = alike.within;
}
