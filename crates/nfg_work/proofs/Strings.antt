-- Strings that stand for values, in order.
use Rattle.std.proofs.Common.{ℕ, zero, suc, List, [], ◌∷◌, ◌++◌, slice_index_or}
use Rattle.nfg_syn.specs.Known.{Texts, IsWithin}
use Rattle.nfg_syn.specs.RepresentsLaws.{Represents-grows}
use Rattle.nfg_strand.specs.Value.{Rope}
use Rattle.nfg_work.specs.Values.{Value}
use Rattle.nfg_work.specs.Holding.{IsStringOf, AreStringsOf}

pub IsStringOf-grows : (old new : Texts) → IsWithin old new → (r : Rope) (v : Value) → IsStringOf old r v → IsStringOf new r v
IsStringOf-grows old new within r v is = record {
  represents = Represents-grows old new within r.graphemes v.clusters is.represents;
  pieces = is.pieces;
}

pub AreStringsOf-grows : (old new : Texts) → IsWithin old new → (rs : List Rope) (vs : List Value) → AreStringsOf old rs vs → AreStringsOf new rs vs
AreStringsOf-grows old new within [] [] are = tt
AreStringsOf-grows old new within [] (v ∷ vs) are = absurd are
AreStringsOf-grows old new within (r ∷ rs) [] are = absurd are
AreStringsOf-grows old new within (r ∷ rs) (v ∷ vs) are = (IsStringOf-grows old new within r v are.0, AreStringsOf-grows old new within rs vs are.1)

pub AreStringsOf-push : (known : Texts) (rs : List Rope) (vs : List Value) (r : Rope) (v : Value) → AreStringsOf known rs vs → IsStringOf known r v
    → AreStringsOf known (rs ++ r ∷ []) (vs ++ v ∷ [])
AreStringsOf-push known [] [] r v are is = (is, tt)
AreStringsOf-push known [] (w ∷ vs) r v are is = absurd are
AreStringsOf-push known (s ∷ rs) [] r v are is = absurd are
AreStringsOf-push known (s ∷ rs) (w ∷ vs) r v are is = (are.0, AreStringsOf-push known rs vs r v are.1 is)

-- the string of a name stands for the value of the name
pub AreStringsOf-at : (known : Texts) (rs : List Rope) (vs : List Value) (k : ℕ) (r : Rope) (v : Value) → AreStringsOf known rs vs → IsStringOf known r v
    → IsStringOf known (slice_index_or rs k r) (slice_index_or vs k v)
AreStringsOf-at known [] [] k r v are is = is
AreStringsOf-at known [] (w ∷ vs) k r v are is = absurd are
AreStringsOf-at known (s ∷ rs) [] k r v are is = absurd are
AreStringsOf-at known (s ∷ rs) (w ∷ vs) zero r v are is = are.0
AreStringsOf-at known (s ∷ rs) (w ∷ vs) (suc k) r v are is = AreStringsOf-at known rs vs k r v are.1 is
