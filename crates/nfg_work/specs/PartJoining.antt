-- The strings of neighboring bytes, joined (this project's own).
use Rattle.std.specs.Prelude.{ℕ, List, ◌++◌, Option, Result, IfOk}
use Rattle.std.specs.declared.alloc.AllocError.{AllocError}
use Rattle.nfg_decode.specs.declared.encoding.Encoding.{Encoding}
use Rattle.nfg_syn.specs.Known.{Texts}
use Rattle.nfg_strand.specs.Value.{Rope}
use Rattle.nfg_work.specs.Parts.{GrowsByParts, IsStringOrNone}

-- the string is that of some bytes, where there is one
abbrev pub IsOfSomeBytes : Texts → Option Rope → Type 0
IsOfSomeBytes known string = (e : Encoding) × (bytes : List ℕ) × IsStringOrNone known e bytes string

-- what comes of joining the string of some bytes and that of the bytes behind them
pub record HasJoinedBytes
    (e : Encoding) (front back : List ℕ) (old new : Texts) (result : Result (Option Rope) AllocError) : Type 0 where
  pub grown : GrowsByParts e (front ++ back) old new
  pub string : IfOk result (IsStringOrNone new e (front ++ back))
