-- An `OpenPath` of any path is made of nothing.
use Rattle.std.proofs.Common.{[], ◌∷◌, refl}
use seplogic.Ra.Ura.{Ura}
use mir.Val.{Val, vstruct, vcons, vnil}
use base.Logic.{ent, emp}
use types.Logic.{Logic, sem}
use denote.RattleType.{RattleType}
use denote.Shadow.{makes_shadow}
use denote.Struct.Struct.{Struct}
use denote.Struct.Owning.{shape}
use Rattle.nfg_io.specs.contracts.open_path.OpenPath as open_path

-- the machine value, a struct of a struct of no fields
abbrev pub empty : Val
empty = vstruct (vcons (vstruct vnil) vnil)

abbrev pub Fields : RattleType
Fields = Struct (shape open_path.the_type)

pub fields_made : {M : Type 1} {𝓤 : Ura M} (𝓛 : Logic 𝓤) → ent 𝓤 (emp 𝓤) (sem 𝓛 (Fields.own_val (tt, tt) (empty ∷ [])))
fields_made 𝓛 =
    makes_shadow 𝓛 (Fields.own_val (tt, tt) (empty ∷ []))
    (λ vss. (tt, ((λ uss. (tt, tt)), tt)))
    ((vstruct vnil ∷ [], tt), (refl, ((tt, (refl, tt)), tt)))
