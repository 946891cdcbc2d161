-- What a `Handed` is as the machine has it: its answer.
use Rattle.std.proofs.Common.{ℤ, List, [], ◌∷◌, refl, ◌<◌, ◌^◌, w32}
use seplogic.Ra.Ura.{Ura}
use lib.Signed.{mag}
use mir.Val.{Val, vint, vstruct, vcons, vnil, of_z, hbits}
use base.Logic.{ent, emp}
use types.Logic.{Logic, sem}
use denote.Laws.{Is}
use denote.RattleType.{RattleType}
use denote.Shadow.{makes_shadow}
use denote.Struct.Struct.{Struct}
use denote.Struct.Owning.{shape}
use Rattle.ipcsh_c.specs.contracts.handed.Handed.{the_type, the_row}
use Rattle.ipcsh_c.specs.declared.handed.Handed.{Handed}

abbrev pub number : ℤ → Val
number z = vint w32 (of_z w32 z)

abbrev pub word : ℤ → Val
word z = vstruct (vcons (number z) vnil)

abbrev pub Data : RattleType
Data = Struct (shape the_type)

-- it is a number of 32 bits
abbrev pub Fits : ℤ → Type 0
Fits z = mag z < 2 ^ hbits w32

pub fits_in : (h : Handed) (vs : List Val) → Is the_row h vs → Fits h.code
fits_in h vs is = is.0.1.1.0.1

pub made : {M : Type 1} {𝓤 : Ura M} (𝓛 : Logic 𝓤) (z : ℤ) → Fits z → ent 𝓤 (emp 𝓤) (sem 𝓛 (Data.own_val (z, tt) (word z ∷ [])))
made 𝓛 z fits = makes_shadow 𝓛 (Data.own_val (z, tt) (word z ∷ [])) (λ vss. (tt, ((tt, tt), tt))) ((number z ∷ [], tt), (refl, ((refl, fits), tt)))
