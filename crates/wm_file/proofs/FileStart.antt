-- The bound `Start` asks nothing of the content. So a theorem over `S: Start` holds of the code at `Unknown`, for any content.
use Rattle.std.proofs.Common.{ℕ, List}
use seplogic.Ra.Ura.{Ura}
use mir.Syntax.{Dict}
use prog.Model.{Model}
use types.Logic.{Logic}
use contract.Running.{Running}
use denote.RattleType.{RattleType}
use Rattle.wm_file.specs.declared.file.Start.{Ghosts}
use Rattle.wm_file.specs.contracts.file.Start.TheBound.{Met}

pub any_content : {M : Type 1} {𝓤 : Ura M} (𝓛 : Logic 𝓤) (𝓜 : Model 𝓤 𝓛.H) (𝓡 : Running 𝓤 𝓛.H 𝓜) (S : RattleType) (known : Ghosts S.Denot) (methods : Dict) (content : List ℕ)
    → Met 𝓛 𝓜 𝓡 𝓡.env S known methods → Met 𝓛 𝓜 𝓡 𝓡.env S (record known { content = content }) methods
any_content 𝓛 𝓜 𝓡 S known methods content met = record {}
