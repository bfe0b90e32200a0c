-- The files of a state folder name the processes of one server.
use Rattle.std.specs.Prelude.{Bool, if◌then◌else◌}
use Rattle.wm_commands.specs.declared.claims.Claim.{Claim}
use Rattle.wm_commands.specs.declared.claims.Claim.TheVariants.{Free, Ours, Theirs}

-- a folder is free if no process of it runs, and another's if one runs for another socket
abbrev pub claim_of : (is_running is_same_socket : Bool) → Claim
claim_of is_running is_same_socket = if is_running then (if is_same_socket then Ours else Theirs) else Free
