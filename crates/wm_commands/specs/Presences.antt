-- What `wm up` does once it looked for a server.
use Rattle.std.specs.Prelude.{Bool, if◌then◌else◌}
use Rattle.wm_commands.specs.declared.presence.Presence.{Presence}
use Rattle.wm_commands.specs.declared.presence.Presence.TheVariants.{Answered, Silent, Absent}
use Rattle.wm_commands.specs.declared.presence.StartStep.{StartStep}
use Rattle.wm_commands.specs.declared.presence.StartStep.TheVariants.{Started, Ended, Late, Await}
use Rattle.wm_commands.specs.declared.presence.UpStep.{UpStep}
use Rattle.wm_commands.specs.declared.presence.ServerProcess.{ServerProcess}
use Rattle.wm_commands.specs.declared.presence.ServerProcess.TheVariants.{Missing, Own, Foreign}
use Rattle.wm_commands.specs.declared.presence.UpStep.TheVariants.{Keep, LookAgain, Start, Replace, Tell}

-- Nothing takes a connection. A server of `wm up` that made its socket has lost it, and is replaced. Another server may be about to make
-- its socket, so it is looked at again until it is late.
abbrev pub absent_step : ServerProcess → (is_late : Bool) → UpStep
absent_step Missing is_late = Start
absent_step Own is_late = Replace
absent_step Foreign is_late = if is_late then Tell else LookAgain

-- A server is kept only if it answered. One that took a connection and didn't answer is looked at again until it is late; then one is
-- started, as if none was there.
abbrev pub up_step : Presence → ServerProcess → (is_late : Bool) → UpStep
up_step Answered process is_late = Keep
up_step Silent process is_late = if is_late then Start else LookAgain
up_step Absent process is_late = absent_step process is_late

-- A server that was started is ready once it answers. Otherwise it failed if it has ended, and is given up if it is late.
abbrev pub start_step : Presence → (has_ended : Bool) → (is_late : Bool) → StartStep
start_step Answered has_ended is_late = Started
start_step Silent has_ended is_late = if has_ended then Ended else if is_late then Late else Await
start_step Absent has_ended is_late = if has_ended then Ended else if is_late then Late else Await
