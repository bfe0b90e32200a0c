-- What keeps a program from a file or a socket, and what to do.
use Rattle.std.specs.Prelude.{◌++◌, ℕ, List, [], Option, None, Some, codes, decimal, option_map, string_bytes}
use Rattle.wm_explain.specs.CauseLines.{said_of_path}
use Rattle.wm_explain.specs.Shown.{shown_text}
use Rattle.wm_findings.specs.declared.advice.Hindrance.{Hindrance}
use Rattle.wm_findings.specs.declared.advice.Hindrance.TheVariants.{Server, ClosedFile, ClosedSocket, Listener}

-- which process has the file
abbrev pub holder_text : (process : ℕ) → List ℕ
holder_text process = codes "another watchmand has it (pid " ++ decimal process ++ codes ")"

-- where it listens, if that is known
abbrev pub listening_text : (socket : Option (List ℕ)) → List ℕ
listening_text None = []
listening_text (Some socket) = codes " and listens at " ++ shown_text socket

abbrev pub kill_text : (process : ℕ) → List ℕ
kill_text process = codes "'kill " ++ decimal process ++ codes "' ends it"

-- a cause, what is added to it, and what to do
abbrev pub remedied : (cause added remedy : List ℕ) → List ℕ
remedied cause added remedy = cause ++ added ++ codes ": " ++ remedy

-- a server has the file
abbrev pub server_said : (process : ℕ) → (socket : Option (List ℕ)) → List ℕ
server_said process socket = remedied (holder_text process) (listening_text socket) (kill_text process)

-- whose it is, if another user owns it
abbrev pub owner_said : Option ℕ → List ℕ
owner_said None = []
owner_said (Some user) = codes " (user " ++ decimal user ++ codes " owns it)"

abbrev pub remedy_text : (thing : List ℕ) → List ℕ
remedy_text thing = codes "give it by chmod or chown, or name another " ++ thing

-- there is no right to a file or a socket
abbrev pub closed_said : (owner : Option ℕ) → (thing : List ℕ) → List ℕ
closed_said owner thing = remedied (codes "there is no right to it") (owner_said owner) (remedy_text thing)

-- a server listens there, which takes connections of this user
abbrev pub listener_said : (path : List ℕ) → List ℕ
listener_said path = codes "a server listens there: 'wm list --socket " ++ path ++ codes "' asks it, or name another socket"

abbrev pub hindrance_said : (path : List ℕ) → Hindrance → List ℕ
hindrance_said path (Server process socket) = server_said process (option_map string_bytes socket)
hindrance_said path (ClosedFile owner) = closed_said owner (codes "file")
hindrance_said path (ClosedSocket owner) = closed_said owner (codes "socket")
hindrance_said path Listener = listener_said path

abbrev pub hindrance_line : (path : List ℕ) → Hindrance → List ℕ
hindrance_line path hindrance = said_of_path (shown_text path) (hindrance_said (shown_text path) hindrance)
